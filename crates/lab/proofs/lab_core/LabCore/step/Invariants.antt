use Rattle.std.proofs.Common.{◌≡◌, ◌≤◌, false}
use Rattle.core_machine.specs.Effort.{effort}
use Rattle.lab.proofs.Ways.{IsOnWay}
use Rattle.lab.proofs.lab_core.LabCore.step.Given as goal

abbrev pub invariant-work : goal.invariant-work
invariant-work l = record {
  way : IsOnWay l.number l.fn.self l.fn.words l.self l.words;
  goes : l.self.ended ≡ false;
  left : effort l.self.machine ≤ effort l.fn.self.machine;
}

abbrev pub decreases-work : goal.decreases-work
decreases-work l = effort l.self.machine
