use Rattle.std.proofs.Common.{◌≡◌, ◌≤◌, length, vec_capacity}
use Rattle.core_machine.specs.Start.{AreAtStart}
use Rattle.core_machine.proofs.start.Machine.new.Given as goal

abbrev pub invariant-loop-lines : goal.invariant-loop-lines
invariant-loop-lines l = record {
  count : length l.cores.items ≡ length l.yielded;
  room : l.image.config.cores ≤ vec_capacity l.cores;
  made : AreAtStart l.image l.fn.script.cores 0 l.cores.items;
}
