use Rattle.std.proofs.Common.{◌≡◌, ◌+◌, ◌<◌, drop, length}
use Rattle.mon_types.specs.Budgets.{event_budget}
use Rattle.solo.specs.Solo.{core_from}
use Rattle.solo.proofs.one_core.OneCore.run.Given as goal

abbrev pub invariant-loop-i : goal.invariant-loop-i
invariant-loop-i l = record {
  left : core_from l.self (l.i + 1) (drop l.i l.script) ≡ core_from l.fn.self 1 l.script;
  room : length l.self.log < event_budget;
}
