use Rattle.std.proofs.Common.{◌≡◌, ◌-◌, ◌<◌, length}
use Rattle.mon_types.specs.Budgets.{event_budget}
use Rattle.solo.specs.Solo.{turns}
use Rattle.solo.proofs.one_core.OneCore.take_turns.Given as goal

abbrev pub invariant-loop-turn : goal.invariant-loop-turn
invariant-loop-turn l = record {
  left : turns l.line (l.count - l.turn) l.self ≡ turns l.line l.count l.fn.self;
  room : length l.self.log < event_budget;
}
