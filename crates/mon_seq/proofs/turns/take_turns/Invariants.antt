use Rattle.std.proofs.Common.{◌≡◌, ◌+◌, drop}
use Rattle.mon_seq.specs.Turns.{then_turns}
use Rattle.mon_seq.proofs.turns.take_turns.Given as goal

-- the turns that are left lead to the same end, on the same machine, with a ticket for each taken
abbrev pub invariant-loop-turn : goal.invariant-loop-turn
invariant-loop-turn l = record {
  left : then_turns l.monitor (drop l.turn-index l.turns) ≡ then_turns l.initial.monitor l.turns;
  machine : l.monitor.state.shape ≡ l.initial.monitor.state.shape;
  ticket : l.monitor.ticket ≡ l.initial.monitor.ticket + l.turn-index;
}
