use Rattle.std.proofs.Common.{◌<◌, ◌≤◌, ◌-◌, ◌^◌, ℕ, get_or, length}
use Rattle.call_machine.proofs.begin.words.Given as goal

-- those before it are words
abbrev pub invariant-loop-at : goal.invariant-loop-at
invariant-loop-at l = record {
  end : l.at ≤ length l.words;
  before : (k : ℕ) → k < l.at → get_or l.words k 0 < 2 ^ 64;
}

abbrev pub decreases-loop-at : goal.decreases-loop-at
decreases-loop-at l = length l.words - l.at
