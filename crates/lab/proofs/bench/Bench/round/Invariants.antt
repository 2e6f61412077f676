use Rattle.std.proofs.Common.{◌≡◌, ◌+◌, ◌<◌, ◌≤◌, ℕ}
use Rattle.std.specs.List.{range_with_len}
use Rattle.lab.specs.Stands.{IsReached}
use Rattle.lab.specs.Rounds.{HasEnded, all_left, GoesUnder}
use Rattle.lab.proofs.bench.Bench.round.Given as goal

abbrev pub invariant-loop-core : goal.invariant-loop-core
invariant-loop-core l = record {
  goes : GoesUnder (λ image. range_with_len 0 l.core) l.fn.self l.self;
  reached : IsReached l.self;
  config : l.self.config ≡ l.fn.self.config;
  left : all_left l.self + l.made ≤ all_left l.fn.self;
  over : l.made ≡ 0 → (core : ℕ) → core < l.core → HasEnded l.self core;
  few : l.made ≤ l.core;
}
