use Rattle.std.proofs.Common.{◌≡◌, replicate}
use Rattle.lab.specs.Stands.{IsReached}
use Rattle.lab.specs.Rounds.{GoesUnder}
use Rattle.lab.proofs.bench.Bench.take_steps.Given as goal

abbrev pub invariant-loop-made : goal.invariant-loop-made
invariant-loop-made l = record {
  goes : GoesUnder (λ image. replicate l._made l.core) l.fn.self l.self;
  reached : IsReached l.self;
  config : l.self.config ≡ l.fn.self.config;
}
