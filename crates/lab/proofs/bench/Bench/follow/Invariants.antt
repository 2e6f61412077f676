use Rattle.std.proofs.Common.{◌≡◌, take}
use Rattle.lab.specs.Stands.{IsReached}
use Rattle.lab.specs.Rounds.{cores_by, GoesUnder}
use Rattle.lab.proofs.bench.Bench.follow.Given as goal

abbrev pub invariant-loop-item : goal.invariant-loop-item
invariant-loop-item l = record {
  goes : GoesUnder (λ image. cores_by (take l.item-index l.schedule)) l.fn.self l.self;
  reached : IsReached l.self;
  config : l.self.config ≡ l.fn.self.config;
}
