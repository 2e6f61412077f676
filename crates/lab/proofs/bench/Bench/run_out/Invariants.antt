use Rattle.std.proofs.Common.{◌≡◌, ℕ, List, []}
use Rattle.mon_types.specs.declared.image.Image.{Image}
use Rattle.mon_types.specs.declared.script.Line.{Line}
use Rattle.protocol.specs.Runs.{Made}
use Rattle.lab.specs.Stands.{Stands, IsReached}
use Rattle.lab.specs.Rounds.{all_left, RunsOut}
use Rattle.lab.proofs.bench.Bench.run_out.Given as goal

abbrev pub invariant-rounds : goal.invariant-rounds
invariant-rounds l = record {
  runs : (image : Image) (script : List (List Line)) (run : List Made) → Stands image script run l.fn.self → RunsOut image script [] run l.self;
  reached : IsReached l.self;
  config : l.self.config ≡ l.fn.self.config;
}

abbrev pub decreases-rounds : goal.decreases-rounds
decreases-rounds l = all_left l.self
