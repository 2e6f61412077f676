use Rattle.std.proofs.Common.{sym, subst}
use Rattle.core_behaviour.specs.Runs.{run_by}
use Rattle.lab.specs.declared.bench.Bench.{Bench}
use Rattle.lab.specs.Stands.{Stands}
use Rattle.lab.proofs.Ends.{finished_by}
use Rattle.lab.proofs.lab.Lab.finish.Goals as goal

pub returns-clause-left : goal.returns-clause-left
returns-clause-left c = λ image script run s. c.finish.ensures image script run (subst (λ (b : Bench). Stands image script run b) (sym c.self.view_is) s)

pub returns-clause-finished : goal.returns-clause-finished
returns-clause-finished c = λ image script q count s.
    finished_by image script q count c.args.self c.finish.result s c.requires
    (c.finish.ensures image script (run_by image script q count) (subst (λ (b : Bench). Stands image script (run_by image script q count) b) (sym c.self.view_is) s))
