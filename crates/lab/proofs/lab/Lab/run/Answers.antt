use Rattle.std.proofs.Common.{sym, subst}
use Rattle.lab.specs.declared.bench.Bench.{Bench}
use Rattle.lab.specs.Stands.{Stands}
use Rattle.lab.specs.Rounds.{cores_by}
use Rattle.lab.proofs.Turns.{runs_behind}
use Rattle.lab.proofs.lab.Lab.run.Goals as goal

pub returns-clause-runs : goal.returns-clause-runs
returns-clause-runs c = λ image script run s.
    runs_behind (cores_by c.args.schedule.now) c.self.inside.bench c.follow.new.self c.run_out.new.self c.follow.ensures.goes c.run_out.ensures.runs image script run
    (subst (λ (b : Bench). Stands image script run b) (sym c.self.view_is) s)
