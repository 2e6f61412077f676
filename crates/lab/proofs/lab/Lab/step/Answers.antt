use Rattle.std.proofs.Common.{sym, subst}
use Rattle.lab.specs.declared.bench.Bench.{Bench}
use Rattle.lab.specs.Stands.{Stands}
use Rattle.lab.proofs.lab.Lab.step.Goals as goal

pub returns-clause-ends : goal.returns-clause-ends
returns-clause-ends c = λ image script run s. c.step.ensures.ends image script run (subst (λ (b : Bench). Stands image script run b) (sym c.self.view_is) s)
