use Rattle.std.proofs.Common.{◌≡◌, refl, arith}
use Rattle.std.specs.Prelude.{max}
use Rattle.script_read.proofs.Drafting.{keeps_core}
use Rattle.script_read.proofs.draft.Draft.turn_to.Goals as goal

pub returns-then-core-self : goal.returns-then-core-self
returns-then-core-self c = λ count before k below.
    let top : c.args.core ≡ max c.args.self.now.top c.args.core = omega arith in
    keeps_core count c.args.core before c.args.self.now (record c.args.self.now { core = c.args.core; top = c.args.core }) k below refl top refl refl

pub returns-else-core-self : goal.returns-else-core-self
returns-else-core-self c = λ count before k below.
    let top : c.args.self.now.top ≡ max c.args.self.now.top c.args.core = omega arith in
    keeps_core count c.args.core before c.args.self.now (record c.args.self.now { core = c.args.core }) k below refl top refl refl
