use Rattle.std.proofs.Common.{◌<◌, [], ◌∷◌, ◌++◌, ap, subst, arith}
use Rattle.std.specs.Prelude.{vec_len}
use Rattle.script_read.specs.declared.said.Said.{Said}
use Rattle.script_read.specs.declared.said.Said.TheVariants as says
use Rattle.script_read.specs.Reading.{said_next}
use Rattle.script_read.specs.Drafts.{MayBeSaid}
use Rattle.script_read.proofs.draft.Draft.take.Goals as goal

pub returns-in_ok-push-in-Line : goal.returns-in_ok-push-in-Line
returns-in_ok-push-in-Line c = λ count before k.
    (before ++ says.Line c.in-Line.made ∷ [], ap (said_next c.args.line before) c.in-Line.is, c.in_ok-push-in-Line.ensures count before k)

pub returns-in-Core : goal.returns-in-Core
returns-in-Core c = λ count before k.
    let named : c.in-Core.core < vec_len c.args.self.now.lists = subst (λ (s : Said). MayBeSaid (vec_len c.args.self.now.lists) s) c.in-Core.is c.requires.said in
    let below : c.in-Core.core < count = omega (arith, k.size) in
    (before ++ says.Core c.in-Core.core ∷ [], ap (said_next c.args.line before) c.in-Core.is, c.turn_to.ensures count before k below)
