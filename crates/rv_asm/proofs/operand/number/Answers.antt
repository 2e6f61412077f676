use Rattle.std.proofs.Common.{◌≡◌, Some, sym, ◌∙◌, arith, rules}
use Rattle.std.specs.Prelude.{FitsSigned}
use Rattle.std.specs.Int.{w128}
use Rattle.std.proofs.lemmas.Int.{to_z-of_z}
use Rattle.rv_asm.proofs.Cut.{number_within}
use Rattle.rv_asm.proofs.operand.number.Goals as goal

pub returns-clause-value : goal.returns-clause-value
returns-clause-value c =
    let some : c.word_number.result ≡ Some c.in_ok-n.n = grind arith in
    let fits : FitsSigned w128 c.in_ok-n.n = search rules in
    let least = c.ranges.least in
    let most = c.ranges.most in
    simp to_z-of_z at c.in_range.ensures.value
    ∙ number_within c.args.least c.args.most c.in_ok-n.n c.args.word.now c.requires.least c.requires.most (sym c.word_number.ensures.value ∙ some)
