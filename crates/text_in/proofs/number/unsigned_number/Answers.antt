use Rattle.std.proofs.Common.{◌∙◌, ap, arith}
use Rattle.text_in.specs.Numbers.{unsigned_of, up_to}
use Rattle.text_in.proofs.Numbers.{up_to_capped, unsigned_found, unsigned_only}
use Rattle.text_in.proofs.number.unsigned_number.Goals as goal

pub returns-clause-found : goal.returns-clause-found
returns-clause-found c = unsigned_found c.args.most c.args.word.now c.at_most.result (c.at_most.ensures.value ∙ ap (up_to c.args.most) c.capped_unsigned.ensures.value ∙ up_to_capped c.args.most (unsigned_of c.args.word.now) (omega arith))

pub returns-clause-only : goal.returns-clause-only
returns-clause-only c = unsigned_only c.args.most c.args.word.now c.at_most.result (c.at_most.ensures.value ∙ ap (up_to c.args.most) c.capped_unsigned.ensures.value ∙ up_to_capped c.args.most (unsigned_of c.args.word.now) (omega arith))
