use Rattle.std.proofs.Common.{◌∙◌, ap, arith}
use Rattle.text_in.specs.Numbers.{digits_number, up_to}
use Rattle.text_in.proofs.Numbers.{up_to_capped, decimal_found, decimal_only}
use Rattle.text_in.proofs.number.decimal_number.Goals as goal

pub returns-clause-found : goal.returns-clause-found
returns-clause-found c = decimal_found c.args.most c.args.word.now c.at_most.result (c.at_most.ensures.value ∙ ap (up_to c.args.most) c.capped_decimal.ensures.value ∙ up_to_capped c.args.most (digits_number 10 c.args.word.now) (omega arith))

pub returns-clause-only : goal.returns-clause-only
returns-clause-only c = decimal_only c.args.most c.args.word.now c.at_most.result (c.at_most.ensures.value ∙ ap (up_to c.args.most) c.capped_decimal.ensures.value ∙ up_to_capped c.args.most (digits_number 10 c.args.word.now) (omega arith))
