use Rattle.rv_asm.proofs.Operands.{first_part, first_part_alone}
use Rattle.rv_asm.proofs.text.split_comma.Goals as goal

pub returns-in-empty : goal.returns-in-empty
returns-in-empty c = first_part_alone c.args.text.now c.before-2.result.now c.from.result.now c.without_spaces-part.result.now c.before-2.ensures c.from.ensures c.without_spaces-part.ensures c.in-empty.len_below

pub returns-in-len1-up : goal.returns-in-len1-up
returns-in-len1-up c = first_part c.args.text.now c.before-2.result.now c.from.result.now c.without_spaces-part.result.now c.before-2.ensures c.from.ensures c.without_spaces-part.ensures c.in-len1-up.len_at_least
