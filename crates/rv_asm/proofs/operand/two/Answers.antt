use Rattle.std.proofs.Common.{sym, ◌∙◌}
use Rattle.rv_asm.proofs.Operands.{over_two}
use Rattle.rv_asm.proofs.operand.two.Goals as goal

pub returns-in_default-Some-split_comma : goal.returns-in_default-Some-split_comma
returns-in_default-Some-split_comma c = over_two c.args.text.now _ _ _ _ c.in_default-Some.rest c.in_default-Some-split_comma.field-0-1 (sym c.is_empty.ensures ∙ c.if-is_empty.false) c.split_comma.ensures c.in_default-Some.is-1 (rw c.in_default-Some.rest-is at c.split_comma-2.ensures) c.in_default-Some-split_comma.is-1
