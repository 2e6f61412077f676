use Rattle.std.proofs.Common.{sym, ◌∙◌}
use Rattle.rv_asm.proofs.Operands.{over_one}
use Rattle.rv_asm.proofs.operand.one.Goals as goal

pub returns-in_default-Some : goal.returns-in_default-Some
returns-in_default-Some c = over_one c.args.text.now _ _ c.in_default-Some.field-0-1 (sym c.is_empty.ensures ∙ c.if-is_empty.false) c.split_comma.ensures c.in_default-Some.is-1
