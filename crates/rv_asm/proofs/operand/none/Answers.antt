use Rattle.std.proofs.Common.{sym, ◌∙◌}
use Rattle.rv_asm.proofs.Operands.{over_none}
use Rattle.rv_asm.proofs.operand.none.Goals as goal

pub returns-else-is_empty : goal.returns-else-is_empty
returns-else-is_empty c = over_none c.args.text.now (sym c.is_empty.ensures ∙ c.if-is_empty.false)
