use Rattle.std.proofs.Common.{◌∙◌}
use Rattle.rv_asm.proofs.Operands.{based_there, no_close}
use Rattle.rv_asm.proofs.operand.based.Goals as goal

pub returns-in-len2-up-clause-value : goal.returns-in-len2-up-clause-value
returns-in-len2-up-clause-value c = c.register.ensures.value ∙ based_there c.args.word.now c.in-len2-up.len_at_least c.if-first-eq40.true c.if-last-eq41.true

pub returns-in_default-2-clause-value : goal.returns-in_default-2-clause-value
returns-in_default-2-clause-value c = no_close c.args.word.now c.in-len2-up.len_at_least c.if-last-eq41.false
