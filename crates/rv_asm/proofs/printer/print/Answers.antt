use Rattle.std.proofs.Common.{◌++◌, ap, arith, ◌∙◌}
use Rattle.rv_asm.specs.Printing.{operand_texts, behind, printed}
use Rattle.rv_asm.proofs.Printed.{reads_back}
use Rattle.rv_asm.proofs.printer.print.Goals as goal

pub returns-clause-reads_back : goal.returns-clause-reads_back
unfolding printed
returns-clause-reads_back c = λ fits word row. reads_back c.args.inst.now word c.add_operands.new.text.bytes fits row (c.add_operands.ensures.text ∙ ap (λ x. x ++ behind (operand_texts c.args.inst.now)) c.add_name.ensures.text) (omega (arith, c.add_operands.ensures.within))
