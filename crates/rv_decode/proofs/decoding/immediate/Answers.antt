-- Where the word is in a row, its operation has the word's codes, and its operand is found.
use Rattle.std.proofs.Common.{◌≡◌, ℤ, ◌∙◌, Option, Some, None, refl, sym, ap, subst, arith}
use Rattle.rv_decode.specs.declared.op.ImmOp.{ImmOp}
use Rattle.rv_decode.specs.declared.codes.ImmForm.{ImmForm}
use Rattle.rv_decode.specs.Table.{imm_form}
use Rattle.rv_decode.specs.Parts.{HasOperand}
use Rattle.rv_decode.proofs.Opcodes.{imm_split}
use Rattle.rv_decode.proofs.decoding.immediate.Goals as goal

one_op : (r : Option ImmOp) (a b : ImmOp) → r ≡ Some a → r ≡ Some b → a ≡ b
one_op r a b p q = cc

none_or_some : (r : Option ℤ) (imm : ℤ) → r ≡ None → r ≡ Some imm → ⊥
none_or_some r imm p q = cc

pub returns-in_err-imm-clause-only : goal.returns-in_err-imm-clause-only
returns-in_err-imm-clause-only c op rd rs1 imm h =
    let there = imm_split (imm_form op) c.args.word c.opcode.result c.funct3.result _ rd rs1 imm (omega arith) (omega arith) refl h in
    let found = c.imm_op.ensures.only op there.0 in
    let same = c.imm_form.ensures.code ∙ ap imm_form (one_op _ _ op c.in_ok-op.was found) in
    let operand = subst (λ (f : ImmForm). HasOperand c.args.word f imm) (sym same) there.1 in
    absurd (none_or_some _ imm c.in_err-imm.was (c.operand.ensures.only imm operand))
