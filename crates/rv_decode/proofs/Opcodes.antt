-- Which instructions have an opcode.
use Rattle.std.proofs.Common.{◌≡◌, ℕ, ℤ, Bool, ◌/◌, ◌%◌, ◌^◌, ◌⊎◌, Option, Some, inl, inr, refl, arith}
use Rattle.rv_ext.specs.declared.op.MulOp.{MulOp}
use Rattle.rv_ext.specs.declared.op.MulOp.TheVariants as muls
use Rattle.rv_ext.specs.declared.op.AmoOp.{AmoOp}
use Rattle.rv_decode.specs.declared.op.UpperOp.{UpperOp}
use Rattle.rv_decode.specs.declared.op.UpperOp.TheVariants as uppers
use Rattle.rv_decode.specs.declared.op.ImmOp.{ImmOp}
use Rattle.rv_decode.specs.declared.op.ImmOp.TheVariants as imms
use Rattle.rv_decode.specs.declared.op.RegOp.{RegOp}
use Rattle.rv_decode.specs.declared.op.RegOp.TheVariants as regs
use Rattle.rv_decode.specs.declared.inst.Inst.{Inst}
use Rattle.rv_decode.specs.declared.inst.Inst.TheVariants as insts
use Rattle.rv_decode.specs.declared.codes.ImmForm.{ImmForm}
use Rattle.rv_decode.specs.declared.codes.ImmForm.TheVariants as forms
use Rattle.rv_decode.specs.Table.{IsRow, IsImm, upper_opcode, imm_form, reg_code, mul_code}
use Rattle.rv_decode.specs.Parts.{HasForm, HasOperand, opcode_of, funct3_of}

-- a word in a form has the form's codes and operand
pub imm_split : (form : ImmForm) (word o f u rd rs1 : ℕ) (imm : ℤ) → o ≡ opcode_of word → f ≡ funct3_of word → u ≡ word / 2 ^ 26 → IsImm word form rd rs1 imm → HasForm o f u form × HasOperand word form imm
imm_split (forms.Plain opcode funct3) word o f u rd rs1 imm p q r h =
    let bits : h.imm_11_0 ≡ word / 2 ^ 20 = omega arith in
    ((omega arith, omega arith), cc)
imm_split (forms.Shift opcode funct3 limit upper) word o f u rd rs1 imm p q r h =
    let number : h.number ≡ word / 2 ^ 20 % 2 ^ 6 = omega arith in
    ((omega arith, omega arith, omega arith), (cc, omega arith))

upper_opcode_is : (op : UpperOp) → (upper_opcode op ≡ 0x37) ⊎ (upper_opcode op ≡ 0x17)
upper_opcode_is uppers.Lui = inl refl
upper_opcode_is uppers.Auipc = inr refl

imm_opcode_is : (op : ImmOp) (o f u : ℕ) → HasForm o f u (imm_form op) → (o ≡ 0x13) ⊎ (o ≡ 0x1b)
imm_opcode_is imms.Addiw o f u h = inr (omega arith)
imm_opcode_is imms.Slliw o f u h = inr (omega arith)
imm_opcode_is imms.Srliw o f u h = inr (omega arith)
imm_opcode_is imms.Sraiw o f u h = inr (omega arith)
imm_opcode_is op o f u h = inl (omega arith)

reg_opcode_is : (op : RegOp) → ((reg_code op).0 ≡ 0x33) ⊎ ((reg_code op).0 ≡ 0x3b)
reg_opcode_is regs.Addw = inr refl
reg_opcode_is regs.Subw = inr refl
reg_opcode_is regs.Sllw = inr refl
reg_opcode_is regs.Srlw = inr refl
reg_opcode_is regs.Sraw = inr refl
reg_opcode_is op = inl refl

mul_opcode_is : (op : MulOp) → ((mul_code op).0 ≡ 0x33) ⊎ ((mul_code op).0 ≡ 0x3b)
mul_opcode_is muls.Mulw = inr refl
mul_opcode_is muls.Divw = inr refl
mul_opcode_is muls.Divuw = inr refl
mul_opcode_is muls.Remw = inr refl
mul_opcode_is muls.Remuw = inr refl
mul_opcode_is op = inl refl

imm_row_opcode : (op : ImmOp) (word rd rs1 : ℕ) (imm : ℤ) → IsImm word (imm_form op) rd rs1 imm → (opcode_of word ≡ 0x13) ⊎ (opcode_of word ≡ 0x1b)
imm_row_opcode op word rd rs1 imm h =
    imm_opcode_is op _ _ _ (imm_split (imm_form op) word _ _ _ rd rs1 imm refl refl refl h).0

-- a word with the opcode of an operation on two registers is that of such an operation
pub registers_only : (word : ℕ) (r : Option Inst) → (opcode_of word ≡ 0x33) ⊎ (opcode_of word ≡ 0x3b) → ((op : RegOp) (rd rs1 rs2 : ℕ) → IsRow word (insts.Reg op rd rs1 rs2) → r ≡ Some (insts.Reg op rd rs1 rs2)) → ((op : MulOp) (rd rs1 rs2 : ℕ) → IsRow word (insts.Mul op rd rs1 rs2) → r ≡ Some (insts.Mul op rd rs1 rs2)) → (inst : Inst) → IsRow word inst → r ≡ Some inst
registers_only word r e f g (insts.Reg op rd rs1 rs2) h = f op rd rs1 rs2 h
registers_only word r e f g (insts.Mul op rd rs1 rs2) h = g op rd rs1 rs2 h
registers_only word r e f g (insts.Upper op rd imm) h =
    let k = upper_opcode_is op in absurd (grind arith)
registers_only word r e f g (insts.Imm op rd rs1 imm) h =
    let k = imm_row_opcode op word rd rs1 imm h in absurd (grind arith)
registers_only word r e f g inst h = absurd (grind arith)

-- a word with the opcode of the atomic instructions is one of them
pub atomic_only : (word : ℕ) (r : Option Inst) → opcode_of word ≡ 0x2f → ((op : AmoOp) (size : ℕ) (aq rl : Bool) (rd rs1 rs2 : ℕ) → IsRow word (insts.Amo op size aq rl rd rs1 rs2) → r ≡ Some (insts.Amo op size aq rl rd rs1 rs2)) → (inst : Inst) → IsRow word inst → r ≡ Some inst
atomic_only word r e f (insts.Amo op size aq rl rd rs1 rs2) h = f op size aq rl rd rs1 rs2 h
atomic_only word r e f (insts.Upper op rd imm) h =
    let k = upper_opcode_is op in absurd (grind arith)
atomic_only word r e f (insts.Imm op rd rs1 imm) h =
    let k = imm_row_opcode op word rd rs1 imm h in absurd (grind arith)
atomic_only word r e f (insts.Reg op rd rs1 rs2) h =
    let k = reg_opcode_is op in absurd (grind arith)
atomic_only word r e f (insts.Mul op rd rs1 rs2) h =
    let k = mul_opcode_is op in absurd (grind arith)
atomic_only word r e f inst h = absurd (grind arith)

-- a word with the opcode of the system instructions is one of the three
pub system_only : (word : ℕ) (r : Option Inst) → opcode_of word ≡ 0x73 → (IsRow word insts.Ecall → r ≡ Some insts.Ecall) → (IsRow word insts.Ebreak → r ≡ Some insts.Ebreak) → ((rs1 rs2 : ℕ) → IsRow word (insts.Sfence rs1 rs2) → r ≡ Some (insts.Sfence rs1 rs2)) → (inst : Inst) → IsRow word inst → r ≡ Some inst
system_only word r e f g s insts.Ecall h = f h
system_only word r e f g s insts.Ebreak h = g h
system_only word r e f g s (insts.Sfence rs1 rs2) h = s rs1 rs2 h
system_only word r e f g s (insts.Upper op rd imm) h =
    let k = upper_opcode_is op in absurd (grind arith)
system_only word r e f g s (insts.Imm op rd rs1 imm) h =
    let k = imm_row_opcode op word rd rs1 imm h in absurd (grind arith)
system_only word r e f g s (insts.Reg op rd rs1 rs2) h =
    let k = reg_opcode_is op in absurd (grind arith)
system_only word r e f g s (insts.Mul op rd rs1 rs2) h =
    let k = mul_opcode_is op in absurd (grind arith)
system_only word r e f g s inst h = absurd (grind arith)
