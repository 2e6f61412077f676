-- The instruction of a word, read off its fields: by opcode, then by funct3, funct7 and the like, as the listings of
-- the RISC-V Unprivileged ISA (RV32/64G Instruction Set Listings) go; sfence.vma is of the Privileged ISA. This is the
-- table read from the left: decode says of one answer that it is this, and that it is the table's row.
use Rattle.std.specs.Prelude.{ℕ, ◌/◌, ◌%◌, ◌^◌, ◌==◌, ◌&&◌, ◌||◌, nat_lt, Bool, if◌then◌else◌, ℤ, pos, Option, Some, None}
use Rattle.rv_ext.specs.declared.op.MulOp.{MulOp}
use Rattle.rv_ext.specs.declared.op.MulOp.TheVariants as muls
use Rattle.rv_ext.specs.declared.op.AmoOp.{AmoOp}
use Rattle.rv_ext.specs.declared.op.AmoOp.TheVariants as amos
use Rattle.rv_decode.specs.declared.op.UpperOp.{UpperOp}
use Rattle.rv_decode.specs.declared.op.UpperOp.TheVariants as uppers
use Rattle.rv_decode.specs.declared.op.BranchOp.{BranchOp}
use Rattle.rv_decode.specs.declared.op.BranchOp.TheVariants as branches
use Rattle.rv_decode.specs.declared.op.LoadOp.{LoadOp}
use Rattle.rv_decode.specs.declared.op.LoadOp.TheVariants as loads
use Rattle.rv_decode.specs.declared.op.StoreOp.{StoreOp}
use Rattle.rv_decode.specs.declared.op.StoreOp.TheVariants as stores
use Rattle.rv_decode.specs.declared.op.ImmOp.{ImmOp}
use Rattle.rv_decode.specs.declared.op.ImmOp.TheVariants as imms
use Rattle.rv_decode.specs.declared.op.RegOp.{RegOp}
use Rattle.rv_decode.specs.declared.op.RegOp.TheVariants as regs
use Rattle.rv_decode.specs.declared.inst.Inst.{Inst}
use Rattle.rv_decode.specs.declared.inst.Inst.TheVariants as insts
use Rattle.rv_decode.specs.declared.codes.ImmForm.{ImmForm}
use Rattle.rv_decode.specs.declared.codes.ImmForm.TheVariants as forms
use Rattle.rv_decode.specs.Table.{imm_form}
use Rattle.rv_decode.specs.Parts.{opcode_of, rd_of, funct3_of, rs1_of, rs2_of, funct7_of, i_immediate_of, s_immediate_of, b_immediate_of, u_immediate_of, j_immediate_of}

-- ---- codes

-- the instruction with an upper immediate of an opcode
abbrev pub upper_op_of : ℕ → Option UpperOp
upper_op_of opcode = if opcode == 0x37 then Some uppers.Lui else if opcode == 0x17 then Some uppers.Auipc else None

-- the branch of a funct3
abbrev pub branch_op_of : ℕ → Option BranchOp
branch_op_of funct3 =
    if funct3 == 0 then Some branches.Beq else
    if funct3 == 1 then Some branches.Bne else
    if funct3 == 4 then Some branches.Blt else
    if funct3 == 5 then Some branches.Bge else
    if funct3 == 6 then Some branches.Bltu else
    if funct3 == 7 then Some branches.Bgeu else
    None

-- the load of a funct3
abbrev pub load_op_of : ℕ → Option LoadOp
load_op_of funct3 =
    if funct3 == 0 then Some loads.Lb else
    if funct3 == 1 then Some loads.Lh else
    if funct3 == 2 then Some loads.Lw else
    if funct3 == 3 then Some loads.Ld else
    if funct3 == 4 then Some loads.Lbu else
    if funct3 == 5 then Some loads.Lhu else
    if funct3 == 6 then Some loads.Lwu else
    None

-- the store of a funct3
abbrev pub store_op_of : ℕ → Option StoreOp
store_op_of funct3 =
    if funct3 == 0 then Some stores.Sb else
    if funct3 == 1 then Some stores.Sh else
    if funct3 == 2 then Some stores.Sw else
    if funct3 == 3 then Some stores.Sd else
    None

-- the operation with an immediate of an opcode and a funct3; of a shift also the six upper bits tell which it is
abbrev pub imm_op_of : ℕ → ℕ → ℕ → Option ImmOp
imm_op_of opcode funct3 upper =
    if opcode == 0x13 && funct3 == 0 then Some imms.Addi else
    if opcode == 0x13 && funct3 == 2 then Some imms.Slti else
    if opcode == 0x13 && funct3 == 3 then Some imms.Sltiu else
    if opcode == 0x13 && funct3 == 4 then Some imms.Xori else
    if opcode == 0x13 && funct3 == 6 then Some imms.Ori else
    if opcode == 0x13 && funct3 == 7 then Some imms.Andi else
    if opcode == 0x13 && funct3 == 1 && upper == 0x00 then Some imms.Slli else
    if opcode == 0x13 && funct3 == 5 && upper == 0x00 then Some imms.Srli else
    if opcode == 0x13 && funct3 == 5 && upper == 0x10 then Some imms.Srai else
    if opcode == 0x1b && funct3 == 0 then Some imms.Addiw else
    if opcode == 0x1b && funct3 == 1 && upper == 0x00 then Some imms.Slliw else
    if opcode == 0x1b && funct3 == 5 && upper == 0x00 then Some imms.Srliw else
    if opcode == 0x1b && funct3 == 5 && upper == 0x10 then Some imms.Sraiw else
    None

-- the operation on two registers of an opcode, a funct3 and a funct7
abbrev pub reg_op_of : ℕ → ℕ → ℕ → Option RegOp
reg_op_of opcode funct3 funct7 =
    if opcode == 0x33 && funct3 == 0 && funct7 == 0x00 then Some regs.Add else
    if opcode == 0x33 && funct3 == 0 && funct7 == 0x20 then Some regs.Sub else
    if opcode == 0x33 && funct3 == 1 && funct7 == 0x00 then Some regs.Sll else
    if opcode == 0x33 && funct3 == 2 && funct7 == 0x00 then Some regs.Slt else
    if opcode == 0x33 && funct3 == 3 && funct7 == 0x00 then Some regs.Sltu else
    if opcode == 0x33 && funct3 == 4 && funct7 == 0x00 then Some regs.Xor else
    if opcode == 0x33 && funct3 == 5 && funct7 == 0x00 then Some regs.Srl else
    if opcode == 0x33 && funct3 == 5 && funct7 == 0x20 then Some regs.Sra else
    if opcode == 0x33 && funct3 == 6 && funct7 == 0x00 then Some regs.Or else
    if opcode == 0x33 && funct3 == 7 && funct7 == 0x00 then Some regs.And else
    if opcode == 0x3b && funct3 == 0 && funct7 == 0x00 then Some regs.Addw else
    if opcode == 0x3b && funct3 == 0 && funct7 == 0x20 then Some regs.Subw else
    if opcode == 0x3b && funct3 == 1 && funct7 == 0x00 then Some regs.Sllw else
    if opcode == 0x3b && funct3 == 5 && funct7 == 0x00 then Some regs.Srlw else
    if opcode == 0x3b && funct3 == 5 && funct7 == 0x20 then Some regs.Sraw else
    None

-- the multiplication or division of an opcode and a funct3
abbrev pub mul_op_of : ℕ → ℕ → Option MulOp
mul_op_of opcode funct3 =
    if opcode == 0x33 && funct3 == 0 then Some muls.Mul else
    if opcode == 0x33 && funct3 == 1 then Some muls.Mulh else
    if opcode == 0x33 && funct3 == 2 then Some muls.Mulhsu else
    if opcode == 0x33 && funct3 == 3 then Some muls.Mulhu else
    if opcode == 0x33 && funct3 == 4 then Some muls.Div else
    if opcode == 0x33 && funct3 == 5 then Some muls.Divu else
    if opcode == 0x33 && funct3 == 6 then Some muls.Rem else
    if opcode == 0x33 && funct3 == 7 then Some muls.Remu else
    if opcode == 0x3b && funct3 == 0 then Some muls.Mulw else
    if opcode == 0x3b && funct3 == 4 then Some muls.Divw else
    if opcode == 0x3b && funct3 == 5 then Some muls.Divuw else
    if opcode == 0x3b && funct3 == 6 then Some muls.Remw else
    if opcode == 0x3b && funct3 == 7 then Some muls.Remuw else
    None

-- the atomic operation of the bits 31 to 27
abbrev pub amo_op_of : ℕ → Option AmoOp
amo_op_of code =
    if code == 0x01 then Some amos.Swap else
    if code == 0x00 then Some amos.Add else
    if code == 0x04 then Some amos.Xor else
    if code == 0x0c then Some amos.And else
    if code == 0x08 then Some amos.Or else
    if code == 0x10 then Some amos.Min else
    if code == 0x14 then Some amos.Max else
    if code == 0x18 then Some amos.Minu else
    if code == 0x1c then Some amos.Maxu else
    None

-- the number of bytes of an atomic instruction, by its funct3
abbrev pub amo_size_of : ℕ → Option ℕ
amo_size_of funct3 = if funct3 == 2 then Some 4 else if funct3 == 3 then Some 8 else None

-- ---- words, kind by kind

-- goes on with what was found, if anything was
infixl 10 ◌>>=◌
abbrev pub ◌>>=◌ : {A B : Type 0} → Option A → (A → Option B) → Option B
None >>= f = None
(Some x) >>= f = f x

-- lui and auipc
abbrev pub upper_of : ℕ → Option Inst
upper_of word = do
  op ← upper_op_of (opcode_of word)
  Some (insts.Upper op (rd_of word) (u_immediate_of word))

-- jal
abbrev pub jal_of : ℕ → Inst
jal_of word = insts.Jal (rd_of word) (j_immediate_of word)

-- jalr
abbrev pub jalr_of : ℕ → Option Inst
jalr_of word =
    if funct3_of word == 0 then Some (insts.Jalr (rd_of word) (rs1_of word) (i_immediate_of word)) else None

-- the branches
abbrev pub branch_of : ℕ → Option Inst
branch_of word = do
  op ← branch_op_of (funct3_of word)
  Some (insts.Branch op (rs1_of word) (rs2_of word) (b_immediate_of word))

-- the loads
abbrev pub load_of : ℕ → Option Inst
load_of word = do
  op ← load_op_of (funct3_of word)
  Some (insts.Load op (rd_of word) (rs1_of word) (i_immediate_of word))

-- the stores
abbrev pub store_of : ℕ → Option Inst
store_of word = do
  op ← store_op_of (funct3_of word)
  Some (insts.Store op (rs1_of word) (rs2_of word) (s_immediate_of word))

-- the immediate of an operation in this form: the word's 12 upper bits with their sign, or the number of a shift where
-- it is below the form's limit
abbrev pub operand_of : ℕ → ImmForm → Option ℤ
operand_of word (forms.Plain opcode funct3) = Some (i_immediate_of word)
operand_of word (forms.Shift opcode funct3 limit upper) =
    if nat_lt (word / 2 ^ 20 % 2 ^ 6) limit then Some (pos (word / 2 ^ 20 % 2 ^ 6)) else None

-- the operations with an immediate
abbrev pub immediate_of : ℕ → Option Inst
immediate_of word = do
  op ← imm_op_of (opcode_of word) (funct3_of word) (word / 2 ^ 26)
  imm ← operand_of word (imm_form op)
  Some (insts.Imm op (rd_of word) (rs1_of word) imm)

-- the multiplications and divisions, whose funct7 is 1
abbrev pub multiplication_of : ℕ → Option Inst
multiplication_of word = do
  op ← mul_op_of (opcode_of word) (funct3_of word)
  Some (insts.Mul op (rd_of word) (rs1_of word) (rs2_of word))

-- the other operations on two registers
abbrev pub operation_of : ℕ → Option Inst
operation_of word = do
  op ← reg_op_of (opcode_of word) (funct3_of word) (funct7_of word)
  Some (insts.Reg op (rd_of word) (rs1_of word) (rs2_of word))

-- all operations on two registers
abbrev pub registers_of : ℕ → Option Inst
registers_of word = if funct7_of word == 1 then multiplication_of word else operation_of word

-- the bit acquire of an atomic instruction, bit 26
abbrev pub aq_of : ℕ → Bool
aq_of word = funct7_of word / 2 % 2 == 1

-- the bit release of an atomic instruction, bit 25
abbrev pub rl_of : ℕ → Bool
rl_of word = funct7_of word % 2 == 1

-- the atomic instructions; the bits 31 to 27 tell which it is
abbrev pub atomic_of : ℕ → Option Inst
atomic_of word = do
  op ← amo_op_of (funct7_of word / 4)
  size ← amo_size_of (funct3_of word)
  Some (insts.Amo op size (aq_of word) (rl_of word) (rd_of word) (rs1_of word) (rs2_of word))

-- fence
abbrev pub fence_of : ℕ → Option Inst
fence_of word =
    if funct3_of word == 0 then Some (insts.Fence (rd_of word) (rs1_of word) (i_immediate_of word)) else None

-- sfence.vma, whose rd is 0
abbrev pub sfence_of : ℕ → Option Inst
sfence_of word =
    if rd_of word == 0 && funct3_of word == 0 && funct7_of word == 0x09
    then Some (insts.Sfence (rs1_of word) (rs2_of word)) else None

-- ecall and ebreak, of one word each, and sfence.vma
abbrev pub system_of : ℕ → Option Inst
system_of word =
    if word == 0x00000073 then Some insts.Ecall else
    if word == 0x00100073 then Some insts.Ebreak else
    sfence_of word

-- ---- all words

-- the instruction of a word of this opcode, if there is one
abbrev pub by_opcode : ℕ → ℕ → Option Inst
by_opcode word opcode =
    if opcode == 0x37 || opcode == 0x17 then upper_of word else
    if opcode == 0x6f then Some (jal_of word) else
    if opcode == 0x67 then jalr_of word else
    if opcode == 0x63 then branch_of word else
    if opcode == 0x03 then load_of word else
    if opcode == 0x23 then store_of word else
    if opcode == 0x13 || opcode == 0x1b then immediate_of word else
    if opcode == 0x33 || opcode == 0x3b then registers_of word else
    if opcode == 0x2f then atomic_of word else
    if opcode == 0x0f then fence_of word else
    if opcode == 0x73 then system_of word else
    None

-- the instruction of a word of 32 bits, None where the word is an illegal instruction
unfoldable pub decoded : ℕ → Option Inst
decoded word = by_opcode word (opcode_of word)
