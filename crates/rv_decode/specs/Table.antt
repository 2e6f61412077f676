-- The instruction table: which word is which instruction. RV64I, RV64M and Zaamo of the RISC-V Unprivileged ISA
-- (RV32/64G Instruction Set Listings), and sfence.vma of the Privileged ISA.
use Rattle.std.specs.Prelude.{◌≡◌, ℕ, ◌+◌, ◌*◌, ◌^◌, ◌%◌, ◌<◌, ⊤, ◌⊎◌, Bool, true, false, ℤ, pos, neg_ℤ, ◌≤ℤ◌, ◌<ℤ◌, unsigned_abs}
use Rattle.rv_ext.specs.declared.op.MulOp.{MulOp}
use Rattle.rv_ext.specs.declared.op.MulOp.TheVariants as muls
use Rattle.rv_ext.specs.declared.op.AmoOp.{AmoOp}
use Rattle.rv_ext.specs.declared.op.AmoOp.TheVariants as amos
use Rattle.rv_decode.specs.declared.op.UpperOp.{UpperOp}
use Rattle.rv_decode.specs.declared.op.UpperOp.TheVariants as uppers
use Rattle.rv_decode.specs.declared.op.BranchOp.{BranchOp}
use Rattle.rv_decode.specs.declared.op.BranchOp.TheVariants as branches
use Rattle.rv_decode.specs.declared.op.LoadOp.{LoadOp}
use Rattle.rv_decode.specs.declared.op.LoadOp.TheVariants as loads
use Rattle.rv_decode.specs.declared.op.StoreOp.{StoreOp}
use Rattle.rv_decode.specs.declared.op.StoreOp.TheVariants as stores
use Rattle.rv_decode.specs.declared.op.ImmOp.{ImmOp}
use Rattle.rv_decode.specs.declared.op.ImmOp.TheVariants as imms
use Rattle.rv_decode.specs.declared.op.RegOp.{RegOp}
use Rattle.rv_decode.specs.declared.op.RegOp.TheVariants as regs
use Rattle.rv_decode.specs.declared.inst.Inst.{Inst}
use Rattle.rv_decode.specs.declared.inst.Inst.TheVariants as insts
use Rattle.rv_decode.specs.declared.codes.ImmForm.{ImmForm}
use Rattle.rv_decode.specs.declared.codes.ImmForm.TheVariants as forms
use Rattle.rv_decode.specs.Formats.{IsR, IsI, IsShift, IsS, IsB, IsU, IsJ}

-- the opcode of an instruction with an upper immediate
abbrev pub upper_opcode : UpperOp → ℕ
upper_opcode uppers.Lui = 0x37
upper_opcode uppers.Auipc = 0x17

-- funct3 of a branch, whose opcode is 63
abbrev pub branch_funct3 : BranchOp → ℕ
branch_funct3 branches.Beq = 0
branch_funct3 branches.Bne = 1
branch_funct3 branches.Blt = 4
branch_funct3 branches.Bge = 5
branch_funct3 branches.Bltu = 6
branch_funct3 branches.Bgeu = 7

-- funct3 of a load, whose opcode is 03
abbrev pub load_funct3 : LoadOp → ℕ
load_funct3 loads.Lb = 0
load_funct3 loads.Lh = 1
load_funct3 loads.Lw = 2
load_funct3 loads.Ld = 3
load_funct3 loads.Lbu = 4
load_funct3 loads.Lhu = 5
load_funct3 loads.Lwu = 6

-- funct3 of a store, whose opcode is 23
abbrev pub store_funct3 : StoreOp → ℕ
store_funct3 stores.Sb = 0
store_funct3 stores.Sh = 1
store_funct3 stores.Sw = 2
store_funct3 stores.Sd = 3

-- opcode and funct3 of an operation with an immediate; of a shift also the limit of its number and the word's six upper
-- bits
abbrev pub imm_form : ImmOp → ImmForm
imm_form imms.Addi = forms.Plain 0x13 0
imm_form imms.Slti = forms.Plain 0x13 2
imm_form imms.Sltiu = forms.Plain 0x13 3
imm_form imms.Xori = forms.Plain 0x13 4
imm_form imms.Ori = forms.Plain 0x13 6
imm_form imms.Andi = forms.Plain 0x13 7
imm_form imms.Slli = forms.Shift 0x13 1 64 0x00
imm_form imms.Srli = forms.Shift 0x13 5 64 0x00
imm_form imms.Srai = forms.Shift 0x13 5 64 0x10
imm_form imms.Addiw = forms.Plain 0x1b 0
imm_form imms.Slliw = forms.Shift 0x1b 1 32 0x00
imm_form imms.Srliw = forms.Shift 0x1b 5 32 0x00
imm_form imms.Sraiw = forms.Shift 0x1b 5 32 0x10

-- opcode, funct3 and funct7 of an operation on two registers
abbrev pub reg_code : RegOp → ℕ × ℕ × ℕ
reg_code regs.Add = (0x33, 0, 0x00)
reg_code regs.Sub = (0x33, 0, 0x20)
reg_code regs.Sll = (0x33, 1, 0x00)
reg_code regs.Slt = (0x33, 2, 0x00)
reg_code regs.Sltu = (0x33, 3, 0x00)
reg_code regs.Xor = (0x33, 4, 0x00)
reg_code regs.Srl = (0x33, 5, 0x00)
reg_code regs.Sra = (0x33, 5, 0x20)
reg_code regs.Or = (0x33, 6, 0x00)
reg_code regs.And = (0x33, 7, 0x00)
reg_code regs.Addw = (0x3b, 0, 0x00)
reg_code regs.Subw = (0x3b, 0, 0x20)
reg_code regs.Sllw = (0x3b, 1, 0x00)
reg_code regs.Srlw = (0x3b, 5, 0x00)
reg_code regs.Sraw = (0x3b, 5, 0x20)

-- opcode and funct3 of a multiplication or division, whose funct7 is 01
abbrev pub mul_code : MulOp → ℕ × ℕ
mul_code muls.Mul = (0x33, 0)
mul_code muls.Mulh = (0x33, 1)
mul_code muls.Mulhsu = (0x33, 2)
mul_code muls.Mulhu = (0x33, 3)
mul_code muls.Div = (0x33, 4)
mul_code muls.Divu = (0x33, 5)
mul_code muls.Rem = (0x33, 6)
mul_code muls.Remu = (0x33, 7)
mul_code muls.Mulw = (0x3b, 0)
mul_code muls.Divw = (0x3b, 4)
mul_code muls.Divuw = (0x3b, 5)
mul_code muls.Remw = (0x3b, 6)
mul_code muls.Remuw = (0x3b, 7)

-- the bits 31 to 27 of an atomic instruction, whose opcode is 2f
abbrev pub amo_code : AmoOp → ℕ
amo_code amos.Swap = 0x01
amo_code amos.Add = 0x00
amo_code amos.Xor = 0x04
amo_code amos.And = 0x0c
amo_code amos.Or = 0x08
amo_code amos.Min = 0x10
amo_code amos.Max = 0x14
amo_code amos.Minu = 0x18
amo_code amos.Maxu = 0x1c

-- a bit of a word: 1 where it is set
abbrev pub bit : Bool → ℕ
bit true = 1
bit false = 0

-- funct7 of an atomic instruction: its bits 31 to 27, then acquire and release
abbrev pub amo_funct7 : AmoOp → Bool → Bool → ℕ
amo_funct7 op aq rl = 4 * amo_code op + 2 * bit aq + bit rl

-- the word is an operation with an immediate that is written in this form
abbrev pub IsImm : ℕ → ImmForm → ℕ → ℕ → ℤ → Type 0
IsImm word (forms.Plain opcode funct3) rd rs1 imm = IsI word opcode rd funct3 rs1 imm
IsImm word (forms.Shift opcode funct3 limit upper) rd rs1 imm = IsShift word opcode rd funct3 rs1 limit upper imm

-- the word is an atomic instruction: funct3 is 2 for four bytes, and 3 for eight
abbrev pub IsAmo : ℕ → ℕ → ℕ → ℕ → ℕ → ℕ → Type 0
IsAmo word size rd rs1 rs2 funct7 =
    ((size ≡ 4) × IsR word 0x2f rd 2 rs1 rs2 funct7) ⊎ ((size ≡ 8) × IsR word 0x2f rd 3 rs1 rs2 funct7)

-- the word is this instruction
abbrev pub IsRow : ℕ → Inst → Type 0
IsRow word (insts.Upper op rd imm) = IsU word (upper_opcode op) rd imm
IsRow word (insts.Jal rd imm) = IsJ word 0x6f rd imm
IsRow word (insts.Jalr rd rs1 imm) = IsI word 0x67 rd 0 rs1 imm
IsRow word (insts.Branch op rs1 rs2 imm) = IsB word 0x63 (branch_funct3 op) rs1 rs2 imm
IsRow word (insts.Load op rd rs1 imm) = IsI word 0x03 rd (load_funct3 op) rs1 imm
IsRow word (insts.Store op rs1 rs2 imm) = IsS word 0x23 (store_funct3 op) rs1 rs2 imm
IsRow word (insts.Imm op rd rs1 imm) = IsImm word (imm_form op) rd rs1 imm
IsRow word (insts.Reg op rd rs1 rs2) = IsR word (reg_code op).0 rd (reg_code op).1 rs1 rs2 (reg_code op).2
IsRow word (insts.Mul op rd rs1 rs2) = IsR word (mul_code op).0 rd (mul_code op).1 rs1 rs2 0x01
IsRow word (insts.Amo op size aq rl rd rs1 rs2) = IsAmo word size rd rs1 rs2 (amo_funct7 op aq rl)
IsRow word (insts.Fence rd rs1 imm) = IsI word 0x0f rd 0 rs1 imm
IsRow word insts.Ecall = word ≡ 0x00000073
IsRow word insts.Ebreak = word ≡ 0x00100073
IsRow word (insts.Sfence rs1 rs2) = IsR word 0x73 0 0 rs1 rs2 0x09

-- the number of a register
abbrev pub IsRegister : ℕ → Type 0
IsRegister r = r < 32

-- an immediate: a multiple of step, from -half up to and without half
pub record IsImmediate (half step : ℕ) (imm : ℤ) : Type 0 where
  pub least : neg_ℤ (pos half) ≤ℤ imm
  pub below : imm <ℤ pos half
  pub multiple : unsigned_abs imm % step ≡ 0

-- the immediate of an operation that is written in this form: 12 bits with a sign, or the number of a shift
abbrev pub IsOperand : ImmForm → ℤ → Type 0
IsOperand (forms.Plain opcode funct3) imm = IsImmediate 2048 1 imm
IsOperand (forms.Shift opcode funct3 limit upper) imm = (pos 0 ≤ℤ imm) × (imm <ℤ pos limit)

-- an instruction whose operands are in range: it has a word
abbrev pub IsInst : Inst → Type 0
IsInst (insts.Upper op rd imm) = IsRegister rd × IsImmediate (2 ^ 31) 4096 imm
IsInst (insts.Jal rd imm) = IsRegister rd × IsImmediate (2 ^ 20) 2 imm
IsInst (insts.Jalr rd rs1 imm) = IsRegister rd × IsRegister rs1 × IsImmediate 2048 1 imm
IsInst (insts.Branch op rs1 rs2 imm) = IsRegister rs1 × IsRegister rs2 × IsImmediate 4096 2 imm
IsInst (insts.Load op rd rs1 imm) = IsRegister rd × IsRegister rs1 × IsImmediate 2048 1 imm
IsInst (insts.Store op rs1 rs2 imm) = IsRegister rs1 × IsRegister rs2 × IsImmediate 2048 1 imm
IsInst (insts.Imm op rd rs1 imm) = IsRegister rd × IsRegister rs1 × IsOperand (imm_form op) imm
IsInst (insts.Reg op rd rs1 rs2) = IsRegister rd × IsRegister rs1 × IsRegister rs2
IsInst (insts.Mul op rd rs1 rs2) = IsRegister rd × IsRegister rs1 × IsRegister rs2
IsInst (insts.Amo op size aq rl rd rs1 rs2) =
    ((size ≡ 4) ⊎ (size ≡ 8)) × IsRegister rd × IsRegister rs1 × IsRegister rs2
IsInst (insts.Fence rd rs1 imm) = IsRegister rd × IsRegister rs1 × IsImmediate 2048 1 imm
IsInst insts.Ecall = ⊤
IsInst insts.Ebreak = ⊤
IsInst (insts.Sfence rs1 rs2) = IsRegister rs1 × IsRegister rs2
