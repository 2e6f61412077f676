-- The names of statements. All of it is this project's own; the instructions' names are those of the RISC-V ISA.
use Rattle.std.specs.Prelude.{ℕ, Bool, true, false, List, [], ◌∷◌, ◌++◌, ◌==◌, if◌then◌else◌, codes, Option}
use Rattle.std.specs.List.{find}
use Rattle.std.specs.Str.{bytes_eq}
use Rattle.rv_decode.specs.declared.op.UpperOp.{UpperOp}
use Rattle.rv_decode.specs.declared.op.UpperOp.TheVariants as uppers
use Rattle.rv_decode.specs.declared.op.BranchOp.{BranchOp}
use Rattle.rv_decode.specs.declared.op.BranchOp.TheVariants as branches
use Rattle.rv_decode.specs.declared.op.LoadOp.{LoadOp}
use Rattle.rv_decode.specs.declared.op.LoadOp.TheVariants as loads
use Rattle.rv_decode.specs.declared.op.StoreOp.{StoreOp}
use Rattle.rv_decode.specs.declared.op.StoreOp.TheVariants as stores
use Rattle.rv_decode.specs.declared.op.ImmOp.{ImmOp}
use Rattle.rv_decode.specs.declared.op.ImmOp.TheVariants as imms
use Rattle.rv_decode.specs.declared.op.RegOp.{RegOp}
use Rattle.rv_decode.specs.declared.op.RegOp.TheVariants as regs
use Rattle.rv_ext.specs.declared.op.MulOp.{MulOp}
use Rattle.rv_ext.specs.declared.op.MulOp.TheVariants as muls
use Rattle.rv_ext.specs.declared.op.AmoOp.{AmoOp}
use Rattle.rv_ext.specs.declared.op.AmoOp.TheVariants as amos
use Rattle.rv_decode.specs.declared.inst.Inst.{Inst}
use Rattle.rv_decode.specs.declared.inst.Inst.TheVariants as insts
use Rattle.rv_asm.specs.declared.name.Width.{Width}
use Rattle.rv_asm.specs.declared.name.Width.TheVariants as widths
use Rattle.rv_asm.specs.declared.name.Name.{Name}
use Rattle.rv_asm.specs.declared.name.Name.TheVariants as names

-- the names of the instructions with an upper immediate
abbrev pub upper_name : UpperOp → List ℕ
upper_name uppers.Lui = codes "lui"
upper_name uppers.Auipc = codes "auipc"

-- the names of the instructions that are branches
abbrev pub branch_name : BranchOp → List ℕ
branch_name branches.Beq = codes "beq"
branch_name branches.Bne = codes "bne"
branch_name branches.Blt = codes "blt"
branch_name branches.Bge = codes "bge"
branch_name branches.Bltu = codes "bltu"
branch_name branches.Bgeu = codes "bgeu"

-- the names of the instructions that are loads
abbrev pub load_name : LoadOp → List ℕ
load_name loads.Lb = codes "lb"
load_name loads.Lh = codes "lh"
load_name loads.Lw = codes "lw"
load_name loads.Ld = codes "ld"
load_name loads.Lbu = codes "lbu"
load_name loads.Lhu = codes "lhu"
load_name loads.Lwu = codes "lwu"

-- the names of the instructions that are stores
abbrev pub store_name : StoreOp → List ℕ
store_name stores.Sb = codes "sb"
store_name stores.Sh = codes "sh"
store_name stores.Sw = codes "sw"
store_name stores.Sd = codes "sd"

-- the names of the instructions with an immediate
abbrev pub imm_name : ImmOp → List ℕ
imm_name imms.Addi = codes "addi"
imm_name imms.Slti = codes "slti"
imm_name imms.Sltiu = codes "sltiu"
imm_name imms.Xori = codes "xori"
imm_name imms.Ori = codes "ori"
imm_name imms.Andi = codes "andi"
imm_name imms.Slli = codes "slli"
imm_name imms.Srli = codes "srli"
imm_name imms.Srai = codes "srai"
imm_name imms.Addiw = codes "addiw"
imm_name imms.Slliw = codes "slliw"
imm_name imms.Srliw = codes "srliw"
imm_name imms.Sraiw = codes "sraiw"

-- the names of the instructions on registers
abbrev pub reg_name : RegOp → List ℕ
reg_name regs.Add = codes "add"
reg_name regs.Sub = codes "sub"
reg_name regs.Sll = codes "sll"
reg_name regs.Slt = codes "slt"
reg_name regs.Sltu = codes "sltu"
reg_name regs.Xor = codes "xor"
reg_name regs.Srl = codes "srl"
reg_name regs.Sra = codes "sra"
reg_name regs.Or = codes "or"
reg_name regs.And = codes "and"
reg_name regs.Addw = codes "addw"
reg_name regs.Subw = codes "subw"
reg_name regs.Sllw = codes "sllw"
reg_name regs.Srlw = codes "srlw"
reg_name regs.Sraw = codes "sraw"

-- the names of the instructions that multiply and divide
abbrev pub mul_name : MulOp → List ℕ
mul_name muls.Mul = codes "mul"
mul_name muls.Mulh = codes "mulh"
mul_name muls.Mulhsu = codes "mulhsu"
mul_name muls.Mulhu = codes "mulhu"
mul_name muls.Div = codes "div"
mul_name muls.Divu = codes "divu"
mul_name muls.Rem = codes "rem"
mul_name muls.Remu = codes "remu"
mul_name muls.Mulw = codes "mulw"
mul_name muls.Divw = codes "divw"
mul_name muls.Divuw = codes "divuw"
mul_name muls.Remw = codes "remw"
mul_name muls.Remuw = codes "remuw"

-- the names of the atomic instructions, without what follows the first dot
abbrev pub amo_name : AmoOp → List ℕ
amo_name amos.Swap = codes "amoswap"
amo_name amos.Add = codes "amoadd"
amo_name amos.Xor = codes "amoxor"
amo_name amos.And = codes "amoand"
amo_name amos.Or = codes "amoor"
amo_name amos.Min = codes "amomin"
amo_name amos.Max = codes "amomax"
amo_name amos.Minu = codes "amominu"
amo_name amos.Maxu = codes "amomaxu"

-- what the width of an atomic instruction puts behind its first dot, the dot too
abbrev pub width_text : Width → List ℕ
width_text widths.Four = codes ".w"
width_text widths.Eight = codes ".d"

-- what acquire and release put behind the name of an atomic instruction
abbrev pub order : Bool → Bool → List ℕ
order false false = []
order true false = codes ".aq"
order false true = codes ".rl"
order true true = codes ".aqrl"

-- the word that names a statement
unfoldable pub name_text : Name → List ℕ
name_text (names.Upper op) = upper_name op
name_text (names.Branch op) = branch_name op
name_text (names.Load op) = load_name op
name_text (names.Store op) = store_name op
name_text (names.Imm op) = imm_name op
name_text (names.Reg op) = reg_name op
name_text (names.Mul op) = mul_name op
name_text (names.Amo op width aq rl) = amo_name op ++ (width_text width ++ order aq rl)
name_text names.Jal = codes "jal"
name_text names.Jalr = codes "jalr"
name_text names.Fence = codes "fence"
name_text names.Ecall = codes "ecall"
name_text names.Ebreak = codes "ebreak"
name_text names.Sfence = codes "sfence.vma"
name_text names.Word = codes ".word"
name_text names.DoubleWord = codes ".dword"
name_text names.At = codes ".at"

-- the name of an instruction
abbrev pub name_of : Inst → Name
name_of (insts.Upper op rd imm) = names.Upper op
name_of (insts.Jal rd imm) = names.Jal
name_of (insts.Jalr rd rs1 imm) = names.Jalr
name_of (insts.Branch op rs1 rs2 imm) = names.Branch op
name_of (insts.Load op rd rs1 imm) = names.Load op
name_of (insts.Store op rs1 rs2 imm) = names.Store op
name_of (insts.Imm op rd rs1 imm) = names.Imm op
name_of (insts.Reg op rd rs1 rs2) = names.Reg op
name_of (insts.Mul op rd rs1 rs2) = names.Mul op
name_of (insts.Amo op size aq rl rd rs1 rs2) = names.Amo op (if size == 4 then widths.Four else widths.Eight) aq rl
name_of (insts.Fence rd rs1 imm) = names.Fence
name_of insts.Ecall = names.Ecall
name_of insts.Ebreak = names.Ebreak
name_of (insts.Sfence rs1 rs2) = names.Sfence

-- every name, each once
abbrev pub all_names : List Name
all_names =
    names.Upper uppers.Lui ∷ names.Upper uppers.Auipc ∷ names.Jal ∷ names.Jalr ∷ names.Branch branches.Beq
    ∷ names.Branch branches.Bne ∷ names.Branch branches.Blt ∷ names.Branch branches.Bge ∷ names.Branch branches.Bltu
    ∷ names.Branch branches.Bgeu ∷ names.Load loads.Lb ∷ names.Load loads.Lh ∷ names.Load loads.Lw
    ∷ names.Load loads.Ld ∷ names.Load loads.Lbu ∷ names.Load loads.Lhu ∷ names.Load loads.Lwu ∷ names.Store stores.Sb
    ∷ names.Store stores.Sh ∷ names.Store stores.Sw ∷ names.Store stores.Sd ∷ names.Imm imms.Addi
    ∷ names.Imm imms.Slti ∷ names.Imm imms.Sltiu ∷ names.Imm imms.Xori ∷ names.Imm imms.Ori ∷ names.Imm imms.Andi
    ∷ names.Imm imms.Slli ∷ names.Imm imms.Srli ∷ names.Imm imms.Srai ∷ names.Imm imms.Addiw ∷ names.Imm imms.Slliw
    ∷ names.Imm imms.Srliw ∷ names.Imm imms.Sraiw ∷ names.Reg regs.Add ∷ names.Reg regs.Sub ∷ names.Reg regs.Sll
    ∷ names.Reg regs.Slt ∷ names.Reg regs.Sltu ∷ names.Reg regs.Xor ∷ names.Reg regs.Srl ∷ names.Reg regs.Sra
    ∷ names.Reg regs.Or ∷ names.Reg regs.And ∷ names.Reg regs.Addw ∷ names.Reg regs.Subw ∷ names.Reg regs.Sllw
    ∷ names.Reg regs.Srlw ∷ names.Reg regs.Sraw ∷ names.Mul muls.Mul ∷ names.Mul muls.Mulh ∷ names.Mul muls.Mulhsu
    ∷ names.Mul muls.Mulhu ∷ names.Mul muls.Div ∷ names.Mul muls.Divu ∷ names.Mul muls.Rem ∷ names.Mul muls.Remu
    ∷ names.Mul muls.Mulw ∷ names.Mul muls.Divw ∷ names.Mul muls.Divuw ∷ names.Mul muls.Remw ∷ names.Mul muls.Remuw
    ∷ names.Amo amos.Swap widths.Four false false ∷ names.Amo amos.Swap widths.Four true false
    ∷ names.Amo amos.Swap widths.Four false true ∷ names.Amo amos.Swap widths.Four true true
    ∷ names.Amo amos.Swap widths.Eight false false ∷ names.Amo amos.Swap widths.Eight true false
    ∷ names.Amo amos.Swap widths.Eight false true ∷ names.Amo amos.Swap widths.Eight true true
    ∷ names.Amo amos.Add widths.Four false false ∷ names.Amo amos.Add widths.Four true false
    ∷ names.Amo amos.Add widths.Four false true ∷ names.Amo amos.Add widths.Four true true
    ∷ names.Amo amos.Add widths.Eight false false ∷ names.Amo amos.Add widths.Eight true false
    ∷ names.Amo amos.Add widths.Eight false true ∷ names.Amo amos.Add widths.Eight true true
    ∷ names.Amo amos.Xor widths.Four false false ∷ names.Amo amos.Xor widths.Four true false
    ∷ names.Amo amos.Xor widths.Four false true ∷ names.Amo amos.Xor widths.Four true true
    ∷ names.Amo amos.Xor widths.Eight false false ∷ names.Amo amos.Xor widths.Eight true false
    ∷ names.Amo amos.Xor widths.Eight false true ∷ names.Amo amos.Xor widths.Eight true true
    ∷ names.Amo amos.And widths.Four false false ∷ names.Amo amos.And widths.Four true false
    ∷ names.Amo amos.And widths.Four false true ∷ names.Amo amos.And widths.Four true true
    ∷ names.Amo amos.And widths.Eight false false ∷ names.Amo amos.And widths.Eight true false
    ∷ names.Amo amos.And widths.Eight false true ∷ names.Amo amos.And widths.Eight true true
    ∷ names.Amo amos.Or widths.Four false false ∷ names.Amo amos.Or widths.Four true false
    ∷ names.Amo amos.Or widths.Four false true ∷ names.Amo amos.Or widths.Four true true
    ∷ names.Amo amos.Or widths.Eight false false ∷ names.Amo amos.Or widths.Eight true false
    ∷ names.Amo amos.Or widths.Eight false true ∷ names.Amo amos.Or widths.Eight true true
    ∷ names.Amo amos.Min widths.Four false false ∷ names.Amo amos.Min widths.Four true false
    ∷ names.Amo amos.Min widths.Four false true ∷ names.Amo amos.Min widths.Four true true
    ∷ names.Amo amos.Min widths.Eight false false ∷ names.Amo amos.Min widths.Eight true false
    ∷ names.Amo amos.Min widths.Eight false true ∷ names.Amo amos.Min widths.Eight true true
    ∷ names.Amo amos.Max widths.Four false false ∷ names.Amo amos.Max widths.Four true false
    ∷ names.Amo amos.Max widths.Four false true ∷ names.Amo amos.Max widths.Four true true
    ∷ names.Amo amos.Max widths.Eight false false ∷ names.Amo amos.Max widths.Eight true false
    ∷ names.Amo amos.Max widths.Eight false true ∷ names.Amo amos.Max widths.Eight true true
    ∷ names.Amo amos.Minu widths.Four false false ∷ names.Amo amos.Minu widths.Four true false
    ∷ names.Amo amos.Minu widths.Four false true ∷ names.Amo amos.Minu widths.Four true true
    ∷ names.Amo amos.Minu widths.Eight false false ∷ names.Amo amos.Minu widths.Eight true false
    ∷ names.Amo amos.Minu widths.Eight false true ∷ names.Amo amos.Minu widths.Eight true true
    ∷ names.Amo amos.Maxu widths.Four false false ∷ names.Amo amos.Maxu widths.Four true false
    ∷ names.Amo amos.Maxu widths.Four false true ∷ names.Amo amos.Maxu widths.Four true true
    ∷ names.Amo amos.Maxu widths.Eight false false ∷ names.Amo amos.Maxu widths.Eight true false
    ∷ names.Amo amos.Maxu widths.Eight false true ∷ names.Amo amos.Maxu widths.Eight true true ∷ names.Fence
    ∷ names.Ecall ∷ names.Ebreak ∷ names.Sfence ∷ names.Word ∷ names.DoubleWord ∷ names.At ∷ []

-- the statement whose name the word is
unfoldable pub named : List ℕ → Option Name
named word = find (λ name. bytes_eq word (name_text name)) all_names
