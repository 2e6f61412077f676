-- The text of an instruction. All of it is this project's own.
use Rattle.std.specs.Prelude.{ℕ, ◌/◌, ◌^◌, List, [], ◌∷◌, ◌++◌, if◌then◌else◌, ℤ, pos, ◌+ℤ◌, int_le, unsigned_abs}
use Rattle.std.specs.Fmt.{decimal, signed_decimal}
use Rattle.rv_decode.specs.declared.inst.Inst.{Inst}
use Rattle.rv_decode.specs.declared.inst.Inst.TheVariants as insts
use Rattle.rv_asm.specs.Names.{name_text, name_of}

-- a register: x and its number
abbrev pub register_text : ℕ → List ℕ
register_text r = 120 ∷ decimal r

-- a number in decimal digits, behind a minus sign where it is below zero
abbrev pub number_text : ℤ → List ℕ
number_text n = signed_decimal n

-- the number of the upper twenty of an immediate's 32 bits; below zero the bits are those of the number 2 ^ 32 above
abbrev pub upper_bits : ℤ → ℕ
upper_bits imm = unsigned_abs (if int_le (pos 0) imm then imm else imm +ℤ pos (2 ^ 32)) / 4096

-- a register between parentheses
abbrev pub based_text : ℕ → List ℕ
based_text r = 40 ∷ register_text r ++ 41 ∷ []

-- an immediate, and right behind it a register between parentheses
abbrev pub displaced_text : ℤ → ℕ → List ℕ
displaced_text imm r = number_text imm ++ based_text r

-- the operands of an instruction, as they follow its name
abbrev pub operand_texts : Inst → List (List ℕ)
operand_texts (insts.Upper op rd imm) = register_text rd ∷ decimal (upper_bits imm) ∷ []
operand_texts (insts.Jal rd imm) = register_text rd ∷ number_text imm ∷ []
operand_texts (insts.Jalr rd rs1 imm) = register_text rd ∷ displaced_text imm rs1 ∷ []
operand_texts (insts.Branch op rs1 rs2 imm) = register_text rs1 ∷ register_text rs2 ∷ number_text imm ∷ []
operand_texts (insts.Load op rd rs1 imm) = register_text rd ∷ displaced_text imm rs1 ∷ []
operand_texts (insts.Store op rs1 rs2 imm) = register_text rs2 ∷ displaced_text imm rs1 ∷ []
operand_texts (insts.Imm op rd rs1 imm) = register_text rd ∷ register_text rs1 ∷ number_text imm ∷ []
operand_texts (insts.Reg op rd rs1 rs2) = register_text rd ∷ register_text rs1 ∷ register_text rs2 ∷ []
operand_texts (insts.Mul op rd rs1 rs2) = register_text rd ∷ register_text rs1 ∷ register_text rs2 ∷ []
operand_texts (insts.Amo op size aq rl rd rs1 rs2) = register_text rd ∷ register_text rs2 ∷ based_text rs1 ∷ []
operand_texts (insts.Fence rd rs1 imm) = register_text rd ∷ register_text rs1 ∷ number_text imm ∷ []
operand_texts insts.Ecall = []
operand_texts insts.Ebreak = []
operand_texts (insts.Sfence rs1 rs2) = register_text rs1 ∷ register_text rs2 ∷ []

-- texts with a comma and a space between them
abbrev pub joined : List (List ℕ) → List ℕ
joined [] = []
joined (a ∷ []) = a
joined (a ∷ b ∷ more) = a ++ 44 ∷ 32 ∷ joined (b ∷ more)

-- nothing, or a space and the texts
abbrev pub behind : List (List ℕ) → List ℕ
behind [] = []
behind (a ∷ more) = 32 ∷ joined (a ∷ more)

-- the text of an instruction: its name and its operands
unfoldable pub printed : Inst → List ℕ
printed inst = name_text (name_of inst) ++ behind (operand_texts inst)
