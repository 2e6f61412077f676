-- What the parts of the decoder and the encoder say of codes and of the bits of a word, this project's own. The table
-- does not rest on it.
use Rattle.std.specs.Prelude.{◌≡◌, ℕ, ◌+◌, ◌*◌, ◌/◌, ◌%◌, ◌^◌, ◌<◌, ◌≤◌, ℤ, pos}
use Rattle.rv_decode.specs.declared.codes.ImmForm.{ImmForm}
use Rattle.rv_decode.specs.declared.codes.ImmForm.TheVariants as forms
use Rattle.rv_decode.specs.Formats.{signed_reading}

-- the form has this opcode and funct3 and, where it is a shift, these six upper bits
abbrev pub HasForm : ℕ → ℕ → ℕ → ImmForm → Type 0
HasForm o f u (forms.Plain opcode funct3) = (opcode ≡ o) × (funct3 ≡ f)
HasForm o f u (forms.Shift opcode funct3 limit upper) = (opcode ≡ o) × (funct3 ≡ f) × (upper ≡ u)

-- each part of the form fits its field
abbrev pub FormFits : ImmForm → Type 0
FormFits (forms.Plain opcode funct3) = (opcode < 128) × (funct3 < 8)
FormFits (forms.Shift opcode funct3 limit upper) = (opcode < 128) × (funct3 < 8) × (limit ≤ 64) × (upper < 64)

-- the bits 6 to 0 of a word, its opcode in every format
abbrev pub opcode_of : ℕ → ℕ
opcode_of word = word % 2 ^ 7

-- the bits 11 to 7 of a word, its destination in the formats R, I, U and J
abbrev pub rd_of : ℕ → ℕ
rd_of word = word / 2 ^ 7 % 2 ^ 5

-- the bits 14 to 12 of a word, its funct3 in the formats R, I, S and B
abbrev pub funct3_of : ℕ → ℕ
funct3_of word = word / 2 ^ 12 % 2 ^ 3

-- the bits 19 to 15 of a word, its first source in the formats R, I, S and B
abbrev pub rs1_of : ℕ → ℕ
rs1_of word = word / 2 ^ 15 % 2 ^ 5

-- the bits 24 to 20 of a word, its second source in the formats R, S and B
abbrev pub rs2_of : ℕ → ℕ
rs2_of word = word / 2 ^ 20 % 2 ^ 5

-- the bits 31 to 25 of a word of 32 bits, its funct7 in format R
abbrev pub funct7_of : ℕ → ℕ
funct7_of word = word / 2 ^ 25

-- the immediate of a word of format I: the bits 31 to 20
abbrev pub i_immediate_of : ℕ → ℤ
i_immediate_of word = signed_reading (2 ^ 11) (word / 2 ^ 20)

-- the immediate of a word of format S: the bits 31 to 25, then 11 to 7
abbrev pub s_immediate_of : ℕ → ℤ
s_immediate_of word = signed_reading (2 ^ 11) (rd_of word + 2 ^ 5 * (word / 2 ^ 25))

-- the immediate of a word of format B: the bits 31, 7, 30 to 25 and 11 to 8, then a 0
abbrev pub b_immediate_of : ℕ → ℤ
b_immediate_of word =
    signed_reading (2 ^ 12)
    (2 * (word / 2 ^ 8 % 2 ^ 4) + 2 ^ 5 * (word / 2 ^ 25 % 2 ^ 6) + 2 ^ 11 * (word / 2 ^ 7 % 2)
    + 2 ^ 12 * (word / 2 ^ 31))

-- the immediate of a word of format U: the bits 31 to 12, then twelve zeros
abbrev pub u_immediate_of : ℕ → ℤ
u_immediate_of word = signed_reading (2 ^ 31) (2 ^ 12 * (word / 2 ^ 12))

-- the immediate of a word of format J: the bits 31, 19 to 12, 20 and 30 to 21, then a 0
abbrev pub j_immediate_of : ℕ → ℤ
j_immediate_of word =
    signed_reading (2 ^ 20)
    (2 * (word / 2 ^ 21 % 2 ^ 10) + 2 ^ 11 * (word / 2 ^ 20 % 2) + 2 ^ 12 * (word / 2 ^ 12 % 2 ^ 8)
    + 2 ^ 20 * (word / 2 ^ 31))

-- the immediate of a word of this form: of a shift, its number, below the form's limit
abbrev pub HasOperand : ℕ → ImmForm → ℤ → Type 0
HasOperand word (forms.Plain opcode funct3) imm = imm ≡ i_immediate_of word
HasOperand word (forms.Shift opcode funct3 limit upper) imm =
    (imm ≡ pos (word / 2 ^ 20 % 2 ^ 6)) × (word / 2 ^ 20 % 2 ^ 6 < limit)
