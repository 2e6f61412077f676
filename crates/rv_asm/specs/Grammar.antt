-- The grammar of assembler texts, apart from the way in which they are read. All of it is this project's own.
use Rattle.std.specs.Prelude.{◌≡◌, ℕ, ◌+◌, ◌*◌, ◌^◌, ◌<◌, ◌≤◌, ◌⊎◌, Bool, true, false, List, [], ◌∷◌, ◌++◌, length, replicate, codes, Option, Some, None, ⊤, ℤ, pos, ◌-ℤ◌, ◌%◌, ◌/◌}
use Rattle.std.specs.List.{list_all}
use Rattle.std.specs.Char.{is_ascii}
use Rattle.rv_decode.specs.declared.inst.Inst.{Inst}
use Rattle.rv_decode.specs.declared.inst.Inst.TheVariants as insts
use Rattle.rv_decode.specs.Formats.{signed_reading}
use Rattle.rv_decode.specs.Table.{IsRow, IsInst}
use Rattle.rv_asm.specs.declared.name.Name.{Name}
use Rattle.rv_asm.specs.Names.{name_text, name_of}
use Rattle.text_in.specs.Bytes.{Are, is_no_sign, is_blank, is_solid, is_space, is_no_space, is_no_comma, is_name_start, is_name_byte, begins, ends}
use Rattle.text_in.specs.Lines.{AreTextLines, IsComment}
use Rattle.rv_asm.specs.Numbers.{IsNumber, IsRegisterName}
use Rattle.rv_asm.specs.Reading.{most_bytes}

-- a label and how many words stand before it
abbrev pub Label : Type 0
Label = List ℕ × ℕ

-- ---- operands

-- the word is a letter or an underscore, then letters, digits and underscores, and it is no name of a statement
pub record IsLabel (word : List ℕ) : Type 0 where
  pub first : ℕ
  pub more : List ℕ
  pub word_is : word ≡ first ∷ more
  pub begins : is_name_start first ≡ true
  pub goes_on : list_all is_name_byte more ≡ true
  pub no_name : (name : Name) → word ≡ name_text name → ⊥

-- the label is one of the text's, behind so many words
abbrev pub StandsAt : List Label → List ℕ → ℕ → Type 0
StandsAt labels word n = (before after : List Label) × (labels ≡ before ++ (word, n) ∷ after)

-- the operand is a target at this distance in bytes from the statement behind so many words: a label, or the distance
-- as a number
abbrev pub IsTarget : List Label → ℕ → List ℕ → ℤ → Type 0
IsTarget labels words operand n =
    (IsLabel operand × ((there : ℕ) × StandsAt labels operand there × (n ≡ pos (4 * there) -ℤ pos (4 * words))))
    ⊎ ((IsLabel operand → ⊥) × IsNumber operand n)

-- the operand is a register between parentheses
abbrev pub IsBased : List ℕ → ℕ → Type 0
IsBased operand r = (word : List ℕ) × IsRegisterName word r × (operand ≡ 40 ∷ word ++ 41 ∷ [])

-- the operand is a number, and right behind it a register between parentheses
abbrev pub IsDisplaced : List ℕ → ℤ → ℕ → Type 0
IsDisplaced operand n r = (number base : List ℕ) × IsNumber number n × IsBased base r × (operand ≡ number ++ base)

-- the operand is the upper immediate, written as its upper twenty bits without a sign
abbrev pub IsUpper : List ℕ → ℤ → Type 0
IsUpper operand imm = (n : ℕ) × IsNumber operand (pos n) × (n < 2 ^ 20) × (imm ≡ signed_reading (2 ^ 31) (4096 * n))

-- the operands that follow the name of an instruction, behind so many words of a text with these labels
abbrev pub AreOperands : List Label → ℕ → List (List ℕ) → Inst → Type 0
AreOperands labels words operands (insts.Upper op rd imm) =
    (a b : List ℕ) × (operands ≡ a ∷ b ∷ []) × IsRegisterName a rd × IsUpper b imm
AreOperands labels words operands (insts.Jal rd imm) =
    (a b : List ℕ) × (operands ≡ a ∷ b ∷ []) × IsRegisterName a rd × IsTarget labels words b imm
AreOperands labels words operands (insts.Jalr rd rs1 imm) =
    (a b : List ℕ) × (operands ≡ a ∷ b ∷ []) × IsRegisterName a rd × IsDisplaced b imm rs1
AreOperands labels words operands (insts.Branch op rs1 rs2 imm) =
    (a b c : List ℕ) × (operands ≡ a ∷ b ∷ c ∷ []) × IsRegisterName a rs1 × IsRegisterName b rs2
    × IsTarget labels words c imm
AreOperands labels words operands (insts.Load op rd rs1 imm) =
    (a b : List ℕ) × (operands ≡ a ∷ b ∷ []) × IsRegisterName a rd × IsDisplaced b imm rs1
AreOperands labels words operands (insts.Store op rs1 rs2 imm) =
    (a b : List ℕ) × (operands ≡ a ∷ b ∷ []) × IsRegisterName a rs2 × IsDisplaced b imm rs1
AreOperands labels words operands (insts.Imm op rd rs1 imm) =
    (a b c : List ℕ) × (operands ≡ a ∷ b ∷ c ∷ []) × IsRegisterName a rd × IsRegisterName b rs1 × IsNumber c imm
AreOperands labels words operands (insts.Reg op rd rs1 rs2) =
    (a b c : List ℕ) × (operands ≡ a ∷ b ∷ c ∷ []) × IsRegisterName a rd × IsRegisterName b rs1 × IsRegisterName c rs2
AreOperands labels words operands (insts.Mul op rd rs1 rs2) =
    (a b c : List ℕ) × (operands ≡ a ∷ b ∷ c ∷ []) × IsRegisterName a rd × IsRegisterName b rs1 × IsRegisterName c rs2
AreOperands labels words operands (insts.Amo op size aq rl rd rs1 rs2) =
    (a b c : List ℕ) × (operands ≡ a ∷ b ∷ c ∷ []) × IsRegisterName a rd × IsRegisterName b rs2 × IsBased c rs1
AreOperands labels words operands (insts.Fence rd rs1 imm) =
    (a b c : List ℕ) × (operands ≡ a ∷ b ∷ c ∷ []) × IsRegisterName a rd × IsRegisterName b rs1 × IsNumber c imm
AreOperands labels words operands insts.Ecall = operands ≡ []
AreOperands labels words operands insts.Ebreak = operands ≡ []
AreOperands labels words operands (insts.Sfence rs1 rs2) =
    (a b : List ℕ) × (operands ≡ a ∷ b ∷ []) × IsRegisterName a rs1 × IsRegisterName b rs2

-- ---- statements

-- the name and the operands are an instruction whose operands are in range, and the words are its one word
pub record IsMade (labels : List Label) (words : ℕ) (name : List ℕ) (operands : List (List ℕ))
    (made : List ℕ) : Type 0 where
  pub inst : Inst
  pub word : ℕ
  pub name_is : name ≡ name_text (name_of inst)
  pub are_operands : AreOperands labels words operands inst
  pub fits : IsInst inst
  pub row : IsRow word inst
  pub made_is : made ≡ word ∷ []

-- `.word`, a number of 32 bits
abbrev pub IsWord : List ℕ → List (List ℕ) → List ℕ → Type 0
IsWord name operands made =
    (operand : List ℕ) × (n : ℕ) × (name ≡ codes ".word") × (operands ≡ operand ∷ []) × IsNumber operand (pos n)
    × (n < 2 ^ 32) × (made ≡ n ∷ [])

-- `.dword`, a number of 64 bits, whose low word comes first
abbrev pub IsDoubleWord : List ℕ → List (List ℕ) → List ℕ → Type 0
IsDoubleWord name operands made =
    (operand : List ℕ) × (n : ℕ) × (name ≡ codes ".dword") × (operands ≡ operand ∷ []) × IsNumber operand (pos n)
    × (n < 2 ^ 64) × (made ≡ n % 2 ^ 32 ∷ n / 2 ^ 32 ∷ [])

-- `.at`, a place in bytes, a multiple of four that is not behind: zero words up to it
abbrev pub IsFill : ℕ → List ℕ → List (List ℕ) → List ℕ → Type 0
IsFill words name operands made =
    (operand : List ℕ) × (count : ℕ) × (name ≡ codes ".at") × (operands ≡ operand ∷ [])
    × IsNumber operand (pos (4 * (words + count))) × (made ≡ replicate count 0)

-- the name and the operands are a statement with these words, behind so many words of a text with these labels
abbrev pub IsStatement : List Label → ℕ → List ℕ → List (List ℕ) → List ℕ → Type 0
IsStatement labels words name operands made =
    IsMade labels words name operands made ⊎ IsWord name operands made ⊎ IsDoubleWord name operands made
    ⊎ IsFill words name operands made

-- ---- lines

-- the text is the operand, which no space begins or ends and which has no comma, with spaces round it
pub record IsPadded (text operand : List ℕ) : Type 0 where
  pub before : List ℕ
  pub after : List ℕ
  pub are_before : Are is_space before
  pub are_after : Are is_space after
  pub no_comma : Are is_no_comma operand
  pub no_first : begins is_no_space operand ≡ true
  pub no_last : ends is_no_space operand ≡ true
  pub text_is : text ≡ before ++ (operand ++ after)

-- the text is these operands, at least one, with commas between them
abbrev pub ArePadded : List ℕ → List (List ℕ) → Type 0
ArePadded text [] = ⊥
ArePadded text (operand ∷ []) = IsPadded text operand
ArePadded text (operand ∷ next ∷ operands) =
    (first rest : List ℕ) × (text ≡ first ++ 44 ∷ rest) × IsPadded first operand × ArePadded rest (next ∷ operands)

-- nothing, or these operands behind blanks, at least one, and all that there are
abbrev pub AreBehind : List ℕ → List (List ℕ) → Type 0
AreBehind text operands =
    ((text ≡ []) × (operands ≡ []))
    ⊎ ((blanks rest : List ℕ) × (0 < length blanks) × Are is_blank blanks × (begins is_solid rest ≡ true)
    × (text ≡ blanks ++ rest) × ArePadded rest operands)

-- the text is nothing, or a statement, whose name no blank is in
abbrev pub IsStatementText : List Label → ℕ → List ℕ → List ℕ → Type 0
IsStatementText labels words text made =
    ((text ≡ []) × (made ≡ []))
    ⊎ ((name rest : List ℕ) × (operands : List (List ℕ)) × (text ≡ name ++ rest) × AreBehind rest operands
    × IsStatement labels words name operands made)

-- the text is an optional label with a colon right behind it, blanks, and a statement or nothing
abbrev pub IsBody : List Label → ℕ → List ℕ → Option (List ℕ) → List ℕ → Type 0
IsBody labels words text None made = IsStatementText labels words text made
IsBody labels words text (Some label) made =
    (blanks rest : List ℕ) × IsLabel label × Are is_blank blanks × (text ≡ label ++ 58 ∷ (blanks ++ rest))
    × IsStatementText labels words rest made

-- the line is blanks, an optional label and statement, blanks and a comment, all of it ASCII; blanks at the end belong
-- to no operand
pub record IsLine (labels : List Label) (words : ℕ) (line : List ℕ) (label : Option (List ℕ))
    (made : List ℕ) : Type 0 where
  pub before : List ℕ
  pub body : List ℕ
  pub after : List ℕ
  pub comment : List ℕ
  pub are_before : Are is_blank before
  pub are_after : Are is_blank after
  pub is_comment : IsComment comment
  pub ascii : Are is_ascii line
  pub no_sign : Are is_no_sign body
  pub no_end : ends is_solid body ≡ true
  pub is_body : IsBody labels words body label made
  pub line_is : line ≡ before ++ (body ++ (after ++ comment))

-- ---- the whole text

-- the label of a line, with the number of words before it
abbrev pub labelled : Option (List ℕ) → ℕ → List Label
labelled None words = []
labelled (Some name) words = (name, words) ∷ []

-- the lines behind so many words have these labels of their own and these words, in a text with these labels
abbrev pub AreLines : List Label → ℕ → List (List ℕ) → List Label → List ℕ → Type 0
AreLines labels words [] own made = (own ≡ []) × (made ≡ [])
AreLines labels words (line ∷ lines) own made =
    (label : Option (List ℕ)) × (first rest : List ℕ) × (others : List Label)
    × IsLine labels words line label first × AreLines labels (words + length first) lines others rest
    × (own ≡ labelled label words ++ others) × (made ≡ first ++ rest)

-- no label stands twice
abbrev pub AreApart : List Label → Type 0
AreApart labels =
    (before between after : List Label) (name : List ℕ) (m n : ℕ) → labels ≡ before ++ (name, m) ∷ between ++ (name, n)
    ∷ after → ⊥

-- the bytes are a text with these words, of which there may be limit
pub record IsText (limit : ℕ) (text made : List ℕ) : Type 0 where
  pub within : length text ≤ most_bytes
  pub few : length made ≤ limit
  pub lines : List (List ℕ)
  pub labels : List Label
  pub are_text_lines : AreTextLines text lines
  pub are_lines : AreLines labels 0 lines labels made
  pub apart : AreApart labels
