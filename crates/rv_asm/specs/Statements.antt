-- Statements, read from their words, with the first fault that is met. All of it is this project's own.
use Rattle.std.specs.Prelude.{⊤, ℕ, ◌-◌, ◌*◌, ◌/◌, ◌%◌, ◌^◌, nat_lt, Bool, false, not, ◌&&◌, ◌==◌, if◌then◌else◌, List, [], ◌∷◌, length, take, Option, Some, None, Result, Ok, Err, ℤ, pos, neg_ℤ, ◌-ℤ◌, ◌*ℤ◌, int_le, unsigned_abs}
use Rattle.std.specs.List.{before_first}
use Rattle.rv_ext.specs.declared.op.AmoOp.{AmoOp}
use Rattle.rv_decode.specs.declared.op.UpperOp.{UpperOp}
use Rattle.rv_decode.specs.declared.op.BranchOp.{BranchOp}
use Rattle.rv_decode.specs.declared.inst.Inst.{Inst}
use Rattle.rv_decode.specs.declared.inst.Inst.TheVariants as insts
use Rattle.rv_decode.specs.declared.codes.ImmForm.{ImmForm}
use Rattle.rv_decode.specs.declared.codes.ImmForm.TheVariants as forms
use Rattle.rv_decode.specs.Table.{imm_form, IsInst}
use Rattle.rv_asm.specs.declared.fault.AsmKind.{AsmKind}
use Rattle.rv_asm.specs.declared.fault.AsmKind.TheVariants as kinds
use Rattle.rv_asm.specs.declared.name.Width.{Width}
use Rattle.rv_asm.specs.declared.name.Width.TheVariants as widths
use Rattle.rv_asm.specs.declared.name.Name.{Name}
use Rattle.rv_asm.specs.declared.name.Name.TheVariants as names
use Rattle.rv_asm.specs.declared.label.Spot.{Spot}
use Rattle.rv_asm.specs.declared.statement.Statement.{Statement}
use Rattle.rv_asm.specs.declared.statement.Statement.TheVariants as statements
use Rattle.text_in.specs.Cuts.{from_first}
use Rattle.rv_asm.specs.Text.{is_label}
use Rattle.text_in.specs.Bytes.{is_open}
use Rattle.rv_asm.specs.Numbers.{number_of, register_of}

-- goes on with what was read, or keeps the fault
infixl 10 ◌>>=◌
abbrev pub ◌>>=◌ : {A B : Type 0} → Result A AsmKind → (A → Result B AsmKind) → Result B AsmKind
(Ok x) >>= f = f x
(Err kind) >>= f = Err kind

-- where the labels of a text stand
abbrev pub Spots : Type 0
Spots = List ℕ → Option Spot

-- ---- operands

-- what was read, or a bad operand where that is nothing
abbrev pub or_bad : {X : Type 0} → Option X → Result X AsmKind
or_bad None = Err kinds.BadOperand
or_bad (Some x) = Ok x

-- the number where it is from least to most
abbrev pub within : ℤ → ℤ → ℤ → Result ℤ AsmKind
within least most n = if int_le least n && int_le n most then Ok n else Err kinds.OutOfRange

-- an operand that is a number from least to most
abbrev pub number_in : ℤ → ℤ → List ℕ → Result ℤ AsmKind
number_in least most word = or_bad (number_of word) >>= within least most

-- an operand that is an immediate of twelve bits with a sign
abbrev pub immediate_in : List ℕ → Result ℤ AsmKind
immediate_in word = number_in (neg_ℤ (pos 2048)) (pos 2047) word

-- an operand that is a register
abbrev pub register_in : List ℕ → Result ℕ AsmKind
register_in word = or_bad (register_of word)

-- the distance in bytes from the statement behind so many words to a label, below half on either side; a text has four
-- bytes a word
abbrev pub distance : ℤ → ℕ → Option Spot → Result ℤ AsmKind
distance half words None = Err kinds.UnknownLabel
distance half words (Some spot) = within (neg_ℤ half) (half -ℤ pos 1) (pos (4 * spot.words) -ℤ pos (4 * words))

-- the number where it is even
abbrev pub even : ℤ → Result ℤ AsmKind
even n = if unsigned_abs n % 2 == 0 then Ok n else Err kinds.OutOfRange

-- an operand that is a target: a label, or an even offset below half on either side
abbrev pub target_in : Spots → ℤ → ℕ → List ℕ → Result ℤ AsmKind
target_in spots half words word =
    if is_label word then distance half words (spots word)
    else number_in (neg_ℤ half) (half -ℤ pos 1) word >>= even

-- the last byte is the one behind a base register
abbrev pub ends_close : List ℕ → Bool
ends_close [] = false
ends_close (b ∷ []) = b == 41
ends_close (b ∷ c ∷ bs) = ends_close (c ∷ bs)

-- the register between parentheses
abbrev pub based_of : List ℕ → Option ℕ
based_of [] = None
based_of (b ∷ bs) = if is_open b && ends_close bs then register_of (take (length bs - 1) bs) else None

-- an operand that is a register between parentheses
abbrev pub based_in : List ℕ → Result ℕ AsmKind
based_in word = or_bad (based_of word)

-- an operand that is an immediate of twelve bits and behind it a register between parentheses; both have their form
-- before the number is looked at
abbrev pub displaced_in : List ℕ → Result (ℤ × ℕ) AsmKind
displaced_in word = do
  n ← or_bad (number_of (before_first is_open word))
  base ← based_in (from_first is_open word)
  imm ← within (neg_ℤ (pos 2048)) (pos 2047) n
  Ok (imm, base)

-- how many zero words there are up to a place in bytes: it is a multiple of four, not before the word at which the
-- statement stands, and has at most limit words before it
abbrev pub fill : ℕ → ℕ → ℤ → Result ℕ AsmKind
fill limit words n =
    if not (int_le (pos (4 * words)) n && unsigned_abs n % 4 == 0) then Err kinds.OutOfRange
    else if nat_lt limit (unsigned_abs n / 4) then Err kinds.TooLong
    else Ok (unsigned_abs n / 4 - words)

-- an operand that is a place to fill up to
abbrev pub fill_in : ℕ → ℕ → List ℕ → Result ℕ AsmKind
fill_in limit words word = or_bad (number_of word) >>= fill limit words

-- ---- how many operands there are

-- no operand
abbrev pub none_of : List (List ℕ) → Result (Unit {0}) AsmKind
none_of [] = Ok tt
none_of (a ∷ more) = Err kinds.BadOperand

-- one operand
abbrev pub one_of : List (List ℕ) → Result (List ℕ) AsmKind
one_of [] = Err kinds.BadOperand
one_of (a ∷ []) = Ok a
one_of (a ∷ b ∷ more) = Err kinds.BadOperand

-- two operands
abbrev pub two_of : List (List ℕ) → Result (List ℕ × List ℕ) AsmKind
two_of [] = Err kinds.BadOperand
two_of (a ∷ []) = Err kinds.BadOperand
two_of (a ∷ b ∷ []) = Ok (a, b)
two_of (a ∷ b ∷ c ∷ more) = Err kinds.BadOperand

-- three operands
abbrev pub three_of : List (List ℕ) → Result (List ℕ × List ℕ × List ℕ) AsmKind
three_of [] = Err kinds.BadOperand
three_of (a ∷ []) = Err kinds.BadOperand
three_of (a ∷ b ∷ []) = Err kinds.BadOperand
three_of (a ∷ b ∷ c ∷ []) = Ok (a, b, c)
three_of (a ∷ b ∷ c ∷ d ∷ more) = Err kinds.BadOperand

-- the one operand of a statement that fills up to a place
abbrev pub fill_of : ℕ → ℕ → List (List ℕ) → Result ℕ AsmKind
fill_of limit words operands = one_of operands >>= fill_in limit words

-- ---- statements

-- the upper immediate of twenty bits, as a number of 32 bits with a sign
abbrev pub upper_of : ℤ → ℤ
upper_of n = if int_le (pos (2 ^ 19)) n then pos 4096 *ℤ n -ℤ pos (2 ^ 32) else pos 4096 *ℤ n

-- the most that the immediate of an operation may be
abbrev pub most_of : ImmForm → ℤ
most_of (forms.Plain opcode funct3) = pos 2047
most_of (forms.Shift opcode funct3 limit upper) = pos limit -ℤ pos 1

-- the least that it may be
abbrev pub least_of : ImmForm → ℤ
least_of (forms.Plain opcode funct3) = neg_ℤ (pos 2048)
least_of (forms.Shift opcode funct3 limit upper) = pos 0

-- three registers
abbrev pub registers_operands : List (List ℕ) → Result (ℕ × ℕ × ℕ) AsmKind
registers_operands operands = do
  words ← three_of operands
  first ← register_in words.0
  second ← register_in words.1
  third ← register_in words.2
  Ok (first, second, third)

-- three registers, and what they make
abbrev pub registers_of : (ℕ → ℕ → ℕ → Inst) → List (List ℕ) → Result Statement AsmKind
registers_of make operands = registers_operands operands >>= λ p. Ok (statements.Make (make p.0 p.1 p.2))

-- two registers and an immediate from least to most
abbrev pub immediate_operands : ℤ → ℤ → List (List ℕ) → Result (ℕ × ℕ × ℤ) AsmKind
immediate_operands least most operands = do
  words ← three_of operands
  first ← register_in words.0
  second ← register_in words.1
  imm ← number_in least most words.2
  Ok (first, second, imm)

-- two registers and an immediate from least to most, and what they make
abbrev pub immediate_of : ℤ → ℤ → (ℕ → ℕ → ℤ → Inst) → List (List ℕ) → Result Statement AsmKind
immediate_of least most make operands =
    immediate_operands least most operands >>= λ p. Ok (statements.Make (make p.0 p.1 p.2))

-- a register, an immediate and a base register
abbrev pub displaced_operands : List (List ℕ) → Result (ℕ × ℤ × ℕ) AsmKind
displaced_operands operands = do
  words ← two_of operands
  first ← register_in words.0
  place ← displaced_in words.1
  Ok (first, place.0, place.1)

-- a register, an immediate and a base register, and what they make of register, base register and immediate
abbrev pub displaced : (ℕ → ℕ → ℤ → Inst) → List (List ℕ) → Result Statement AsmKind
displaced make operands = displaced_operands operands >>= λ p. Ok (statements.Make (make p.0 p.2 p.1))

-- a register and twenty upper bits
abbrev pub upper_statement : UpperOp → List (List ℕ) → Result Statement AsmKind
upper_statement op operands = do
  words ← two_of operands
  rd ← register_in words.0
  imm ← number_in (pos 0) (pos 1048575) words.1
  Ok (statements.Make (insts.Upper op rd (upper_of imm)))

-- a register and a target
abbrev pub jal_statement : Spots → ℕ → List (List ℕ) → Result Statement AsmKind
jal_statement spots at operands = do
  words ← two_of operands
  rd ← register_in words.0
  imm ← target_in spots (pos (2 ^ 20)) at words.1
  Ok (statements.Make (insts.Jal rd imm))

-- two registers and a target
abbrev pub branch_statement : Spots → ℕ → BranchOp → List (List ℕ) → Result Statement AsmKind
branch_statement spots at op operands = do
  words ← three_of operands
  rs1 ← register_in words.0
  rs2 ← register_in words.1
  imm ← target_in spots (pos 4096) at words.2
  Ok (statements.Make (insts.Branch op rs1 rs2 imm))

-- how many bytes a width says
abbrev pub bytes_of : Width → ℕ
bytes_of widths.Four = 4
bytes_of widths.Eight = 8

-- two registers and a register between parentheses
abbrev pub amo_statement : AmoOp → Width → Bool → Bool → List (List ℕ) → Result Statement AsmKind
amo_statement op width aq rl operands = do
  words ← three_of operands
  rd ← register_in words.0
  rs2 ← register_in words.1
  rs1 ← based_in words.2
  Ok (statements.Make (insts.Amo op (bytes_of width) aq rl rd rs1 rs2))

-- two registers
abbrev pub sfence_statement : List (List ℕ) → Result Statement AsmKind
sfence_statement operands = do
  words ← two_of operands
  rs1 ← register_in words.0
  rs2 ← register_in words.1
  Ok (statements.Make (insts.Sfence rs1 rs2))

-- no operand
abbrev pub alone : Inst → List (List ℕ) → Result Statement AsmKind
alone inst operands = none_of operands >>= λ u. Ok (statements.Make inst)

-- a number of 32 bits
abbrev pub word_statement : List (List ℕ) → Result Statement AsmKind
word_statement operands = do
  word ← one_of operands
  n ← number_in (pos 0) (pos (2 ^ 32 - 1)) word
  Ok (statements.Word (unsigned_abs n))

-- a number of 64 bits
abbrev pub double_word_statement : List (List ℕ) → Result Statement AsmKind
double_word_statement operands = do
  word ← one_of operands
  n ← number_in (pos 0) (pos (2 ^ 64 - 1)) word
  Ok (statements.DoubleWord (unsigned_abs n))

-- a place to fill up to
abbrev pub fill_statement : ℕ → ℕ → List (List ℕ) → Result Statement AsmKind
fill_statement limit at operands = fill_of limit at operands >>= λ count. Ok (statements.Fill count)

-- the statement of this name with these operands, behind so many words of a text that has at most limit words and whose
-- labels stand at these spots
unfoldable pub statement_of : ℕ → Spots → ℕ → Name → List (List ℕ) → Result Statement AsmKind
statement_of limit spots at (names.Upper op) operands = upper_statement op operands
statement_of limit spots at names.Jal operands = jal_statement spots at operands
statement_of limit spots at names.Jalr operands = displaced insts.Jalr operands
statement_of limit spots at (names.Branch op) operands = branch_statement spots at op operands
statement_of limit spots at (names.Load op) operands = displaced (insts.Load op) operands
statement_of limit spots at (names.Store op) operands = displaced (λ rs2 rs1 imm. insts.Store op rs1 rs2 imm) operands
statement_of limit spots at (names.Imm op) operands =
    immediate_of (least_of (imm_form op)) (most_of (imm_form op)) (insts.Imm op) operands
statement_of limit spots at (names.Reg op) operands = registers_of (insts.Reg op) operands
statement_of limit spots at (names.Mul op) operands = registers_of (insts.Mul op) operands
statement_of limit spots at (names.Amo op width aq rl) operands = amo_statement op width aq rl operands
statement_of limit spots at names.Fence operands = immediate_of (neg_ℤ (pos 2048)) (pos 2047) insts.Fence operands
statement_of limit spots at names.Ecall operands = alone insts.Ecall operands
statement_of limit spots at names.Ebreak operands = alone insts.Ebreak operands
statement_of limit spots at names.Sfence operands = sfence_statement operands
statement_of limit spots at names.Word operands = word_statement operands
statement_of limit spots at names.DoubleWord operands = double_word_statement operands
statement_of limit spots at names.At operands = fill_statement limit at operands

-- ---- what fits

-- an instruction that has a word
abbrev pub FitsStatement : Statement → Type 0
FitsStatement (statements.Make inst) = IsInst inst
FitsStatement (statements.Word n) = ⊤
FitsStatement (statements.DoubleWord n) = ⊤
FitsStatement (statements.Fill count) = ⊤
