-- Reading a text line by line from its start, with the first fault that is met. All of it is this project's own.
use Rattle.std.specs.Prelude.{◌≡◌, ℕ, ◌+◌, ◌/◌, ◌%◌, ◌^◌, nat_lt, Bool, false, not, ◌==◌, if◌then◌else◌, List, [], ◌∷◌, ◌++◌, length, replicate, Option, Some, None, Result, Ok, Err, ⊤}
use Rattle.std.specs.List.{list_all}
use Rattle.std.specs.Map.{lookup}
use Rattle.std.specs.Option.{option_map, option_to_list}
use Rattle.std.specs.Char.{is_ascii}
use Rattle.std.specs.Str.{bytes_eq}
use Rattle.rv_decode.specs.declared.inst.Inst.{Inst}
use Rattle.rv_decode.specs.Table.{IsRow}
use Rattle.rv_asm.specs.declared.fault.AsmKind.{AsmKind}
use Rattle.rv_asm.specs.declared.fault.AsmKind.TheVariants as kinds
use Rattle.rv_asm.specs.declared.fault.AsmFault.{AsmFault}
use Rattle.rv_asm.specs.declared.fault.AsmError.{AsmError}
use Rattle.rv_asm.specs.declared.fault.AsmError.TheVariants as errors
use Rattle.rv_asm.specs.declared.name.Name.{Name}
use Rattle.rv_asm.specs.declared.name.Name.TheVariants as names
use Rattle.rv_asm.specs.declared.label.Spot.{Spot}
use Rattle.rv_asm.specs.declared.statement.Statement.{Statement}
use Rattle.rv_asm.specs.declared.statement.Statement.TheVariants as statements
use Rattle.rv_asm.specs.Names.{named}
use Rattle.text_in.specs.Lines.{lines_of}
use Rattle.rv_asm.specs.Text.{body_of, label_of, statement_text, name_word, operands_text, operands_of}
use Rattle.rv_asm.specs.Statements.{Spots, ◌>>=◌, fill_of, statement_of}

-- ---- words

-- how many words a statement has
abbrev pub size_of : Statement → ℕ
size_of (statements.Make inst) = 1
size_of (statements.Word n) = 1
size_of (statements.DoubleWord n) = 2
size_of (statements.Fill count) = count

-- the word is the instruction's, which has no other
abbrev pub IsWordOf : ℕ → Inst → Type 0
IsWordOf word inst = IsRow word inst × ((other : ℕ) → IsRow other inst → word ≡ other)

-- the words of a statement
abbrev pub AreWordsOf : Statement → List ℕ → Type 0
AreWordsOf (statements.Make inst) words = (word : ℕ) × IsWordOf word inst × (words ≡ word ∷ [])
AreWordsOf (statements.Word n) words = words ≡ n ∷ []
AreWordsOf (statements.DoubleWord n) words = words ≡ n % 2 ^ 32 ∷ n / 2 ^ 32 ∷ []
AreWordsOf (statements.Fill count) words = words ≡ replicate count 0

-- the words of the statements, one after the other
abbrev pub AreWordsOfAll : List Statement → List ℕ → Type 0
AreWordsOfAll [] words = words ≡ []
AreWordsOfAll (statement ∷ others) words =
    (first rest : List ℕ) × AreWordsOf statement first × AreWordsOfAll others rest × (words ≡ first ++ rest)

-- ---- labels

-- how many words the filling up to a place takes: none where the place is faulty
abbrev pub filled : Result ℕ AsmKind → ℕ
filled (Ok count) = count
filled (Err kind) = 0

-- how many words a statement takes, by its name alone: a fault in an operand takes none away
abbrev pub size_by : ℕ → ℕ → List ℕ → Option Name → ℕ
size_by limit words operands None = 0
size_by limit words operands (Some names.DoubleWord) = 2
size_by limit words operands (Some names.At) = filled (fill_of limit words (operands_of operands))
size_by limit words operands (Some name) = 1

-- the same of the text of a statement
unfoldable pub words_in : ℕ → ℕ → List ℕ → ℕ
words_in limit words statement = size_by limit words (operands_text statement) (named (name_word statement))

-- the label of a line, with its line and the number of words before it
abbrev pub spotted : ℕ → ℕ → Option (List ℕ) → List (List ℕ × Spot)
spotted n words label = option_to_list (option_map (λ name. (name, record { line = n; words = words })) label)

-- the labels of these lines, the first of which has this number and stands behind so many words
unfoldable pub labels_from : ℕ → ℕ → ℕ → List (List ℕ) → List (List ℕ × Spot)
labels_from limit n words [] = []
labels_from limit n words (line ∷ lines) =
    spotted n words (label_of (body_of line))
    ++ labels_from limit (n + 1) (words + words_in limit words (statement_text (body_of line))) lines

-- where a label stands first
abbrev pub spot_in : List (List ℕ × Spot) → Spots
spot_in labels name = lookup (bytes_eq name) labels

-- where the labels of a text stand
abbrev pub spots_of : ℕ → List (List ℕ) → Spots
spots_of limit lines = spot_in (labels_from limit 1 0 lines)

-- ---- lines

-- an earlier line than this has the label
abbrev pub is_elsewhere : ℕ → Option Spot → Bool
is_elsewhere n None = false
is_elsewhere n (Some spot) = not (spot.line == n)

-- the label of this line, if it has one, stands at an earlier line too
abbrev pub is_double : Spots → ℕ → Option (List ℕ) → Bool
is_double spots n None = false
is_double spots n (Some name) = is_elsewhere n (spots name)

-- the statement, where with its words there are at most limit
abbrev pub with_room : ℕ → ℕ → Statement → Result Statement AsmKind
with_room limit words statement = if nat_lt limit (words + size_of statement) then Err kinds.TooLong else Ok statement

-- the statement of this name
abbrev pub statement_by : ℕ → Spots → ℕ → Option Name → List ℕ → Result Statement AsmKind
statement_by limit spots words None operands = Err kinds.UnknownWord
statement_by limit spots words (Some name) operands =
    statement_of limit spots words name (operands_of operands) >>= with_room limit words

-- the statement that the text is
unfoldable pub text_of : ℕ → Spots → ℕ → List ℕ → Result Statement AsmKind
text_of limit spots words text = statement_by limit spots words (named (name_word text)) (operands_text text)

-- the statement that the text is, where there is one
abbrev pub statement_in : ℕ → Spots → ℕ → List ℕ → Result (Option Statement) AsmKind
statement_in limit spots words [] = Ok None
statement_in limit spots words (b ∷ bs) = text_of limit spots words (b ∷ bs) >>= λ statement. Ok (Some statement)

-- the statement of the line of this number
unfoldable pub line_of : ℕ → Spots → ℕ → ℕ → List ℕ → Result (Option Statement) AsmKind
line_of limit spots n words line =
    if is_double spots n (label_of (body_of line)) then Err kinds.DoubleLabel
    else if list_all is_ascii line then statement_in limit spots words (statement_text (body_of line))
    else Err kinds.UnknownWord

-- how many words a line has
abbrev pub size_of_line : Option Statement → ℕ
size_of_line None = 0
size_of_line (Some statement) = size_of statement

-- what follows a line, or its fault, at its number
abbrev pub then_lines : ℕ → Result (Option Statement) AsmKind → (ℕ → Result (List Statement) AsmFault)
    → Result (List Statement) AsmFault
then_lines n (Err kind) rest = Err (record { line = n; kind = kind })
then_lines n (Ok line) rest = put_before line (rest (size_of_line line))
  where
    put_before : Option Statement → Result (List Statement) AsmFault → Result (List Statement) AsmFault
    put_before line (Ok others) = Ok (option_to_list line ++ others)
    put_before line (Err fault) = Err fault

-- the statements of these lines, the first of which has this number and stands behind so many words
unfoldable pub lines_from : ℕ → Spots → ℕ → ℕ → List (List ℕ) → Result (List Statement) AsmFault
lines_from limit spots n words [] = Ok []
lines_from limit spots n words (line ∷ lines) =
    then_lines n (line_of limit spots n words line) (λ size. lines_from limit spots (n + 1) (words + size) lines)

-- the most bytes of a text
abbrev pub most_bytes : ℕ
most_bytes = 1048576

-- the statements of a text
unfoldable pub statements_of : ℕ → List ℕ → Result (List Statement) AsmFault
statements_of limit text =
    if nat_lt most_bytes (length text) then Err (record { line = 0; kind = kinds.TooLong })
    else lines_from limit (spots_of limit (lines_of text)) 1 0 (lines_of text)

-- ---- answers

-- the answer is the words of what reading gives, or its fault, unless memory ran out
abbrev pub Assembles : Result (List ℕ) AsmError → Result (List Statement) AsmFault → Type 0
Assembles (Ok words) (Ok statements) = AreWordsOfAll statements words
Assembles (Ok words) (Err fault) = ⊥
Assembles (Err errors.Memory) read = ⊤
Assembles (Err (errors.Fault fault)) read = read ≡ Err fault
