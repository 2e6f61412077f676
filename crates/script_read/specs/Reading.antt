-- Reading a script line by line from its start, with the first fault that is met. All of it is this project's own.
use Rattle.std.specs.Prelude.{ℕ, ◌+◌, ◌-◌, ◌^◌, nat_lt, ◌&&◌, if◌then◌else◌, List, [], ◌∷◌, ◌++◌, length, replicate, codes, Option, Some, None, Result, Ok, Err}
use Rattle.std.specs.List.{list_all}
use Rattle.std.specs.Option.{option_and_then, option_map}
use Rattle.std.specs.Char.{is_ascii}
use Rattle.std.specs.Str.{bytes_eq}
use Rattle.mon_types.specs.declared.script.Line.{Line}
use Rattle.reader_answers.specs.Steps.{◌>>=◌}
use Rattle.script_read.specs.declared.form.Form.{Form}
use Rattle.script_read.specs.declared.fault.LineKind.{LineKind}
use Rattle.script_read.specs.declared.fault.LineKind.TheVariants as kinds
use Rattle.script_read.specs.declared.fault.ScriptFault.{ScriptFault}
use Rattle.script_read.specs.declared.fault.ScriptFault.TheVariants as faults
use Rattle.script_read.specs.declared.said.Said.{Said}
use Rattle.script_read.specs.declared.said.Said.TheVariants as says
use Rattle.text_in.specs.Cuts.{before_comment}
use Rattle.text_in.specs.Lines.{lines_of}
use Rattle.text_in.specs.Words.{words_of}
use Rattle.text_in.specs.Numbers.{unsigned_of, up_to}
use Rattle.mon_types.specs.Owns.{os_word}
use Rattle.script_read.specs.Cores.{core_limit, core_count, core_after, turns_of_core, turn_limit, lists_for}
use Rattle.script_read.specs.Grammar.{limit}
use Rattle.script_read.specs.Forms.{least, most, takes_os, form_said, form_named}

-- the number of a word, where it is one below 2 ^ 64
abbrev pub number_of : List ℕ → Option ℕ
number_of word = up_to (2 ^ 64 - 1) (unsigned_of word)

-- the number that an argument stands for
abbrev pub argument_of : Form → ℕ → List ℕ → Option ℕ
argument_of form place word =
    if takes_os form place && bytes_eq word (codes "os") then Some os_word else number_of word

-- the numbers that the arguments from this place on stand for
unfoldable pub arguments_of : Form → ℕ → List (List ℕ) → Option (List ℕ)
arguments_of form place [] = Some []
arguments_of form place (word ∷ words) =
    option_and_then (λ n. option_map (λ ns. n ∷ ns) (arguments_of form (place + 1) words)) (argument_of form place word)

-- these arguments, and zeros behind them up to this count
abbrev pub with_zeros : ℕ → List ℕ → List ℕ
with_zeros count args = args ++ replicate (count - length args) 0

-- what a line of a form says with these arguments, where each of them is a number; cores are below this count
abbrev pub said_with : ℕ → Form → Option (List ℕ) → Result Said LineKind
said_with count form None = Err kinds.BadNumber
said_with count form (Some args) = form_said count form (with_zeros 7 args)

-- what a line of a form says with the arguments that these words stand for
unfoldable pub form_read : ℕ → Form → List (List ℕ) → Result Said LineKind
form_read count form words =
    if nat_lt (length words) (least form) then Err kinds.MissingWord
    else if nat_lt (most form) (length words) then Err kinds.ExtraWord
    else said_with count form (arguments_of form 0 words)

-- what was said, or what is wrong with the line of this number
abbrev pub at_line : ℕ → Result Said LineKind → Result (Option Said) ScriptFault
at_line n (Ok said) = Ok (Some said)
at_line n (Err kind) = Err (faults.BadLine n kind)

-- what the line of the form that the first word names says, and an unknown word where it names none
abbrev pub line_in : ℕ → ℕ → Option Form → List (List ℕ) → Result (Option Said) ScriptFault
line_in count n None words = Err (faults.BadLine n kinds.UnknownWord)
line_in count n (Some form) words = at_line n (form_read count form words)

-- what the words of the line of this number say
unfoldable pub line_of_words : ℕ → ℕ → List (List ℕ) → Result (Option Said) ScriptFault
line_of_words count n [] = Ok None
line_of_words count n (word ∷ words) = line_in count n (form_named word) words

-- what the line of this number says, where cores are below this count
unfoldable pub line_of : ℕ → ℕ → List ℕ → Result (Option Said) ScriptFault
line_of count n text =
    if list_all is_ascii (before_comment text) then line_of_words count n (words_of (before_comment text))
    else Err (faults.BadLine n kinds.UnknownWord)

-- what was said before, and this behind it; a run is a fault of the line of this number where with it the turns of its
-- core are more than they may be
abbrev pub said_next : ℕ → List Said → Said → Result (List Said) ScriptFault
said_next n before (says.Line line) = Ok (before ++ says.Line line ∷ [])
said_next n before (says.Run turns) =
    if nat_lt turn_limit (turns_of_core (core_after before) before + turns) then Err (faults.TurnsOver n)
    else Ok (before ++ says.Run turns ∷ [])
said_next n before (says.Core core) = Ok (before ++ says.Core core ∷ [])

-- the same of a line that may be empty
abbrev pub line_next : ℕ → List Said → Option Said → Result (List Said) ScriptFault
line_next n before None = Ok before
line_next n before (Some said) = said_next n before said

-- what was said before, and what these lines say behind it, the first of which has this number
unfoldable pub said_from : ℕ → ℕ → List Said → List (List ℕ) → Result (List Said) ScriptFault
said_from count n before [] = Ok before
said_from count n before (text ∷ texts) = do
  line ← line_of count n text
  said ← line_next n before line
  said_from count (n + 1) said texts

-- what the lines of the bytes say, where cores are below this count
abbrev pub all_said : ℕ → List ℕ → Result (List Said) ScriptFault
all_said count bytes = said_from count 1 [] (lines_of bytes)

-- the lists of lines of a script, for the count of cores that is given, or for none
unfoldable pub script_of : Option ℕ → List ℕ → Result (List (List Line)) ScriptFault
script_of cores bytes =
    if nat_lt limit (length bytes) then Err faults.TooLong
    else all_said (core_limit cores) bytes >>= λ said. Ok (lists_for (core_count cores said) said)
