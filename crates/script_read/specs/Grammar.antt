-- The grammar of scripts, apart from the way in which they are read. All of it is this project's own.
use Rattle.std.specs.Prelude.{◌≡◌, ℕ, ◌+◌, ◌-◌, ◌%◌, ◌^◌, ◌<◌, ◌≤◌, ◌⊎◌, Bool, true, false, ◌==◌, List, [], ◌∷◌, ◌++◌, length, replicate, codes, Option, Some, None, ⊤}
use Rattle.std.specs.Option.{option_to_list}
use Rattle.mon_types.specs.Calls.{call_name, call_args, call_of_registers}
use Rattle.mon_types.specs.declared.call.Call.{Call}
use Rattle.mon_types.specs.declared.call.Call.TheVariants as calls
use Rattle.mon_types.specs.declared.script.Line.{Line}
use Rattle.mon_types.specs.declared.script.Line.TheVariants as lines
use Rattle.mon_types.specs.Owns.{os_word}
use Rattle.script_read.specs.declared.said.Said.{Said}
use Rattle.script_read.specs.declared.said.Said.TheVariants as says
use Rattle.script_read.specs.Cores.{core_limit, core_count, turns_of_core, turn_limit, lists_for}
use Rattle.text_in.specs.Bytes.{is_no_sign, Are}
use Rattle.text_in.specs.Lines.{AreTextLines, IsComment}
use Rattle.text_in.specs.Words.{AreWords}
use Rattle.text_in.specs.Numbers.{IsUnsigned}

-- ---- arguments

-- the word is the number, which is below 2 ^ 64
abbrev pub IsNumber : List ℕ → ℕ → Type 0
IsNumber word n = (n < 2 ^ 64) × IsUnsigned word n

-- the word stands for the argument at this place, counted from 0; `os` may stand where os_there says so
abbrev pub IsArgument : (ℕ → Bool) → ℕ → List ℕ → ℕ → Type 0
IsArgument os_there place word n = IsNumber word n ⊎ ((os_there place ≡ true) × (word ≡ codes "os") × (n ≡ os_word))

-- the words stand for the arguments from this place on
abbrev pub AreArguments : (ℕ → Bool) → ℕ → List (List ℕ) → List ℕ → Type 0
AreArguments os_there place [] [] = ⊤
AreArguments os_there place [] (n ∷ ns) = ⊥
AreArguments os_there place (word ∷ words) [] = ⊥
AreArguments os_there place (word ∷ words) (n ∷ ns) =
    IsArgument os_there place word n × AreArguments os_there (place + 1) words ns

-- the words are these numbers, none of them `os`
abbrev pub AreNumbers : List (List ℕ) → List ℕ → Type 0
AreNumbers words ns = AreArguments (λ place. false) 0 words ns

-- `os` may stand for this argument of the call: the second argument of assign alone
abbrev pub is_owner_place : Call → ℕ → Bool
is_owner_place (calls.Assign r to) place = place == 1
is_owner_place call place = false

-- a call that a line may name: one of the 22 that a number stands for, without aex, which the machine alone makes
abbrev pub is_named_call : Call → Bool
is_named_call (calls.Aex saved) = false
is_named_call (calls.Unknown number args) = false
is_named_call call = true

-- the words are the name of the call and exactly its arguments
pub record IsCallLine (words : List (List ℕ)) (call : Call) : Type 0 where
  pub named : is_named_call call ≡ true
  pub args : List (List ℕ)
  pub words_are : words ≡ call_name call ∷ args
  pub are_arguments : AreArguments (is_owner_place call) 0 args (call_args call)

-- the words are `ecall`, a number, and 0 to 6 further numbers; the call is the one of that number with those, and 0 for
-- each that is missing: those for which it has no use are dropped, and where the number stands for no call it is
-- Unknown with all six
pub record IsEcallLine (words : List (List ℕ)) (call : Call) : Type 0 where
  pub number : ℕ
  pub args : List ℕ
  pub numbers : List (List ℕ)
  pub words_are : words ≡ codes "ecall" ∷ numbers
  pub are_numbers : AreNumbers numbers (number ∷ args)
  pub few : length args ≤ 6
  pub call_is : call ≡ call_of_registers number (args ++ replicate (6 - length args) 0)

-- the words are `pc` and a multiple of 4
pub record IsPcLine (words : List (List ℕ)) (pc : ℕ) : Type 0 where
  pub numbers : List (List ℕ)
  pub words_are : words ≡ codes "pc" ∷ numbers
  pub are_numbers : AreNumbers numbers (pc ∷ [])
  pub whole : pc % 4 ≡ 0

-- the words are `reg`, a number from 1 to 31, and a word of 64 bits
pub record IsRegLine (words : List (List ℕ)) (x value : ℕ) : Type 0 where
  pub numbers : List (List ℕ)
  pub words_are : words ≡ codes "reg" ∷ numbers
  pub are_numbers : AreNumbers numbers (x ∷ value ∷ [])
  pub from : 1 ≤ x
  pub to : x ≤ 31

-- the words are `run` and a number of turns
pub record IsRunLine (words : List (List ℕ)) (turns : ℕ) : Type 0 where
  pub numbers : List (List ℕ)
  pub words_are : words ≡ codes "run" ∷ numbers
  pub are_numbers : AreNumbers numbers (turns ∷ [])

-- the words are `load` and a virtual address
pub record IsLoadLine (words : List (List ℕ)) (va : ℕ) : Type 0 where
  pub numbers : List (List ℕ)
  pub words_are : words ≡ codes "load" ∷ numbers
  pub are_numbers : AreNumbers numbers (va ∷ [])

-- the words are `store`, a virtual address and a word of 64 bits
pub record IsStoreLine (words : List (List ℕ)) (va value : ℕ) : Type 0 where
  pub numbers : List (List ℕ)
  pub words_are : words ≡ codes "store" ∷ numbers
  pub are_numbers : AreNumbers numbers (va ∷ value ∷ [])

-- the words are `core` and the number of a core, which is below this count
pub record IsCoreLine (count : ℕ) (words : List (List ℕ)) (core : ℕ) : Type 0 where
  pub numbers : List (List ℕ)
  pub words_are : words ≡ codes "core" ∷ numbers
  pub are_numbers : AreNumbers numbers (core ∷ [])
  pub below : core < count

-- what the words of a line stand for, as a line of a core: a call by its name or by its number, tick, load, store, pc
-- or reg; a run is told apart
abbrev pub StandsForLine : List (List ℕ) → Line → Type 0
StandsForLine words (lines.Make call) = IsCallLine words call ⊎ IsEcallLine words call
StandsForLine words (lines.Run turns) = ⊥
StandsForLine words lines.Tick = words ≡ codes "tick" ∷ []
StandsForLine words (lines.LoadWord va) = IsLoadLine words va
StandsForLine words (lines.StoreWord va value) = IsStoreLine words va value
StandsForLine words (lines.SetPc pc) = IsPcLine words pc
StandsForLine words (lines.SetReg x value) = IsRegLine words x value

-- what the words of a line say, where cores are below this count: nothing, a line of a core, a run of a core, or whose
-- the lines behind it are
abbrev pub StandsFor : ℕ → List (List ℕ) → Option Said → Type 0
StandsFor count words None = words ≡ []
StandsFor count words (Some (says.Line line)) = StandsForLine words line
StandsFor count words (Some (says.Run turns)) = IsRunLine words turns
StandsFor count words (Some (says.Core core)) = IsCoreLine count words core

-- the text of a line is words and a comment
pub record IsLine (count : ℕ) (text : List ℕ) (said : Option Said) : Type 0 where
  pub before : List ℕ
  pub comment : List ℕ
  pub words : List (List ℕ)
  pub text_is : text ≡ before ++ comment
  pub no_sign : Are is_no_sign before
  pub is_comment : IsComment comment
  pub are_words : AreWords before words
  pub stands : StandsFor count words said

-- the texts of lines say this, one after the other, empty ones nothing
abbrev pub AreLines : ℕ → List (List ℕ) → List Said → Type 0
AreLines count [] said = said ≡ []
AreLines count (text ∷ texts) said =
    (first : Option Said) × (others : List Said) × IsLine count text first × (said ≡ option_to_list first ++ others)
    × AreLines count texts others

-- ---- the whole file

-- the most bytes of a script
abbrev pub limit : ℕ
limit = 1048576

-- the bytes are a script, which has these lists of lines where a count of cores is given, or none: its lines name cores
-- below the count, or below 16 where none is given; no core's runs have more turns together than they may; and the
-- lists are what the lines say of each core
pub record IsScript (cores : Option ℕ) (bytes : List ℕ) (script : List (List Line)) : Type 0 where
  pub within : length bytes ≤ limit
  pub texts : List (List ℕ)
  pub said : List Said
  pub are_texts : AreTextLines bytes texts
  pub are_lines : AreLines (core_limit cores) texts said
  pub few_turns : (core : ℕ) → turns_of_core core said ≤ turn_limit
  pub script_is : script ≡ lists_for (core_count cores said) said
