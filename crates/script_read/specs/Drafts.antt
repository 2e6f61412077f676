-- What a draft keeps of the lines that were read so far. All of it is this project's own.
use Rattle.std.specs.Prelude.{◌≡◌, ◌<◌, ◌≤◌, ℕ, ◌+◌, nat_lt, if◌then◌else◌, List, [], length, slice_index, slice_index_or, Option, Some, None, Result, Ok, Err}
use Rattle.mon_types.specs.declared.script.Line.{Line}
use Rattle.reader_answers.specs.declared.errors.ParseError.{ParseError}
use Rattle.reader_answers.specs.Answers.{Fails}
use Rattle.script_read.specs.declared.draft.Draft.{Draft}
use Rattle.script_read.specs.declared.said.Said.{Said}
use Rattle.script_read.specs.declared.said.Said.TheVariants as says
use Rattle.script_read.specs.declared.fault.ScriptFault.{ScriptFault}
use Rattle.script_read.specs.Cores.{turns_in, turn_limit, lines_of_core, core_after, turns_of_core, greatest_core}
use Rattle.script_read.specs.Grammar.{limit}

-- the lines of a core among these lists
abbrev pub list_at : List (List Line) → ℕ → List Line
list_at lists core = slice_index_or lists core []

-- the draft keeps this, which the lines of a script have said; it has a list for each core below a count, and a number
-- of turns for each core of 8 bits
pub record Keeps (count : ℕ) (said : List Said) (draft : Draft) : Type 0 where
  pub core : draft.core ≡ core_after said
  pub core_below : draft.core < count
  pub top : draft.top ≡ greatest_core said
  pub top_below : draft.top < count
  pub turns : (core : ℕ) → core < 256 → slice_index draft.turns core ≡ turns_of_core core said
  pub size : length draft.lists.items ≡ count
  pub lists : (core : ℕ) → core < count → list_at draft.lists.items core ≡ lines_of_core core said

-- the turns before and these, where together they are no more than they may be
abbrev pub turns_with : ℕ → ℕ → Option ℕ
turns_with before turns = if nat_lt turn_limit (before + turns) then None else Some (before + turns)

-- a line may say this: a run is told as one, and a core that is named is below this count
abbrev pub MayBeSaid : ℕ → Said → Type 0
MayBeSaid count (says.Line line) = turns_in line ≡ 0
MayBeSaid count (says.Run turns) = Unit {0}
MayBeSaid count (says.Core core) = core < count

-- the draft keeps what was read, unless that is a fault, or memory ran out
abbrev pub Adds : {Y : Type 0} → ℕ → Draft → Result Y (ParseError ScriptFault) → Result (List Said) ScriptFault → Type 0
Adds count draft (Ok done) read = (said : List Said) × (read ≡ Ok said) × Keeps count said draft
Adds count draft (Err error) read = Fails error read

-- the answer is a draft that keeps what was read, no more than a script has bytes at most, unless that is a fault, or
-- memory ran out
abbrev pub Drafts : ℕ → Result Draft (ParseError ScriptFault) → Result (List Said) ScriptFault → Type 0
Drafts count (Ok draft) read = (said : List Said) × (read ≡ Ok said) × Keeps count said draft × (length said ≤ limit)
Drafts count (Err error) read = Fails error read
