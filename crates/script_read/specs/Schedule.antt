-- Schedules: the grammar, apart from the way in which they are read; and how they are read from the start, with the
-- first fault that is met. All of it is this project's own.
use Rattle.std.specs.Prelude.{◌≡◌, ℕ, ◌+◌, ◌-◌, ◌^◌, ◌<◌, ◌≤◌, ◌⊎◌, true, nat_lt, if◌then◌else◌, List, [], ◌∷◌, ◌++◌, length, codes, Option, Some, None, Result, Ok, Err}
use Rattle.std.specs.List.{before_first, slice_split}
use Rattle.std.specs.Option.{option_and_then, option_map, ok_or}
use Rattle.mon_types.specs.declared.script.StepItem.{StepItem}
use Rattle.reader_answers.specs.Steps.{◌>>=◌}
use Rattle.script_read.specs.declared.fault.ScheduleFault.{ScheduleFault}
use Rattle.text_in.specs.Bytes.{is_gap, is_star, Are, begins}
use Rattle.text_in.specs.Cuts.{from_first}
use Rattle.text_in.specs.Numbers.{IsDecimal, digits_number, up_to}

-- the most bytes of a schedule
abbrev pub schedule_limit : ℕ
schedule_limit = 1048576

-- ---- the grammar

-- the digits are the number of a core, which is below this count of cores
abbrev pub IsCore : ℕ → List ℕ → ℕ → Type 0
IsCore cores digits core = (core < cores) × IsDecimal digits core

-- the word is `K*N`: a core, and its number of steps, below 2 ^ 32
pub record IsCounted (cores : ℕ) (word : List ℕ) (item : StepItem) : Type 0 where
  pub core : List ℕ
  pub steps : List ℕ
  pub word_is : word ≡ core ++ (codes "*" ++ steps)
  pub is_core : IsCore cores core item.core
  pub are_steps : IsDecimal steps item.count
  pub few : item.count < 2 ^ 32

-- the word is `K`, one step of a core
abbrev pub IsSingle : ℕ → List ℕ → StepItem → Type 0
IsSingle cores word item = IsCore cores word item.core × (item.count ≡ 1)

-- the word is an item, `K` or `K*N`
abbrev pub IsItem : ℕ → List ℕ → StepItem → Type 0
IsItem cores word item = IsSingle cores word item ⊎ IsCounted cores word item

-- the text is gaps, then the word of an item, and then the rest, which begins with a gap where there is any
pub record IsFirstItem (cores : ℕ) (text : List ℕ) (item : StepItem) (rest : List ℕ) : Type 0 where
  pub gaps : List ℕ
  pub word : List ℕ
  pub are_gaps : Are is_gap gaps
  pub is_item : IsItem cores word item
  pub apart : begins is_gap rest ≡ true
  pub text_is : text ≡ gaps ++ (word ++ rest)

-- the text is these items, with gaps between them, and round them where there are any
abbrev pub AreItems : ℕ → List ℕ → List StepItem → Type 0
AreItems cores text [] = Are is_gap text
AreItems cores text (item ∷ items) =
    (rest : List ℕ) × IsFirstItem cores text item rest × AreItems cores rest items

-- the bytes are a schedule of these items, where cores are below this count
pub record IsSchedule (cores : ℕ) (bytes : List ℕ) (items : List StepItem) : Type 0 where
  pub within : length bytes ≤ schedule_limit
  pub are_items : AreItems cores bytes items

-- ---- how it is read

-- the core of these digits, where it is below the count
abbrev pub core_of : ℕ → List ℕ → Option ℕ
core_of cores digits =
    option_and_then (λ core. if nat_lt core cores then Some core else None) (digits_number 10 digits)

-- how many steps the bytes behind the core's digits ask for: one where there are none, and else the number behind the
-- star that they begin with
abbrev pub steps_of : List ℕ → Option ℕ
steps_of [] = Some 1
steps_of (star ∷ digits) = up_to (2 ^ 32 - 1) (digits_number 10 digits)

-- so many steps of a core, where both are known
abbrev pub item_with : Option ℕ → Option ℕ → Option StepItem
item_with core steps =
    option_and_then (λ k. option_map (λ n. record { core = k; count = n }) steps) core

-- the item that the word is
unfoldable pub item_of : ℕ → List ℕ → Option StepItem
item_of cores word = item_with (core_of cores (before_first is_star word)) (steps_of (from_first is_star word))

-- the items of these pieces, the first of which stands at this offset, with a gap of one byte behind each; an empty
-- piece, which stands between two gaps, is no item
unfoldable pub items_from : ℕ → ℕ → List (List ℕ) → Result (List StepItem) ScheduleFault
items_from cores offset [] = Ok []
items_from cores offset ([] ∷ pieces) = items_from cores (offset + 1) pieces
items_from cores offset ((b ∷ bs) ∷ pieces) = do
  item ← ok_or (item_of cores (b ∷ bs)) (record { at = offset })
  items ← items_from cores (offset + length (b ∷ bs) + 1) pieces
  Ok (item ∷ items)

-- the items of a text that stands at this offset
abbrev pub items_of : ℕ → ℕ → List ℕ → Result (List StepItem) ScheduleFault
items_of cores offset text = items_from cores offset (slice_split is_gap text)

-- the items that the bytes are, where cores are below this count
unfoldable pub schedule_of : ℕ → List ℕ → Result (List StepItem) ScheduleFault
schedule_of cores bytes =
    if nat_lt schedule_limit (length bytes) then Err (record { at = schedule_limit }) else items_of cores 0 bytes
