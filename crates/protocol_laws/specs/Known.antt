-- What a core knows in the middle of a call, while other cores move: what holds of every state that the monitor
-- reaches, and that what the core holds is left alone. This project's own.
use Rattle.std.specs.Prelude.{◌≡◌, ℕ, ◌<◌, List}
use Rattle.mon_types.specs.Owns.{own_word}
use Rattle.mon_types.specs.Objects.{width}
use Rattle.mon_types.specs.declared.object.ObjectId.{ObjectId}
use Rattle.mon_types.specs.declared.object.ObjectId.TheVariants as objects
use Rattle.mon_model.specs.State.{State, region_at, mode_of}
use Rattle.mon_model.specs.Laws.{AgreeOn}
use Rattle.mon_facts.specs.Tables.{AreTables}
use Rattle.mon_facts.specs.Facts.{FactsHold}
use Rattle.lock_plan.specs.Objects.{IsCaller}
use Rattle.dram_map.specs.Addresses.{word_total, region_of_word}
use Rattle.mon_records.specs.Ranges.{AreInRange}
use Rattle.mon_records.specs.Answers.{Answers}
use Rattle.mon_records.specs.EarlyWords.{ReadsOwned}
use Rattle.mon_records.specs.Members.{In}
use Rattle.loaded_pages.specs.Content.{Content}
use Rattle.loaded_pages.specs.Facts.{ContentHolds}
use Rattle.protocol.specs.Places.{Row, Dram, Memory, row_word}

-- what holds of every state that the monitor reaches, with its content, where the core is one of the machine's
pub record IsSound (core : ℕ) (s : State) (content : Content) : Type 0 where
  pub ranges : AreInRange s
  pub tables : AreTables s
  pub facts : FactsHold s
  pub caller : IsCaller s.shape core (mode_of s core)
  pub holds : ContentHolds s content

-- ---- words of DRAM, by who answers for them

-- one of these objects answers for the word
pub record Keeps (s : State) (held : List ObjectId) (i : ℕ) : Type 0 where
  pub who : ObjectId
  pub held_is : In who held
  pub answers : Answers s who (region_of_word s.shape i)

-- a Loading enclave that is held answers for it
pub record KeepsLoading (s : State) (held : List ObjectId) (i : ℕ) : Type 0 where
  pub slot : ℕ
  pub held_is : In (objects.Enclave slot) held
  pub answers : Answers s (objects.Enclave slot) (region_of_word s.shape i)

-- no object does
abbrev pub IsUnused : State → ℕ → Type 0
IsUnused s i = (o : ObjectId) → Answers s o (region_of_word s.shape i) → ⊥

-- ---- what stands in the words

-- the row of an object is that of its record
abbrev pub RowStands : ObjectId → State → Memory → Type 0
RowStands o s memory = (i : ℕ) → i < width o → memory (Row o i) ≡ row_word s o i

-- the words for which an object answers are those of the content
abbrev pub WordsStand : ObjectId → State → Content → Memory → Type 0
WordsStand o s content memory =
    (i : ℕ) → i < word_total s.shape → Answers s o (region_of_word s.shape i) → memory (Dram i) ≡ content i

-- the own-word of a region that is held is true where it reads Owned
abbrev pub OwnedAreTrue : State → List ObjectId → Memory → Type 0
OwnedAreTrue s held memory =
    (r : ℕ) → In (objects.Region r) held → ReadsOwned (memory (Row (objects.Region r) 0))
    → memory (Row (objects.Region r) 0) ≡ own_word (region_at s r)

-- ---- what others leave alone

-- To a core that holds these objects the later state t, with this content and memory, looks as s did: the records of
-- the objects, their rows, and the words for which they answer are as they were, and so is the core's mode.
pub record LooksSame (core : ℕ) (s : State) (content : Content) (held : List ObjectId) (memory : Memory)
    (t : State) (later_content : Content) (later : Memory) : Type 0 where
  pub agree : AgreeOn s t core held
  pub rows : (o : ObjectId) (i : ℕ) → In o held → i < width o → later (Row o i) ≡ memory (Row o i)
  pub words : (i : ℕ) → Keeps s held i → later (Dram i) ≡ memory (Dram i)
  pub kept : (i : ℕ) → Keeps s held i → later_content i ≡ content i
