-- Laws of the state that is rebuilt from rows of words: it stands for every state that has these rows.
use Rattle.std.specs.Prelude.{◌≡◌, ℕ, true, List, [], ◌∷◌, slice_get, length}
use Rattle.std.specs.List.{AllByRecursion, Contains}
use Rattle.mon_types.specs.Shape.{is_shape}
use Rattle.mon_types.specs.Enclaves.{enclave_within}
use Rattle.mon_types.specs.Objects.{width}
use Rattle.mon_types.specs.declared.call.Call.{Call}
use Rattle.mon_types.specs.declared.object.ObjectId.{ObjectId}
use Rattle.mon_model.specs.State.{State, IsWhole, enclave_at, mode_of}
use Rattle.mon_model.specs.Step.{changed, reply_of, after}
use Rattle.mon_model.specs.Tries.{tries}
use Rattle.mon_model.specs.Laws.{AgreeOn}
use Rattle.mon_facts.specs.Tables.{AreTables}
use Rattle.mon_facts.specs.Facts.{FactsHold}
use Rattle.lock_plan.specs.Objects.{IsCaller}
use Rattle.mon_records.specs.Rows.{Found, row_words, objects_of}
use Rattle.mon_records.specs.Rebuilt.{state_of}
use Rattle.mon_records.specs.WithoutItems.{IsDecidedByRecords}
use Rattle.mon_records.specs.Ranges.{AreInRange}

-- A state whose records come back from their rows: the machine is within the limits, the tables are whole, the records
-- are in range, and none names a region or a root past the machine's end.
pub record IsReadable (s : State) : Type 0 where
  pub machine : is_shape s.shape ≡ true
  pub whole : IsWhole s
  pub ranges : AreInRange s
  pub within : (e : ℕ) → enclave_within s.shape (enclave_at s e) ≡ enclave_at s e

-- what always holds of the monitor's states makes them readable
abbrev pub FactsMakeReadable : Type 0
FactsMakeReadable = (s : State) → AreTables s → FactsHold s → AreInRange s → IsReadable s

-- each row of a readable state is as long as its object's rows are
abbrev pub RowsAreLong : Type 0
RowsAreLong = (s : State) (o : ObjectId) → IsReadable s → length (row_words s o) ≡ width o

-- what was found are rows of this state
abbrev pub AreRowsOf : State → Found → Type 0
AreRowsOf s found = AllByRecursion (λ p. p.1 ≡ row_words s p.0) found

-- so they are of every state that agrees on the objects
abbrev pub FoundStays : Type 0
FoundStays =
    (s t : State) (core : ℕ) (tried : List ObjectId) (found : Found)
    → AgreeOn s t core tried → ((o : ObjectId) → Contains (objects_of found) o → Contains tried o)
    → AreRowsOf s found → AreRowsOf t found

-- a core of the machine has found the rows of the objects that its call tries in this state
pub record HasFound (s : State) (core : ℕ) (call : Call) (found : Found) : Type 0 where
  pub caller : IsCaller s.shape core (mode_of s core)
  pub rows : AreRowsOf s found
  pub all : (o : ObjectId) → Contains (tries s core call) o → Contains (objects_of found) o

-- the state that the core rebuilds
abbrev pub rebuilt : State → ℕ → Found → State
rebuilt s core found = state_of s.shape (mode_of s core) found

-- it answers what the state answers, whatever is loaded there, where records decide
abbrev pub RebuiltAnswers : Type 0
RebuiltAnswers =
    (s : State) (core : ℕ) (call : Call) (found : Found)
    → IsReadable s → HasFound s core call found → IsDecidedByRecords call
    → reply_of (rebuilt s core found) core call ≡ reply_of s core call

-- it tries the same objects
abbrev pub RebuiltTries : Type 0
RebuiltTries =
    (s : State) (core : ℕ) (call : Call) (found : Found)
    → IsReadable s → HasFound s core call found → tries (rebuilt s core found) core call ≡ tries s core call

-- and with the state's reply it makes the same rows of them, for every call
abbrev pub RebuiltChanges : Type 0
RebuiltChanges =
    (s : State) (core : ℕ) (call : Call) (found : Found) (digest : List ℕ) (ticket : ℕ) (o : ObjectId)
    → IsReadable s → HasFound s core call found → Contains (tries s core call) o
    → row_words (changed (reply_of s core call) (rebuilt s core found) core call digest ticket) o
    ≡ row_words (after s core call digest ticket) o

-- before anything is found, the first object that it tries is the first that the state tries
abbrev pub NothingFoundBegins : Type 0
NothingFoundBegins =
    (s : State) (core : ℕ) (call : Call)
    → IsCaller s.shape core (mode_of s core)
    → slice_get (tries (rebuilt s core []) core call) 0 ≡ slice_get (tries s core call) 0

-- and once the first is found, it tries all that the state tries
abbrev pub FirstFoundSettles : Type 0
FirstFoundSettles =
    (s : State) (core : ℕ) (call : Call) (found : Found) (first : ObjectId) (others : List ObjectId)
    → IsReadable s → IsCaller s.shape core (mode_of s core) → tries s core call ≡ first ∷ others
    → AreRowsOf s found → Contains (objects_of found) first
    → tries (rebuilt s core found) core call ≡ tries s core call
