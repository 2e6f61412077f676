-- Laws of plans. This project's own.
use Rattle.std.specs.Prelude.{◌≡◌, ℕ, zero, suc, List, [], ◌∷◌, ◌++◌, take, true, None}
use Rattle.std.specs.Option.{option_to_list}
use Rattle.mon_types.specs.Shape.{is_shape}
use Rattle.mon_types.specs.declared.call.Call.{Call}
use Rattle.mon_types.specs.declared.object.ObjectId.{ObjectId}
use Rattle.mon_model.specs.State.{State, mode_of}
use Rattle.mon_model.specs.Early.{early}
use Rattle.mon_model.specs.Tries.{add_tried, tried_set, tries}
use Rattle.lock_plan.specs.declared.held.Held.{Held}
use Rattle.lock_plan.specs.Plan.{planned}
use Rattle.lock_plan.specs.Objects.{IsCaller, AreInOrder, HasPlace}
use Rattle.lock_plan.specs.Records.{records_of, with_record, HoldsFront}

-- the first n objects that come of asking for the planned object again and again, each time with the
-- records, in a state, of those that came before
unfoldable pub asked : State → ℕ → Call → ℕ → List ObjectId
asked s core call zero = []
asked s core call (suc n) =
    asked s core call n
    ++ option_to_list (planned s.shape core (mode_of s core) call (records_of s (asked s core call n)))

-- they are the first n that the call tries in that state
abbrev pub AskingGivesTries : Type 0
AskingGivesTries =
    (s : State) (core : ℕ) (call : Call) (n : ℕ) → early s.shape (mode_of s core) call ≡ None
    → asked s core call n ≡ take n (tries s core call)

-- where the record of the next object is pushed, one more of the call's objects is held
abbrev pub OneMoreIsHeld : Type 0
OneMoreIsHeld =
    (s : State) (core : ℕ) (call : Call) (held : Held) (front : List ObjectId) (x : ObjectId) (rest : List ObjectId)
    → HoldsFront s core call held front (x ∷ rest)
    → HoldsFront s core call (with_record s x held) (front ++ x ∷ []) rest

-- in two states of one machine, with the core in one mode, in which the first object that the call tries
-- has one record, the call tries the same objects
abbrev pub FirstSettles : Type 0
FirstSettles =
    (s t : State) (core : ℕ) (call : Call) (x : ObjectId) (rest : List ObjectId) → t.shape ≡ s.shape
    → mode_of t core ≡ mode_of s core → tries s core call ≡ x ∷ rest → records_of t (x ∷ []) ≡ records_of s (x ∷ [])
    → tries t core call ≡ tries s core call

-- what a call tries are objects of the machine, each before all later ones
abbrev pub TriesAscend : Type 0
TriesAscend =
    (s : State) (core : ℕ) (call : Call) → is_shape s.shape ≡ true → IsCaller s.shape core (mode_of s core)
    → AreInOrder s.shape (tries s core call)

-- the sets of the first objects that a call tries have a place for the next, and with it are the sets of one more
pub record AddsTried (front : List ObjectId) (x : ObjectId) : Type 0 where
  pub place : HasPlace (tried_set front) x
  pub added : add_tried x (tried_set front) ≡ tried_set (front ++ x ∷ [])

-- so it is at each place of the list
abbrev pub OneMoreIsTried : Type 0
OneMoreIsTried =
    (s : State) (core : ℕ) (call : Call) (front : List ObjectId) (x : ObjectId) (rest : List ObjectId)
    → is_shape s.shape ≡ true → IsCaller s.shape core (mode_of s core) → tries s core call ≡ front ++ x ∷ rest
    → AddsTried front x
