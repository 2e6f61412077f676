-- How far a monitor call is, read off its moves, and what its tree makes at each stage: it takes locks and reads rows,
-- or has found a lock held, or has drawn its ticket. This project's own.
use Rattle.std.specs.Prelude.{◌≡◌, ℕ, ⊤, true, false, List, [], ◌∷◌, Some}
use Rattle.mon_types.specs.Shape.{Shape}
use Rattle.mon_types.specs.Replies.{is_concurrent}
use Rattle.mon_types.specs.declared.call.Call.{Call}
use Rattle.mon_types.specs.declared.reply.Reply.TheVariants as replies
use Rattle.mon_types.specs.declared.object.ObjectId.{ObjectId}
use Rattle.mon_model.specs.Tries.{tried_set}
use Rattle.dram_map.specs.Addresses.{region_of_word}
use Rattle.mon_enclaves.specs.LoadReply.{is_load}
use Rattle.mon_records.specs.Answers.{freed}
use Rattle.protocol.specs.declared.action.Action.{Action}
use Rattle.protocol.specs.declared.action.Action.TheVariants as actions
use Rattle.protocol.specs.declared.action.Draft.{Draft}
use Rattle.protocol.specs.declared.action.Outcome.{Outcome}
use Rattle.protocol.specs.declared.action.Outcome.TheVariants as outcomes
use Rattle.protocol.specs.CallTree.{Tree, Over, Makes, onto}
use Rattle.protocol.specs.Records.{withdraws_any, IsOwnWord, ReadsBlocked}

-- A call has taken these objects, the last one first; or it has besides found a lock held by the holder's call with
-- this serial; or it has drawn its ticket for this draft. Outcomes that never come lead to the last.
pub data Stage : Type 0 where
  Locking : (taken : List ObjectId) → Stage
  Met : (lock : ObjectId) (holder serial : ℕ) (taken : List ObjectId) → Stage
  Drawn : (draft : Draft) → Stage
  Astray : Stage

-- after a TryLock
unfoldable pub stage_tried : List ObjectId → ObjectId → Outcome → Stage
stage_tried os o outcomes.Taken = Locking (o ∷ os)
stage_tried os o (outcomes.HeldBy holder serial) = Met o holder serial os
stage_tried os o (outcomes.Word word) = Astray
stage_tried os o (outcomes.Ticket ticket) = Astray
stage_tried os o outcomes.Done = Astray
stage_tried os o (outcomes.Again loaded found) = Astray

-- where a call holds these and has no ticket
unfoldable pub stage_locking : List ObjectId → Action → Outcome → Stage
stage_locking os (actions.TryLock o) out = stage_tried os o out
stage_locking os (actions.Read o i) out = Locking os
stage_locking os (actions.Write o i word) out = Locking os
stage_locking os (actions.Draw draft) out = Drawn draft
stage_locking os (actions.Unlock o) out = Astray
stage_locking os (actions.Load i) out = Locking os
stage_locking os (actions.Store i word) out = Locking os

-- where it has met a lock
unfoldable pub stage_met : Action → Stage
stage_met (actions.TryLock o) = Astray
stage_met (actions.Read o i) = Astray
stage_met (actions.Write o i word) = Astray
stage_met (actions.Draw draft) = Drawn draft
stage_met (actions.Unlock o) = Astray
stage_met (actions.Load i) = Astray
stage_met (actions.Store i word) = Astray

-- after one more move
unfoldable pub stage_by : Stage → Action → Outcome → Stage
stage_by (Locking os) a out = stage_locking os a out
stage_by (Met lock holder serial os) a out = stage_met a
stage_by (Drawn draft) a out = Drawn draft
stage_by Astray a out = Astray

-- after these moves, the newest first
unfoldable pub stage_of : List (Action × Outcome) → Stage
stage_of [] = Locking []
stage_of (m ∷ ms) = stage_by (stage_of ms) m.0 m.1

-- ---- what a call makes

-- where it has no ticket and has met no lock
abbrev pub MayInLocking : Shape → Call → List ObjectId → Action → Type 0
MayInLocking shape call os (actions.TryLock o) = ⊤
MayInLocking shape call os (actions.Read o i) = ⊤
MayInLocking shape call os (actions.Write o i word) = IsOwnWord o i × ReadsBlocked word × (withdraws_any call ≡ true)
MayInLocking shape call os (actions.Draw draft) =
    (draft.call ≡ call) × (draft.tried ≡ tried_set (onto os [])) × (is_concurrent draft.reply ≡ false)
MayInLocking shape call os (actions.Unlock o) = ⊥
MayInLocking shape call os (actions.Load i) = ⊤
MayInLocking shape call os (actions.Store i word) = is_load call ≡ true

-- where it has met a lock
abbrev pub MayInMet : Call → ObjectId → ℕ → ℕ → List ObjectId → Action → Type 0
MayInMet call lock holder serial os (actions.TryLock o) = ⊥
MayInMet call lock holder serial os (actions.Read o i) = ⊥
MayInMet call lock holder serial os (actions.Write o i word) = ⊥
MayInMet call lock holder serial os (actions.Draw draft) =
    (draft.call ≡ call) × (draft.tried ≡ tried_set (onto (lock ∷ os) []))
    × (draft.reply ≡ replies.ConcurrentCall lock holder serial)
MayInMet call lock holder serial os (actions.Unlock o) = ⊥
MayInMet call lock holder serial os (actions.Load i) = ⊥
MayInMet call lock holder serial os (actions.Store i word) = ⊥

-- where it has its ticket: a Store is of a 0 in the region that it has freed
abbrev pub MayInDrawn : Shape → Draft → Action → Type 0
MayInDrawn shape draft (actions.TryLock o) = ⊥
MayInDrawn shape draft (actions.Read o i) = ⊥
MayInDrawn shape draft (actions.Write o i word) = ⊤
MayInDrawn shape draft (actions.Draw other) = ⊥
MayInDrawn shape draft (actions.Unlock o) = ⊤
MayInDrawn shape draft (actions.Load i) = ⊥
MayInDrawn shape draft (actions.Store i word) =
    (word ≡ 0) × (freed draft.reply draft.call ≡ Some (region_of_word shape i))

-- at each stage
abbrev pub MayMake : Shape → Call → Stage → Action → Type 0
MayMake shape call (Locking os) a = MayInLocking shape call os a
MayMake shape call (Met lock holder serial os) a = MayInMet call lock holder serial os a
MayMake shape call (Drawn draft) a = MayInDrawn shape draft a
MayMake shape call Astray a = ⊥

-- behind the Draw what follows is the same for each outcome
abbrev pub IsSettled : Stage → (Outcome → Tree) → Type 0
IsSettled (Locking os) next = ⊤
IsSettled (Met lock holder serial os) next = ⊤
IsSettled (Drawn draft) next = (out : Outcome) → next out ≡ next outcomes.Done
IsSettled Astray next = ⊤

-- a call that has met a lock is not over
abbrev pub MayEnd : Stage → Type 0
MayEnd (Locking os) = ⊤
MayEnd (Met lock holder serial os) = ⊥
MayEnd (Drawn draft) = ⊤
MayEnd Astray = ⊤

-- a tree goes so from a stage on
abbrev pub Goes : Shape → Call → Stage → Tree → Type 0
Goes shape call stage Over = MayEnd stage
Goes shape call stage (Makes a next) =
    MayMake shape call stage a × IsSettled stage next
    × ((out : Outcome) → Goes shape call (stage_by stage a out) (next out))
