-- Who answers for the words of a region: no core may change them that does not hold this object. This project's own.
use Rattle.std.specs.Prelude.{◌≡◌, ℕ, true, if◌then◌else◌, Option, Some, None}
use Rattle.mon_types.specs.Bits.{has_bit}
use Rattle.mon_types.specs.Replies.{is_done}
use Rattle.mon_types.specs.declared.call.Call.{Call}
use Rattle.mon_types.specs.declared.call.Call.TheVariants as calls
use Rattle.mon_types.specs.declared.reply.Reply.{Reply}
use Rattle.mon_types.specs.declared.object.ObjectId.{ObjectId}
use Rattle.mon_types.specs.declared.object.ObjectId.TheVariants as objects
use Rattle.mon_model.specs.State.{State, region_at, enclave_at}
use Rattle.mon_model.specs.RegionCalls.{is_loading}
use Rattle.mon_model.specs.RegionStep.{is_idle}

-- an enclave slot answers for the regions of its set as long as its enclave is Loading, and an idle region for itself
abbrev pub AnswersFor : State → ObjectId → ℕ → Type 0
AnswersFor s (objects.Enclave e) r =
    (is_loading (enclave_at s e).stage ≡ true) × (has_bit (enclave_at s e).regions r ≡ true)
AnswersFor s (objects.Thread t) r = ⊥
AnswersFor s (objects.Region q) r = (q ≡ r) × (is_idle (region_at s q) ≡ true)
AnswersFor s (objects.Cell c) r = ⊥

-- the object answers for the words of region r
pub record Answers (s : State) (o : ObjectId) (r : ℕ) : Type 0 where
  pub is : AnswersFor s o r

-- the region that a call frees where it is Ok
abbrev pub freed_where_ok : Call → Option ℕ
freed_where_ok (calls.Free r) = Some r
freed_where_ok _ = None

-- the region that a call with this reply frees
unfoldable pub freed : Reply → Call → Option ℕ
freed reply call = if is_done reply then freed_where_ok call else None
