-- Laws of who answers for the words of a region.
use Rattle.std.specs.Prelude.{◌≡◌, ◌⊎◌, ℕ, true, Some, List}
use Rattle.std.specs.List.{Contains}
use Rattle.mon_types.specs.declared.call.Call.{Call}
use Rattle.mon_types.specs.declared.object.ObjectId.{ObjectId}
use Rattle.mon_types.specs.declared.object.ObjectId.TheVariants as objects
use Rattle.mon_model.specs.State.{State, region_at}
use Rattle.mon_model.specs.Step.{reply_of, after}
use Rattle.mon_model.specs.Tries.{tries}
use Rattle.mon_facts.specs.Facts.{FactsHold}
use Rattle.mon_model.specs.RegionStep.{is_idle}
use Rattle.mon_records.specs.Answers.{Answers, freed}

-- one object at most answers for a region
abbrev pub OneAnswers : Type 0
OneAnswers = (s : State) (r : ℕ) (o other : ObjectId) → FactsHold s → Answers s o r → Answers s other r → o ≡ other

-- in the state an object answered for the region: this one, or one of those that were tried
pub record WasAnswered (s : State) (tried : List ObjectId) (o : ObjectId) (r : ℕ) : Type 0 where
  pub who : ObjectId
  pub place : (who ≡ o) ⊎ Contains tried who
  pub answers : Answers s who r

-- who answers for a region after a call: the call has freed the region, or somebody answered before
abbrev pub AnsweredBefore : Type 0
AnsweredBefore =
    (s : State) (core : ℕ) (call : Call) (digest : List ℕ) (ticket : ℕ) (o : ObjectId) (r : ℕ)
    → Answers (after s core call digest ticket) o r
    → (freed (reply_of s core call) call ≡ Some r) ⊎ WasAnswered s (tries s core call) o r

-- a call tries the region that it frees, nobody answered for it before, and it is idle afterwards
pub record IsFreed (s : State) (core : ℕ) (call : Call) (digest : List ℕ) (ticket r : ℕ) : Type 0 where
  pub tried : Contains (tries s core call) (objects.Region r)
  pub unused : (o : ObjectId) → Answers s o r → ⊥
  pub idle : is_idle (region_at (after s core call digest ticket) r) ≡ true

-- so it is of every region that a call frees
abbrev pub FreedRegions : Type 0
FreedRegions =
    (s : State) (core : ℕ) (call : Call) (digest : List ℕ) (ticket r : ℕ)
    → FactsHold s → freed (reply_of s core call) call ≡ Some r → IsFreed s core call digest ticket r
