-- Laws of early own-words.
use Rattle.std.specs.Prelude.{◌≡◌, ◌⊎◌, ℕ, true, List, map}
use Rattle.std.specs.List.{AllByRecursion, Contains}
use Rattle.mon_types.specs.Owns.{own_word}
use Rattle.mon_types.specs.Replies.{is_done}
use Rattle.mon_types.specs.declared.call.Call.{Call}
use Rattle.mon_types.specs.declared.object.ObjectId.{ObjectId}
use Rattle.mon_types.specs.declared.object.ObjectId.TheVariants as objects
use Rattle.mon_model.specs.State.{State, region_at}
use Rattle.mon_model.specs.Step.{reply_of, after}
use Rattle.mon_model.specs.Tries.{tries}
use Rattle.mon_records.specs.EarlyWords.{early_words, ReadsOwned}

-- the regions that get one
abbrev pub early_regions : State → Call → List ℕ
early_regions s call = map (λ p. p.0) (early_words s call)

-- the word's region is among those that are tried, and the word does not read Owned
abbrev pub IsEarlyFor : List ObjectId → ℕ × ℕ → Type 0
IsEarlyFor tried p = Contains tried (objects.Region p.0) × (ReadsOwned p.1 → ⊥)

-- so it is of each early word of a call that is Ok
abbrev pub EarlyWordsFit : Type 0
EarlyWordsFit =
    (s : State) (core : ℕ) (call : Call) → is_done (reply_of s core call) ≡ true
    → AllByRecursion (IsEarlyFor (tries s core call)) (early_words s call)

-- each is the region's own-word after the call
abbrev pub EarlyWordsStay : Type 0
EarlyWordsStay =
    (s : State) (core : ℕ) (call : Call) (digest : List ℕ) (ticket : ℕ) → is_done (reply_of s core call) ≡ true
    → AllByRecursion (λ p. p.1 ≡ own_word (region_at (after s core call digest ticket) p.0)) (early_words s call)

-- an Owned region that a call changes gets one
abbrev pub ChangedOwnedAreEarly : Type 0
ChangedOwnedAreEarly =
    (s : State) (core : ℕ) (call : Call) (digest : List ℕ) (ticket r : ℕ) → ReadsOwned (own_word (region_at s r))
    → (region_at (after s core call digest ticket) r ≡ region_at s r)
    ⊎ ((is_done (reply_of s core call) ≡ true) × Contains (early_regions s call) r)
