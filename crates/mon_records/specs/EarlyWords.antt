-- The own-words that a call writes before it draws its ticket, where its reply is Ok: those of the regions that a block
-- or a delete withdraws from their owners, each with its region. This project's own.
use Rattle.std.specs.Prelude.{◌≡◌, ℕ, ◌%◌, List, [], ◌∷◌, ◌++◌}
use Rattle.mon_types.specs.Owns.{own_word}
use Rattle.mon_types.specs.declared.region.Region.{Region}
use Rattle.mon_types.specs.declared.region.Region.TheVariants as regions
use Rattle.mon_types.specs.declared.call.Call.{Call}
use Rattle.mon_types.specs.declared.call.Call.TheVariants as calls
use Rattle.mon_model.specs.State.{State, region_at}
use Rattle.mon_model.specs.RegionCalls.{blocked}
use Rattle.mon_model.specs.Step.{regions_of}

-- an own-word reads Owned
abbrev pub ReadsOwned : ℕ → Type 0
ReadsOwned word = word % 4 ≡ 1

-- that of a region of a deleted enclave; one that is not Owned, which never comes, stays as it is
abbrev pub withdrawn_word : ℕ → Region → List (ℕ × ℕ)
withdrawn_word r regions.Free = []
withdrawn_word r (regions.Owned owner since) = (r, own_word (regions.Blocked owner since 0)) ∷ []
withdrawn_word r (regions.Blocked owner since at) = []
withdrawn_word r (regions.Offered to at) = []

-- those of a list of regions
abbrev pub withdrawn_words : State → List ℕ → List (ℕ × ℕ)
withdrawn_words s [] = []
withdrawn_words s (r ∷ rs) = withdrawn_word r (region_at s r) ++ withdrawn_words s rs

-- those of a call; the ticket of a blocking is not in the own-word
unfoldable pub early_words : State → Call → List (ℕ × ℕ)
early_words s (calls.Block r) = (r, own_word (blocked (region_at s r) 0)) ∷ []
early_words s (calls.Delete e) = withdrawn_words s (regions_of s e)
early_words s _ = []
