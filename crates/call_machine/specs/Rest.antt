-- What a call has still to do once its reply is decided, said of the records and the words that it holds. This project's
-- own.
use Rattle.std.specs.Prelude.{ℕ, zero, suc, ◌+◌, ◌-◌, ◌==◌, if◌then◌else◌, List, [], ◌∷◌, ◌++◌, filter, slice_index, slice_set, drop, Option, Some, None}
use Rattle.std.specs.List.{range_with_len}
use Rattle.mon_types.specs.Shape.{Shape}
use Rattle.mon_types.specs.Objects.{width}
use Rattle.mon_types.specs.Owns.{own_word}
use Rattle.mon_types.specs.declared.region.Region.{Region}
use Rattle.mon_types.specs.declared.region.Region.TheVariants as regions
use Rattle.mon_types.specs.declared.call.Call.{Call}
use Rattle.mon_types.specs.declared.call.Call.TheVariants as calls
use Rattle.mon_types.specs.declared.object.ObjectId.{ObjectId}
use Rattle.mon_types.specs.declared.object.ObjectId.TheVariants as objects
use Rattle.mon_model.specs.RegionCalls.{blocked}
use Rattle.dram_map.specs.Addresses.{word_total, region_of_word}
use Rattle.mon_records.specs.Rows.{same_object}
use Rattle.protocol.specs.declared.action.Action.TheVariants as actions
use Rattle.protocol.specs.CallTree.{Tree, then_, write_unless, unlocks, onto}

-- ---- rows that stand one after the other

-- the object and the place in its row of each of so many words from place i on
unfoldable pub row_places : ObjectId → ℕ → ℕ → List (ObjectId × ℕ)
row_places o i zero = []
row_places o i (suc count) = (o, i) ∷ row_places o (suc i) count

-- of each word of the rows of these objects
unfoldable pub places : List ObjectId → List (ObjectId × ℕ)
places [] = []
places (o ∷ os) = row_places o 0 (width o) ++ places os

-- where the row of an object begins
unfoldable pub row_start : List ObjectId → ObjectId → ℕ
row_start [] o = 0
row_start (x ∷ xs) o = if same_object x o then 0 else width x + row_start xs o

-- ---- late writes

-- each word that is to differ from what stands there
unfoldable pub writes : List (ObjectId × ℕ) → List ℕ → List ℕ → Tree → Tree
writes [] stood wanted next = next
writes (p ∷ ps) stood wanted next =
    write_unless (slice_index stood 0 == slice_index wanted 0) p.0 p.1 (slice_index wanted 0)
    (writes ps (drop 1 stood) (drop 1 wanted) next)

-- those from place i of all rows on
abbrev pub writes_from : List (ObjectId × ℕ) → List ℕ → List ℕ → ℕ → Tree → Tree
writes_from ps stood wanted i next = writes (drop i ps) (drop i stood) (drop i wanted) next

-- ---- early writes

-- the own-word with which a delete withdraws a region; one that is not Owned stays
abbrev pub withdrawn_own : Region → Option ℕ
withdrawn_own regions.Free = None
withdrawn_own (regions.Owned owner since) = Some (own_word (regions.Blocked owner since 0))
withdrawn_own (regions.Blocked owner since at) = None
withdrawn_own (regions.Offered to at) = None

-- the own-word that a call writes early for a region that it holds, if it writes one
unfoldable pub early_own : Call → Region → Option ℕ
early_own (calls.Block r) region = Some (own_word (blocked region 0))
early_own (calls.Delete e) region = withdrawn_own region
early_own _ region = None

-- a write of the region's own-word, if there is one; what follows has the words that stand in all rows then
unfoldable pub early_write : Option ℕ → List ObjectId → ℕ → List ℕ → (List ℕ → Tree) → Tree
early_write None os r stood next = next stood
early_write (Some word) os r stood next =
    let region = objects.Region r in
    then_ (actions.Write region 0 word) (next (slice_set stood (row_start os region) word))

-- those of all these regions
unfoldable pub early_rest : Call → List ObjectId → List (ℕ × Region) → List ℕ → (List ℕ → Tree) → Tree
early_rest call os [] stood next = next stood
early_rest call os (p ∷ ps) stood next =
    early_write (early_own call p.1) os p.0 stood (λ now. early_rest call os ps now next)

-- ---- zeros

-- the words of a region from word i on, ascending
abbrev pub region_words_from : Shape → ℕ → ℕ → List ℕ
region_words_from shape r i = filter (λ j. region_of_word shape j == r) (range_with_len i (word_total shape - i))

-- ---- unlocks

-- the last of so many of these objects first
abbrev pub unlocks_of : List ObjectId → Tree
unlocks_of os = unlocks (onto os [])
