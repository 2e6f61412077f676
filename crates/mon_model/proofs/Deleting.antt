-- Regions are deleted one after the other.
use Rattle.std.proofs.Common.{◌≡◌, ℕ, ◌+◌, Bool, true, cond, List, [], ◌∷◌, ◌++◌, refl, sym, ap, ◌∙◌, add-one, slice_set, slice_index_or}
use Rattle.mon_types.specs.declared.region.Region.{Region}
use Rattle.mon_types.specs.declared.region.Region.TheVariants as regions
use Rattle.mon_types.specs.Enclaves.{empty_enclave}
use Rattle.mon_types.specs.declared.enclave.Enclave.{Enclave}
use Rattle.mon_types.specs.declared.enclave.Loaded.{Loaded}
use Rattle.mon_model.specs.State.{State, region_at, enclave_at, with_region, with_slot}
use Rattle.mon_types.specs.Bits.{member, members}
use Rattle.mon_model.specs.EnclaveCalls.{deleted}
use Rattle.mon_model.specs.Step.{with_deleted, regions_of}
use Rattle.mon_model.specs.Deleted.{deleted_in}

pub deleted_in-append : (table : List Region) (rs qs : List ℕ) (k : ℕ) → deleted_in table (rs ++ qs) k ≡ deleted_in (deleted_in table rs k) qs k
deleted_in-append table [] qs k = refl
deleted_in-append table (r ∷ rs) qs k = deleted_in-append (slice_set table r (deleted (slice_index_or table r regions.Free) k)) rs qs k

members-more : (set n : ℕ) → members set (n + 1) ≡ members set n ++ member set n
unfolding members
members-more set n = ap (λ (i : ℕ). members set i) (add-one n)

-- one more number of the set
pub deleted_in-more : (table : List Region) (set n k : ℕ) → deleted_in table (members set (n + 1)) k ≡ deleted_in (deleted_in table (members set n) k) (member set n) k
deleted_in-more table set n k =
    ap (λ (rs : List ℕ). deleted_in table rs k) (members-more set n) ∙ deleted_in-append table (members set n) (member set n) k

pub deleted_in-none : (table : List Region) (set k : ℕ) → deleted_in table (members set 0) k ≡ table
unfolding members
deleted_in-none table set k = refl

-- the state with the table in which they are deleted
pub with_deleted_in : (s : State) (rs : List ℕ) (k : ℕ) → with_deleted s rs k ≡ record s { regions = deleted_in s.regions rs k }
with_deleted_in s [] k = refl
with_deleted_in s (r ∷ rs) k = with_deleted_in (with_region s r (deleted (region_at s r) k)) rs k

-- what a delete leaves, where the table has so many regions
pub deleted_slot : (s : State) (e n k : ℕ) (table : List Region) → n ≡ s.shape.regions → table ≡ deleted_in s.regions (members (enclave_at s e).regions n) k
    → with_slot (with_deleted s (regions_of s e) k) e empty_enclave [] ≡ record s { regions = table; enclaves = slice_set s.enclaves e empty_enclave; loaded = slice_set s.loaded e [] }
deleted_slot s e n k table count is =
    let set = (enclave_at s e).regions in
    ap (λ (x : State). with_slot x e empty_enclave []) (with_deleted_in s (regions_of s e) k)
    ∙ ap (λ (t : List Region). with_slot (record s { regions = t }) e empty_enclave []) {x = deleted_in s.regions (members set s.shape.regions) k} {y = table} (sym (is ∙ ap (λ (i : ℕ). deleted_in s.regions (members set i) k) count))

-- the same of a table, a record and a list that are known by equations
pub deleted_all : (s : State) (e n k set : ℕ) (done : Bool) (old table left : List Region) (enclave : Enclave) (items : List Loaded)
    → n ≡ s.shape.regions → old ≡ s.regions → set ≡ (enclave_at s e).regions → table ≡ deleted_in old (members set n) k → left ≡ table → enclave ≡ empty_enclave → items ≡ [] → done ≡ true
    → record s { regions = left; enclaves = slice_set s.enclaves e enclave; loaded = slice_set s.loaded e items } ≡ cond done (with_slot (with_deleted s (regions_of s e) k) e empty_enclave []) s
deleted_all s e n k set done old table left enclave items count was members_of is same empty none decided =
    let table_is : table ≡ deleted_in s.regions (members (enclave_at s e).regions n) k =
    is ∙ ap (λ (t : List Region). deleted_in t (members set n) k) was ∙ ap (λ (w : ℕ). deleted_in s.regions (members w n) k) members_of in
    rw (same, empty, none, decided) (sym (deleted_slot s e n k table count table_is))

pub ruleset deleting = (deleted_in-more, deleted_in-none)
