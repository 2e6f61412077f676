-- Regions come back from the two words of their rows.
use Rattle.std.proofs.Common.{◌≡◌, ◌<◌, ◌+◌, ◌-◌, ◌*◌, ◌/◌, ◌%◌, ◌^◌, ◌∙◌, ℕ, Bool, true, false, List, [], ◌∷◌, ap, sym, refl, subst, arith}
use Rattle.std.specs.Prelude.{◌==◌, if◌then◌else◌, nat_lt, slice_index}
use Rattle.std.proofs.lemmas.Bool.Decides.{nat_tests}
use Rattle.mon_types.specs.declared.region.Owner.{Owner}
use Rattle.mon_types.specs.declared.region.Owner.TheVariants as owners
use Rattle.mon_types.specs.declared.region.Region.{Region}
use Rattle.mon_types.specs.declared.region.Region.TheVariants as regions
use Rattle.mon_types.specs.Owns.{IsOwner, IsRegion, IsRegionRow, RegionNamesSlot, owner_code, own_word, at_word, region_row, owner_from, offered_to, region_by, region_parts, region_from}
use Rattle.mon_types.proofs.Rows.{none_where_other, row_back, kept_or_none, fitting_is, fitting_less}

owner_back : (o : Owner) → IsOwner o → owner_from (owner_code o) ≡ o
unfolding owner_from
owner_back owners.Os h = refl
owner_back (owners.Enclave e) h = grind (arith, nat_tests)

owner_small : (o : Owner) → IsOwner o → owner_code o < 16
owner_small owners.Os h = omega arith
owner_small (owners.Enclave e) h = omega arith

by_parts : (word at state code since : ℕ) (owner : Owner) → word % 4 ≡ state → word / 4 % 16 ≡ code → owner_from code ≡ owner → word / 64 ≡ since → since < 2 ^ 32 → at < 2 ^ 32 → region_parts (word ∷ at ∷ []) ≡ region_by state owner since at
unfolding region_parts
by_parts word at state code since owner e1 e2 o e3 h k =
    let s = fitting_is (2 ^ 32) since h in
    let a = fitting_is (2 ^ 32) at k in
    rw (e1, e2, o, e3, s, a) refl

parts_back : (r : Region) → IsRegion r → region_parts (region_row r) ≡ r
unfolding region_by
parts_back regions.Free h = by_parts 0 0 0 0 0 owners.Os refl refl (owner_back owners.Os tt) refl (omega arith) (omega arith)
parts_back (regions.Owned o since) h =
    let c = owner_code o in
    let s = owner_small o h.0 in
    by_parts (1 + 4 * c + 64 * since) 0 1 c since o (omega arith) (omega (arith, s)) (owner_back o h.0) (omega (arith, s)) h.1 (omega arith)
parts_back (regions.Blocked o since at) h =
    let c = owner_code o in
    let s = owner_small o h.0 in
    by_parts (2 + 4 * c + 64 * since) at 2 c since o (omega arith) (omega (arith, s)) (owner_back o h.0) (omega (arith, s)) h.1 h.2
parts_back (regions.Offered to at) h =
    let s = h.0 in
    by_parts (3 + 4 * (1 + to) + 64 * at) 0 3 (1 + to) at (owners.Enclave to) (omega arith) (omega (arith, s)) (owner_back (owners.Enclave to) h.0) (omega (arith, s)) h.1 (omega arith)

pub region_back : (r : Region) → IsRegion r → region_from (region_row r) ≡ r
unfolding region_from
region_back r h = row_back region_row region_parts r regions.Free (parts_back r h)

owner_valid : (code : ℕ) → IsOwner (owner_from code)
unfolding owner_from
owner_valid code = by (code == 0) (nat_lt code 9) (λ h. grind (arith, nat_tests))
  where
    by : (a b : Bool) → (b ≡ true → code - 1 < 8) → IsOwner (if a then owners.Os else if b then owners.Enclave (code - 1) else owners.Os)
    by true b h = tt
    by false true h = h refl
    by false false h = tt

by_valid : (state : ℕ) (owner : Owner) (since at : ℕ) → IsOwner owner → since < 2 ^ 32 → at < 2 ^ 32 → IsRegion (region_by state owner since at)
unfolding region_by
by_valid state owner since at o h k = by owner (state == 1) (state == 2) (state == 3) o
  where
    by : (w : Owner) (a b c : Bool) → IsOwner w → IsRegion (if a then regions.Owned w since else if b then regions.Blocked w since at else if c then offered_to w since else regions.Free)
    by w true b c v = (v, h)
    by w false true c v = (v, h, k)
    by owners.Os false false true v = tt
    by (owners.Enclave to) false false true v = (v, h)
    by w false false false v = tt

pub parts_valid : (words : List ℕ) → IsRegion (region_parts words)
unfolding region_parts
parts_valid words = by_valid _ _ _ _ (owner_valid _) (fitting_less (2 ^ 32) _ (omega arith)) (fitting_less (2 ^ 32) _ (omega arith))

pub region_valid : (words : List ℕ) → IsRegion (region_from words)
unfolding region_from
region_valid words = kept_or_none IsRegion _ (region_parts words) regions.Free (parts_valid words) tt

names_slot : (r : Region) → IsRegion r → RegionNamesSlot r
names_slot regions.Free h = tt
names_slot (regions.Owned owner since) h = h.0
names_slot (regions.Blocked owner since at) h = h.0
names_slot (regions.Offered to at) h = h.0

-- ---- parts that are the record of two words, and parts that are not

pub parts_named : (words : List ℕ) (r : Region) → r ≡ region_parts words → RegionNamesSlot r
parts_named words r e = names_slot r (subst IsRegion (sym e) (parts_valid words))

row_of : (word at : ℕ) (r : Region) → IsRegionRow word at r → region_row r ≡ word ∷ at ∷ []
row_of word at r h = ap (λ w. w ∷ at_word r ∷ []) h.first ∙ ap (λ a. word ∷ a ∷ []) h.second

pub found : (word at : ℕ) (r : Region) → r ≡ region_parts (word ∷ at ∷ []) → own_word r ≡ word → at_word r ≡ at → IsRegionRow word at r
found word at r e first second = record { valid = subst IsRegion (sym e) (parts_valid (word ∷ at ∷ [])); first = first; second = second }

-- the record of words that are its row
pub read_found : (word at : ℕ) (r : Region) → IsRegionRow word at r → r ≡ region_from (word ∷ at ∷ [])
read_found word at r h = sym (region_back r h.valid) ∙ ap region_from (row_of word at r h)

-- two words are the row of one record
pub one_found : (word at : ℕ) (r other : Region) → IsRegionRow word at r → IsRegionRow word at other → r ≡ other
one_found word at r other h k = read_found word at r h ∙ sym (read_found word at other k)

-- words whose parts have another row are no row
pub none_found : (word at : ℕ) (r other : Region) → r ≡ region_parts (word ∷ at ∷ []) → (own_word r ≡ word → at_word r ≡ at → ⊥) → IsRegionRow word at other → ⊥
none_found word at r other e differs h =
    let same : other ≡ r = sym (parts_back other h.valid) ∙ ap region_parts (row_of word at other h) ∙ sym e in
    differs (sym (ap own_word same) ∙ h.first) (sym (ap at_word same) ∙ h.second)

-- Free for words that are no row
pub read_none : (word at : ℕ) (r : Region) → r ≡ region_parts (word ∷ at ∷ []) → (own_word r ≡ word → at_word r ≡ at → ⊥) → region_from (word ∷ at ∷ []) ≡ regions.Free
unfolding region_from
read_none word at r e differs =
    none_where_other region_row (region_parts (word ∷ at ∷ [])) regions.Free (word ∷ at ∷ [])
    (λ row. differs (ap own_word e ∙ ap (λ w. slice_index w 0) row) (ap at_word e ∙ ap (λ w. slice_index w 1) row))
