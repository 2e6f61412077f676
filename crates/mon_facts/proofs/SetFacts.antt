-- Enclaves' sets of regions after each kind of change.
use Rattle.std.proofs.Common.{◌≡◌, ℕ, zero, suc, ◌<◌, Bool, true, false, cond, List, [], ◌∷◌, length, get_or, slice_set, inl, inr, refl, sym, ap, ◌∙◌, arith, true≢false, length-set}
use Rattle.std.proofs.lemmas.List.{get_or_past, get_or-set_same, get_or-set_other}
use Rattle.std.proofs.lemmas.Bool.{eqb-true}
use Rattle.std.proofs.lemmas.Bool.Decides.{eqb_tells, leb_tells}
use Rattle.mon_types.specs.Enclaves.{empty_enclave}
use Rattle.mon_types.specs.declared.region.Owner.{Owner}
use Rattle.mon_types.specs.declared.region.Owner.TheVariants as owners
use Rattle.mon_types.specs.declared.region.Region.{Region}
use Rattle.mon_types.specs.declared.region.Region.TheVariants as regions
use Rattle.mon_types.specs.declared.enclave.Enclave.{Enclave}
use Rattle.mon_types.specs.Bits.{has_bit, with_bit, without_bit, member, members}
use Rattle.mon_model.specs.EnclaveCalls.{deleted}
use Rattle.mon_model.specs.Deleted.{deleted_in}
use Rattle.mon_facts.specs.Facts.{is_enclave, is_owned_by}
use Rattle.mon_model.proofs.Bits.{none-has, with-same, with-other, without-same, without-other}
use Rattle.mon_model.proofs.Deleting.{deleted_in-append}
use Rattle.mon_facts.proofs.OneChanged.{same-is, other-is, at_set}

-- `SetsAreOwned` of the tables
abbrev pub AreSets : List Enclave → List Region → Type 0
AreSets es rs = (e r : ℕ) → has_bit (get_or es e empty_enclave).regions r ≡ is_owned_by e (get_or rs r regions.Free)

-- another record with the same set
pub sets-enclave : (es : List Enclave) (rs : List Region) (i : ℕ) (x : Enclave) → i < length es → x.regions ≡ (get_or es i empty_enclave).regions → AreSets es rs → AreSets (slice_set es i x) rs
sets-enclave es rs i x lt same h e r =
    at_set (λ (y : Enclave). has_bit y.regions r ≡ is_owned_by e (get_or rs r regions.Free)) es i e x empty_enclave lt (λ is. rw (is, same) (h i r)) (λ apart. h e r)

-- another region with the same owner among the enclaves
pub sets-region : (es : List Enclave) (rs : List Region) (j : ℕ) (x : Region) → j < length rs → ((e : ℕ) → is_owned_by e x ≡ is_owned_by e (get_or rs j regions.Free)) → AreSets es rs → AreSets es (slice_set rs j x)
sets-region es rs j x lt same h e r =
    at_set (λ (y : Region). has_bit (get_or es e empty_enclave).regions r ≡ is_owned_by e y) rs j r x regions.Free lt (λ is. rw is (h e j ∙ sym (same e))) (λ apart. h e r)

-- both: the region's owner changes for one enclave alone, and in its set for this region alone
pub sets-both : (es : List Enclave) (rs : List Region) (i j : ℕ) (y : Enclave) (x : Region) → i < length es → j < length rs
    → ((e : ℕ) → (e ≡ i → ⊥) → is_owned_by e x ≡ is_owned_by e (get_or rs j regions.Free))
    → has_bit y.regions j ≡ is_owned_by i x
    → ((r : ℕ) → (r ≡ j → ⊥) → has_bit y.regions r ≡ has_bit (get_or es i empty_enclave).regions r)
    → AreSets es rs → AreSets (slice_set es i y) (slice_set rs j x)
sets-both es rs i j y x p q others here apart h e r =
    at_set (λ (a : Enclave). has_bit a.regions r ≡ is_owned_by e (get_or (slice_set rs j x) r regions.Free)) es i e y empty_enclave p
    (λ is. at_set (λ (b : Region). has_bit y.regions r ≡ is_owned_by e b) rs j r x regions.Free q (λ js. rw (is, js) here) (λ nj. rw is (apart r nj ∙ h i r)))
    (λ ne. at_set (λ (b : Region). has_bit (get_or es e empty_enclave).regions r ≡ is_owned_by e b) rs j r x regions.Free q (λ js. rw js (h e j ∙ sym (others e ne))) (λ nj. h e r))

-- an enclave gains a region that no enclave has owned
pub sets-gained : (es : List Enclave) (rs : List Region) (i j k : ℕ) (y : Enclave) → i < length es → j < length rs
    → ((e : ℕ) → is_owned_by e (get_or rs j regions.Free) ≡ false) → y.regions ≡ with_bit (get_or es i empty_enclave).regions j
    → AreSets es rs → AreSets (slice_set es i y) (slice_set rs j (regions.Owned (owners.Enclave i) k))
sets-gained es rs i j k y p q none is h =
    sets-both es rs i j y (regions.Owned (owners.Enclave i) k) p q
    (λ e ne. other-is e i ne ∙ sym (none e))
    (rw is (with-same _ j ∙ sym (same-is i)))
    (λ r nj. rw is (with-other _ j r nj)) h

-- an enclave loses a region that it alone has owned
pub sets-lost : (es : List Enclave) (rs : List Region) (i j : ℕ) (y : Enclave) (x : Region) → i < length es → j < length rs
    → ((e : ℕ) → is_owned_by e x ≡ false) → ((e : ℕ) → (e ≡ i → ⊥) → is_owned_by e (get_or rs j regions.Free) ≡ false) → y.regions ≡ without_bit (get_or es i empty_enclave).regions j
    → AreSets es rs → AreSets (slice_set es i y) (slice_set rs j x)
sets-lost es rs i j y x p q none alone is h =
    sets-both es rs i j y x p q
    (λ e ne. none e ∙ sym (alone e ne))
    (rw is (without-same _ j ∙ sym (none i)))
    (λ r nj. rw is (without-other _ j r nj)) h

-- ---- delete

deleted-unowned : (e k : ℕ) (x : Region) → is_owned_by e (deleted x k) ≡ false
deleted-unowned e k regions.Free = refl
deleted-unowned e k (regions.Owned owner since) = refl
deleted-unowned e k (regions.Blocked owner since at) = refl
deleted-unowned e k (regions.Offered to at) = refl

-- one number of the set, if it is there
one-other : (b : Bool) (rs : List Region) (n r k : ℕ) → (b ≡ true → r ≡ n → ⊥) → get_or (deleted_in rs (cond b (n ∷ []) []) k) r regions.Free ≡ get_or rs r regions.Free
one-other true rs n r k apart = get_or-set_other rs n r _ regions.Free (apart refl)
one-other false rs n r k apart = refl

one-same : (b : Bool) (rs : List Region) (n k e : ℕ) → b ≡ true → n < length rs → is_owned_by e (get_or (deleted_in rs (cond b (n ∷ []) []) k) n regions.Free) ≡ false
one-same true rs n k e is lt = ap (is_owned_by e) (get_or-set_same rs n _ regions.Free lt) ∙ deleted-unowned e k _
one-same false rs n k e is lt = absurd (true≢false (sym is))

one-length : (b : Bool) (rs : List Region) (n k : ℕ) → length (deleted_in rs (cond b (n ∷ []) []) k) ≡ length rs
one-length true rs n k = length-set _ _ _
one-length false rs n k = refl

deleted-length : (rs : List Region) (set n k : ℕ) → length (deleted_in rs (members set n) k) ≡ length rs
unfolding members
deleted-length rs set zero k = refl
deleted-length rs set (suc n) k =
    ap length (deleted_in-append rs (members set n) (member set n) k) ∙ one-length (has_bit set n) _ n k ∙ deleted-length rs set n k

-- what is not in the set stays
deleted-other : (rs : List Region) (set n r k : ℕ) → has_bit set r ≡ false → get_or (deleted_in rs (members set n) k) r regions.Free ≡ get_or rs r regions.Free
unfolding members
deleted-other rs set zero r k none = refl
deleted-other rs set (suc n) r k none =
    ap (λ (t : List Region). get_or t r regions.Free) (deleted_in-append rs (members set n) (member set n) k)
    ∙ one-other (has_bit set n) (deleted_in rs (members set n) k) n r k (λ has is. true≢false (sym has ∙ sym (ap (has_bit set) is) ∙ none))
    ∙ deleted-other rs set n r k none

-- what is in it is nobody's
deleted-same : (rs : List Region) (set n r k e : ℕ) → has_bit set r ≡ true → r < n → r < length rs → is_owned_by e (get_or (deleted_in rs (members set n) k) r regions.Free) ≡ false
unfolding members
deleted-same rs set zero r k e has lt long = absurd (omega arith)
deleted-same rs set (suc n) r k e has lt long =
    ap (λ (t : List Region). is_owned_by e (get_or t r regions.Free)) (deleted_in-append rs (members set n) (member set n) k)
    ∙ elim (eqb_tells r n) [
      | inl (t, is) ↦ rw is (one-same (has_bit set n) (deleted_in rs (members set n) k) n k e (sym (ap (has_bit set) is) ∙ has) (omega (arith, deleted-length rs set n k)))
      | inr (f, apart) ↦ ap (is_owned_by e) (one-other (has_bit set n) (deleted_in rs (members set n) k) n r k (λ _ is. apart is)) ∙ deleted-same rs set n r k e has (omega arith) long
    ]

is_enclave-one : (e i : ℕ) (x : Owner) → is_enclave i x ≡ true → (e ≡ i → ⊥) → is_enclave e x ≡ false
is_enclave-one e i owners.Os h ne = refl
is_enclave-one e i (owners.Enclave f) h ne =
    let is : i ≡ f = eqb-true i f h in
    elim (eqb_tells e f) [ inl (t, same) ↦ absurd (ne (same ∙ sym is)) | inr (g, apart) ↦ g ]

-- no two enclaves own a region
pub owned-one : (e i : ℕ) (x : Region) → is_owned_by i x ≡ true → (e ≡ i → ⊥) → is_owned_by e x ≡ false
owned-one e i regions.Free h ne = refl
owned-one e i (regions.Owned owner since) h ne = is_enclave-one e i owner h ne
owned-one e i (regions.Blocked owner since at) h ne = refl
owned-one e i (regions.Offered to at) h ne = refl

-- a region that is owned stands in the table
stands : (rs : List Region) (i r : ℕ) → is_owned_by i (get_or rs r regions.Free) ≡ true → r < length rs
stands rs i r h =
    elim (leb_tells (length rs) r) [
      | inl (t, past) ↦ absurd (true≢false (sym h ∙ ap (is_owned_by i) (get_or_past rs r regions.Free past)))
      | inr (f, lt) ↦ lt
    ]

deleted-owner : (es : List Enclave) (rs : List Region) (i n k r : ℕ) (b : Bool) → has_bit (get_or es i empty_enclave).regions r ≡ b → length rs ≡ n → AreSets es rs
    → is_owned_by i (get_or (deleted_in rs (members (get_or es i empty_enclave).regions n) k) r regions.Free) ≡ false
deleted-owner es rs i n k r true has long h =
    let in_table = stands rs i r (sym (h i r) ∙ has) in
    deleted-same rs (get_or es i empty_enclave).regions n r k i has (omega arith) in_table
deleted-owner es rs i n k r false has long h = ap (is_owned_by i) (deleted-other rs (get_or es i empty_enclave).regions n r k has) ∙ sym (h i r) ∙ has

deleted-others : (es : List Enclave) (rs : List Region) (i n k e r : ℕ) (b : Bool) → has_bit (get_or es i empty_enclave).regions r ≡ b → length rs ≡ n → (e ≡ i → ⊥) → AreSets es rs
    → is_owned_by e (get_or (deleted_in rs (members (get_or es i empty_enclave).regions n) k) r regions.Free) ≡ is_owned_by e (get_or rs r regions.Free)
deleted-others es rs i n k e r true has long ne h =
    let owned = sym (h i r) ∙ has in
    let in_table = stands rs i r owned in
    deleted-same rs (get_or es i empty_enclave).regions n r k e has (omega arith) in_table ∙ sym (owned-one e i _ owned ne)
deleted-others es rs i n k e r false has long ne h = ap (is_owned_by e) (deleted-other rs (get_or es i empty_enclave).regions n r k has)

-- a slot is emptied, and each region of its set is nobody's
pub sets-deleted : (es : List Enclave) (rs : List Region) (i n k : ℕ) → i < length es → length rs ≡ n
    → AreSets es rs → AreSets (slice_set es i empty_enclave) (deleted_in rs (members (get_or es i empty_enclave).regions n) k)
sets-deleted es rs i n k lt long h e r =
    at_set (λ (a : Enclave). has_bit a.regions r ≡ is_owned_by e (get_or (deleted_in rs (members (get_or es i empty_enclave).regions n) k) r regions.Free)) es i e empty_enclave empty_enclave lt
    (λ is. none-has r ∙ sym (rw is (deleted-owner es rs i n k r _ refl long h)))
    (λ ne. h e r ∙ sym (deleted-others es rs i n k e r _ refl long ne h))
