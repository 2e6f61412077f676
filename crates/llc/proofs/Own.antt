-- The hits of a region are those of its accesses alone.
use Rattle.std.proofs.Common.{◌≡◌, ℕ, Bool, true, false, cond, List, [], ◌∷◌, ◌++◌, length, map, Option, Some, None, refl, sym, ap, subst, ◌∙◌, inl, inr}
use Rattle.std.specs.Prelude.{filter, ◌==◌, nat_lt, reverse}
use Rattle.std.specs.Option.{option_map}
use Rattle.std.proofs.lemmas.Bool.{both_ways, cases_Bool, eqb-true, eq-eqb}
use Rattle.std.proofs.lemmas.List.{append-nil, reverse-append}
use Rattle.std.proofs.lemmas.List.Elements.{filter-append}
use Rattle.mon_types.specs.Shape.{Shape}
use Rattle.llc.specs.Colours.{tag_of, region_of, set_of}
use Rattle.llc.specs.Hits.{different, since, is_hit, hits_behind, hits_of}
use Rattle.llc.specs.Regions.{accesses_of, answers_of, OwnHits, SameHits}
use Rattle.llc.proofs.Held.{same_region, set_region, hit_found}

-- ---- accesses that are left out

pub kept : (p : ℕ → Bool) (x : ℕ) (xs : List ℕ) → p x ≡ true → filter p (x ∷ xs) ≡ x ∷ filter p xs
kept p x xs e = rw e refl

pub dropped : (p : ℕ → Bool) (x : ℕ) (xs : List ℕ) → p x ≡ false → filter p (x ∷ xs) ≡ filter p xs
dropped p x xs f = rw f refl

pub reverse-cons : (x : ℕ) (xs : List ℕ) → reverse (x ∷ xs) ≡ reverse xs ++ x ∷ []
reverse-cons x xs = reverse-append (x ∷ []) xs

pub reverse-filter : (p : ℕ → Bool) (xs : List ℕ) → reverse (filter p xs) ≡ filter p (reverse xs)
reverse-filter p [] = refl
reverse-filter p (x ∷ xs) =
    let inner : reverse (filter p xs) ≡ filter p (reverse xs) = reverse-filter p xs in
    let whole : filter p (reverse (x ∷ xs)) ≡ filter p (reverse xs) ++ filter p (x ∷ []) = ap (filter p) (reverse-cons x xs) ∙ filter-append p (reverse xs) (x ∷ []) in
    elim (cases_Bool (p x)) [
      | inl e ↦
          ap reverse (kept p x xs e)
          ∙ reverse-cons x (filter p xs)
          ∙ ap (λ (r : List ℕ). r ++ x ∷ []) inner
          ∙ sym (whole ∙ ap (λ (r : List ℕ). filter p (reverse xs) ++ r) (kept p x [] e))
      | inr f ↦
          ap reverse (dropped p x xs f)
          ∙ inner
          ∙ sym (whole ∙ ap (λ (r : List ℕ). filter p (reverse xs) ++ r) (dropped p x [] f) ∙ append-nil (filter p (reverse xs)))
    ]

-- ---- looking back over what is left

further_kept : (p : ℕ → Bool) (a : ℕ) (found : Option (List ℕ)) → p a ≡ true
    → option_map (λ b. a ∷ b) (option_map (filter p) found) ≡ option_map (filter p) (option_map (λ b. a ∷ b) found)
further_kept p a None e = refl
further_kept p a (Some b) e = ap Some (sym (kept p a b e))

further_dropped : (p : ℕ → Bool) (a : ℕ) (found : Option (List ℕ)) → p a ≡ false
    → option_map (filter p) found ≡ option_map (filter p) (option_map (λ b. a ∷ b) found)
further_dropped p a None f = refl
further_dropped p a (Some b) f = ap Some (sym (dropped p a b f))

since_here : (tag a : ℕ) (xs : List ℕ) → (tag_of a == tag) ≡ true → since tag (a ∷ xs) ≡ Some []
since_here tag a xs e = rw e refl

since_further : (tag a : ℕ) (xs : List ℕ) → (tag_of a == tag) ≡ false → since tag (a ∷ xs) ≡ option_map (λ b. a ∷ b) (since tag xs)
since_further tag a xs f = rw f refl

-- where the accesses with the tag are left, one finds what is left of what one found
since_left : (p : ℕ → Bool) (tag : ℕ) → ((a : ℕ) → tag_of a ≡ tag → p a ≡ true) → (xs : List ℕ)
    → since tag (filter p xs) ≡ option_map (filter p) (since tag xs)
since_left p tag stays [] = refl
since_left p tag stays (a ∷ xs) =
    let inner : since tag (filter p xs) ≡ option_map (filter p) (since tag xs) = since_left p tag stays xs in
    elim (cases_Bool (tag_of a == tag)) [
      | inl here ↦
          ap (since tag) (kept p a xs (stays a (eqb-true (tag_of a) tag here)))
          ∙ since_here tag a (filter p xs) here
          ∙ sym (ap (option_map (filter p)) (since_here tag a xs here))
      | inr further ↦
          elim (cases_Bool (p a)) [
            | inl e ↦
                ap (since tag) (kept p a xs e)
                ∙ since_further tag a (filter p xs) further
                ∙ ap (option_map (λ b. a ∷ b)) inner
                ∙ further_kept p a (since tag xs) e
                ∙ sym (ap (option_map (filter p)) (since_further tag a xs further))
            | inr f ↦
                ap (since tag) (dropped p a xs f)
                ∙ inner
                ∙ further_dropped p a (since tag xs) f
                ∙ sym (ap (option_map (filter p)) (since_further tag a xs further))
          ]
    ]

-- two tests in turn, the second of which passes nothing that the first does not
pub filter-filter : (p q : ℕ → Bool) → ((a : ℕ) → q a ≡ true → p a ≡ true) → (xs : List ℕ) → filter q (filter p xs) ≡ filter q xs
filter-filter p q implies [] = refl
filter-filter p q implies (a ∷ xs) =
    let inner : filter q (filter p xs) ≡ filter q xs = filter-filter p q implies xs in
    elim (cases_Bool (p a)) [
      | inl e ↦ ap (filter q) (kept p a xs e) ∙ elim (q a) as (λ b. cond b (a ∷ filter q (filter p xs)) (filter q (filter p xs)) ≡ cond b (a ∷ filter q xs) (filter q xs)) [
        | true ↦ ap (λ (x : List ℕ). a ∷ x) inner
        | false ↦ inner
      ]
      | inr f ↦
          ap (filter q) (dropped p a xs f)
          ∙ inner
          ∙ elim (cases_Bool (q a)) [ inl e ↦ absurd (both_ways (p a) f (implies a e)) | inr g ↦ sym (dropped q a xs g) ]
    ]

-- ---- a hit

-- what is of the region of an address
abbrev is_own : Shape → ℕ → ℕ → Bool
is_own shape region a = region_of shape a == region

own_found : (shape : Shape) (ways address : ℕ) (found : Option (List ℕ))
    → hit_found shape ways (set_of shape address) (option_map (filter (is_own shape (region_of shape address))) found)
    ≡ hit_found shape ways (set_of shape address) found
own_found shape ways address None = refl
own_found shape ways address (Some between) =
    let own = is_own shape (region_of shape address) in
    let in_set = λ (a : ℕ). set_of shape a == set_of shape address in
    let implies : (a : ℕ) → in_set a ≡ true → own a ≡ true =
    λ a e. eq-eqb (region_of shape a) (region_of shape address) (set_region shape a address (eqb-true (set_of shape a) (set_of shape address) e)) in
    ap (λ (x : List ℕ). nat_lt (length (different (map tag_of x))) ways) (filter-filter own in_set implies between)

-- an access is a hit exactly where it is one behind the accesses of its region
pub own_hit : (shape : Shape) (ways address : ℕ) (accesses : List ℕ)
    → is_hit shape ways (accesses_of shape (region_of shape address) accesses) address ≡ is_hit shape ways accesses address
own_hit shape ways address accesses =
    let own = is_own shape (region_of shape address) in
    let look = hit_found shape ways (set_of shape address) in
    let stays : (a : ℕ) → tag_of a ≡ tag_of address → own a ≡ true =
    λ a e. eq-eqb (region_of shape a) (region_of shape address) (same_region shape a address e) in
    ap (λ (x : List ℕ). look (since (tag_of address) x)) (reverse-filter own accesses)
    ∙ ap look (since_left own (tag_of address) stays (reverse accesses))
    ∙ own_found shape ways address (since (tag_of address) (reverse accesses))

-- ---- all hits

answers_kept : (shape : Shape) (region a : ℕ) (xs : List ℕ) (b : Bool) (bs : List Bool) → is_own shape region a ≡ true
    → answers_of shape region (a ∷ xs) (b ∷ bs) ≡ b ∷ answers_of shape region xs bs
answers_kept shape region a xs b bs e = rw e refl

answers_dropped : (shape : Shape) (region a : ℕ) (xs : List ℕ) (b : Bool) (bs : List Bool) → is_own shape region a ≡ false
    → answers_of shape region (a ∷ xs) (b ∷ bs) ≡ answers_of shape region xs bs
answers_dropped shape region a xs b bs f = rw f refl

pub own_hits : (shape : Shape) (ways region : ℕ) (earlier xs : List ℕ)
    → answers_of shape region xs (hits_behind shape ways earlier xs)
    ≡ hits_behind shape ways (accesses_of shape region earlier) (accesses_of shape region xs)
own_hits shape ways region earlier [] = refl
own_hits shape ways region earlier (a ∷ xs) =
    let own = is_own shape region in
    let later = hits_behind shape ways (earlier ++ a ∷ []) xs in
    let inner : answers_of shape region xs later ≡ hits_behind shape ways (filter own (earlier ++ a ∷ [])) (filter own xs) = own_hits shape ways region (earlier ++ a ∷ []) xs in
    let longer : filter own (earlier ++ a ∷ []) ≡ filter own earlier ++ filter own (a ∷ []) = filter-append own earlier (a ∷ []) in
    elim (cases_Bool (own a)) [
      | inl e ↦
          let here : is_hit shape ways earlier a ≡ is_hit shape ways (filter own earlier) a =
          sym (subst (λ (r : ℕ). is_hit shape ways (accesses_of shape r earlier) a ≡ is_hit shape ways earlier a) (eqb-true (region_of shape a) region e) (own_hit shape ways a earlier)) in
          let behind : filter own (earlier ++ a ∷ []) ≡ filter own earlier ++ a ∷ [] = longer ∙ ap (λ (x : List ℕ). filter own earlier ++ x) (kept own a [] e) in
          answers_kept shape region a xs (is_hit shape ways earlier a) later e
          ∙ ap (λ (x : List Bool). is_hit shape ways earlier a ∷ x) inner
          ∙ ap (λ (x : Bool). x ∷ hits_behind shape ways (filter own (earlier ++ a ∷ [])) (filter own xs)) here
          ∙ ap (λ (x : List ℕ). is_hit shape ways (filter own earlier) a ∷ hits_behind shape ways x (filter own xs)) behind
          ∙ sym (ap (hits_behind shape ways (filter own earlier)) (kept own a xs e))
      | inr f ↦
          let behind : filter own (earlier ++ a ∷ []) ≡ filter own earlier = longer ∙ ap (λ (x : List ℕ). filter own earlier ++ x) (dropped own a [] f) ∙ append-nil (filter own earlier) in
          answers_dropped shape region a xs (is_hit shape ways earlier a) later f
          ∙ inner
          ∙ ap (λ (x : List ℕ). hits_behind shape ways x (filter own xs)) behind
          ∙ sym (ap (hits_behind shape ways (filter own earlier)) (dropped own a xs f))
    ]

pub own_hits_hold : OwnHits
own_hits_hold shape ways region accesses = own_hits shape ways region [] accesses

pub same_hits_hold : SameHits
same_hits_hold shape ways region accesses others same =
    own_hits_hold shape ways region accesses
    ∙ ap (hits_of shape ways) same
    ∙ sym (own_hits_hold shape ways region others)
