-- What sets hold: whether an access is a hit, and what they hold after it.
use Rattle.std.proofs.Common.{◌≡◌, ℕ, ◌-◌, ◌/◌, ◌<◌, ◌≤◌, Bool, true, false, cond, List, [], ◌∷◌, ◌++◌, length, take, map, Option, Some, None, refl, sym, ap, subst, ◌∙◌, arith, inl, inr}
use Rattle.std.specs.Prelude.{filter, ◌==◌, nat_lt, reverse}
use Rattle.std.specs.Option.{option_map, option_map_or}
use Rattle.std.proofs.Math.ListN.{set}
use Rattle.std.proofs.lemmas.Bool.{cases_Bool, cases_eq, eqb-true, eq-eqb, ne_eqb}
use Rattle.std.proofs.lemmas.List.{map-append, reverse-append, length-take, get_or-set_same, get_or-set_other}
use Rattle.std.proofs.lemmas.List.Elements.{filter-append}
use Rattle.mon_types.specs.Shape.{Shape, region_of_page}
use Rattle.mon_types.specs.Sizes.{page_bytes}
use Rattle.dram_map.specs.Addresses.{dram_start}
use Rattle.llc.specs.Colours.{tag_of, region_of, set_of, set_count}
use Rattle.llc.specs.Hits.{different, tags_in, tag_count, since, is_hit}
use Rattle.llc.specs.Sets.{Cache, StandsFor, tags_at, held, has_tag, touched}
use Rattle.llc.proofs.Different.{neither, not_either, none_different, none_taken, StandsBehind, different_front, among_first, touched_different}

-- ---- tags and sets

same_page : (a b : ℕ) → tag_of a ≡ tag_of b → (a - dram_start) / page_bytes ≡ (b - dram_start) / page_bytes
same_page a b h = omega arith

-- addresses of one line are of one region
pub same_region : (shape : Shape) (a b : ℕ) → tag_of a ≡ tag_of b → region_of shape a ≡ region_of shape b
same_region shape a b h = ap (region_of_page shape) (same_page a b h)

-- and of one set
pub same_set : (shape : Shape) (a b : ℕ) → tag_of a ≡ tag_of b → set_of shape a ≡ set_of shape b
same_set shape a b h = omega (arith, same_region shape a b h)

-- a set is of one region
pub set_region : (shape : Shape) (a b : ℕ) → set_of shape a ≡ set_of shape b → region_of shape a ≡ region_of shape b
set_region shape a b h = omega arith

-- ---- looking back

-- the tags in a set of two lists, one behind the other
pub tags_in-append : (shape : Shape) (s : ℕ) (xs ys : List ℕ) → tags_in shape s (xs ++ ys) ≡ tags_in shape s xs ++ tags_in shape s ys
tags_in-append shape s xs ys =
    ap (map tag_of) (filter-append (λ a. set_of shape a == s) xs ys)
    ∙ map-append tag_of (filter (λ a. set_of shape a == s) xs) (filter (λ a. set_of shape a == s) ys)

-- the accesses are some without the tag, then one with it, and then the older ones
pub record FoundBehind (tag : ℕ) (between xs : List ℕ) : Type 0 where
  pub last : ℕ
  pub older : List ℕ
  pub all_are : xs ≡ between ++ last ∷ older
  pub same : tag_of last ≡ tag
  pub none : has_tag tag (map tag_of between) ≡ false

-- what looking back over these accesses finds
abbrev pub Finds : ℕ → List ℕ → Option (List ℕ) → Type 0
Finds tag xs None = has_tag tag (map tag_of xs) ≡ false
Finds tag xs (Some between) = FoundBehind tag between xs

finds_further : (tag a : ℕ) (xs : List ℕ) → (tag_of a == tag) ≡ false → (found : Option (List ℕ)) → Finds tag xs found
    → Finds tag (a ∷ xs) (option_map (λ between. a ∷ between) found)
finds_further tag a xs f None h = not_either (tag_of a == tag) (has_tag tag (map tag_of xs)) f h
finds_further tag a xs f (Some between) h =
    record {
      last = h.last;
      older = h.older;
      all_are = ap (λ (x : List ℕ). a ∷ x) h.all_are;
      same = h.same;
      none = not_either (tag_of a == tag) (has_tag tag (map tag_of between)) f h.none;
    }

pub finds : (tag : ℕ) (xs : List ℕ) → Finds tag xs (since tag xs)
finds tag [] = refl
finds tag (a ∷ xs) =
    elim (cases_Bool (tag_of a == tag)) [
      | inl e ↦ rw e (record { last = a; older = xs; all_are = refl; same = eqb-true (tag_of a) tag e; none = refl })
      | inr f ↦ rw f (finds_further tag a xs f (since tag xs) (finds tag xs))
    ]

none_in_set : (shape : Shape) (s tag : ℕ) (xs : List ℕ) → has_tag tag (map tag_of xs) ≡ false → has_tag tag (tags_in shape s xs) ≡ false
none_in_set shape s tag [] h = refl
none_in_set shape s tag (a ∷ xs) h =
    let parts = neither (tag_of a == tag) (has_tag tag (map tag_of xs)) h in
    let rest = none_in_set shape s tag xs parts.1 in
    elim (set_of shape a == s) as (λ b. has_tag tag (map tag_of (cond b (a ∷ filter (λ x. set_of shape x == s) xs) (filter (λ x. set_of shape x == s) xs))) ≡ false) [
      | true ↦ not_either (tag_of a == tag) (has_tag tag (tags_in shape s xs)) parts.0 rest
      | false ↦ rest
    ]

-- the tags in its own set, with an access in front, and in another
pub own_tags : (shape : Shape) (s a : ℕ) (xs : List ℕ) → set_of shape a ≡ s → tags_in shape s (a ∷ xs) ≡ tag_of a ∷ tags_in shape s xs
own_tags shape s a xs h = rw (eq-eqb (set_of shape a) s h) refl

pub other_tags : (shape : Shape) (s a : ℕ) (xs : List ℕ) → (set_of shape a ≡ s → ⊥) → tags_in shape s (a ∷ xs) ≡ tags_in shape s xs
other_tags shape s a xs h = rw (ne_eqb (set_of shape a) s h) refl

-- ---- one access

-- whether a hit is found, looking back over these accesses, the latest first
abbrev pub hit_found : Shape → ℕ → ℕ → Option (List ℕ) → Bool
hit_found shape ways s found = option_map_or (λ between. nat_lt (tag_count shape s between) ways) found false

holds_found : (shape : Shape) (ways address : ℕ) (xs : List ℕ) (found : Option (List ℕ)) → Finds (tag_of address) xs found
    → has_tag (tag_of address) (take ways (different (tags_in shape (set_of shape address) xs))) ≡ hit_found shape ways (set_of shape address) found
holds_found shape ways address xs None h =
    let tag = tag_of address in
    let ts = tags_in shape (set_of shape address) xs in
    none_taken tag ways (different ts) (none_different tag ts (none_in_set shape (set_of shape address) tag xs h))
holds_found shape ways address xs (Some between) h =
    let tag = tag_of address in
    let s = set_of shape address in
    let front = tags_in shape s between in
    let older = tags_in shape s h.older in
    let none : has_tag tag front ≡ false = none_in_set shape s tag between h.none in
    let tags : tags_in shape s xs ≡ front ++ tag ∷ older =
    ap (tags_in shape s) h.all_are
    ∙ tags_in-append shape s between (h.last ∷ h.older)
    ∙ ap (λ (x : List ℕ). front ++ x) (own_tags shape s h.last h.older (same_set shape h.last address h.same) ∙ ap (λ (x : ℕ). x ∷ older) h.same) in
    let behind : StandsBehind (different front) tag (different (front ++ tag ∷ older)) = different_front front tag older none in
    ap (λ (x : List ℕ). has_tag tag (take ways x)) (ap different tags ∙ behind.all_are)
    ∙ among_first tag ways (different front) behind.rest (none_different tag front none)

-- a set that holds what it holds after some accesses holds the tag of an address exactly where it is a hit
pub hit_is : (cache : Cache) (accesses : List ℕ) (address : ℕ) → set_of cache.shape address < set_count cache.shape → StandsFor cache accesses
    → has_tag (tag_of address) (tags_at cache.sets (set_of cache.shape address)) ≡ is_hit cache.shape cache.ways accesses address
hit_is cache accesses address lt stands =
    ap (has_tag (tag_of address)) (stands.holds (set_of cache.shape address) lt)
    ∙ holds_found cache.shape cache.ways address (reverse accesses) (since (tag_of address) (reverse accesses)) (finds (tag_of address) (reverse accesses))

-- no set holds more lines than there are ways
pub held_fits : (cache : Cache) (accesses : List ℕ) (s : ℕ) → s < set_count cache.shape → StandsFor cache accesses → length (tags_at cache.sets s) ≤ cache.ways
held_fits cache accesses s lt stands =
    let ts = different (tags_in cache.shape s (reverse accesses)) in
    let is : length (tags_at cache.sets s) ≡ length (take cache.ways ts) = ap length (stands.holds s lt) in
    omega (arith, is, length-take cache.ways ts)

-- the sets after an access
abbrev pub sets_after : Cache → ℕ → List (List ℕ)
sets_after cache address =
    set cache.sets (set_of cache.shape address)
    (touched cache.ways (tag_of address) (tags_at cache.sets (set_of cache.shape address)))

reversed_push : (accesses : List ℕ) (address : ℕ) → reverse (accesses ++ address ∷ []) ≡ address ∷ reverse accesses
reversed_push accesses address = reverse-append accesses (address ∷ [])

held_after : (shape : Shape) (ways : ℕ) (accesses : List ℕ) (address : ℕ)
    → touched ways (tag_of address) (held shape ways accesses (set_of shape address)) ≡ held shape ways (accesses ++ address ∷ []) (set_of shape address)
held_after shape ways accesses address =
    let s = set_of shape address in
    touched_different ways (tag_of address) (tags_in shape s (reverse accesses))
    ∙ ap (λ (x : List ℕ). take ways (different x)) (sym (own_tags shape s address (reverse accesses) refl))
    ∙ ap (λ (x : List ℕ). take ways (different (tags_in shape s x))) (sym (reversed_push accesses address))

held_elsewhere : (shape : Shape) (ways : ℕ) (accesses : List ℕ) (address s : ℕ) → (set_of shape address ≡ s → ⊥)
    → held shape ways accesses s ≡ held shape ways (accesses ++ address ∷ []) s
held_elsewhere shape ways accesses address s other =
    ap (λ (x : List ℕ). take ways (different x)) (sym (other_tags shape s address (reverse accesses) other))
    ∙ ap (λ (x : List ℕ). take ways (different (tags_in shape s x))) (sym (reversed_push accesses address))

-- what a set holds, where the set of an access held what it holds after some accesses
held_at : (cache : Cache) (accesses : List ℕ) (address s : ℕ) → length cache.sets ≡ set_count cache.shape → s < set_count cache.shape → StandsFor cache accesses
    → tags_at (sets_after cache address) s ≡ held cache.shape cache.ways (accesses ++ address ∷ []) s
held_at cache accesses address s count within stands =
    let own = set_of cache.shape address in
    let new = touched cache.ways (tag_of address) (tags_at cache.sets own) in
    elim (cases_eq own s) [
      | inl e ↦
          let lt : own < length cache.sets = omega arith in
          let there : own < set_count cache.shape = omega arith in
          subst (λ (x : ℕ). tags_at (sets_after cache address) x ≡ held cache.shape cache.ways (accesses ++ address ∷ []) x) e
          (get_or-set_same cache.sets own new [] lt
          ∙ ap (touched cache.ways (tag_of address)) (stands.holds own there)
          ∙ held_after cache.shape cache.ways accesses address)
      | inr other ↦
          get_or-set_other cache.sets own s new [] (λ e. other (sym e))
          ∙ stands.holds s within
          ∙ held_elsewhere cache.shape cache.ways accesses address s other
    ]

-- after an access a cache stands for that one too
pub stands_after : (cache : Cache) (accesses : List ℕ) (address : ℕ) → length cache.sets ≡ set_count cache.shape
    → StandsFor cache accesses → StandsFor (record { shape = cache.shape; ways = cache.ways; sets = sets_after cache address }) (accesses ++ address ∷ [])
stands_after cache accesses address count stands =
    record { holds = λ s within. held_at cache accesses address s count within stands }
