-- One access: what is answered, and for which accesses the cache stands then.
use Rattle.std.proofs.Common.{◌≡◌, ℕ, zero, suc, ◌<◌, ◌≤◌, Bool, List, [], ◌∷◌, ◌++◌, length, refl, sym, ap, subst, ◌∙◌}
use Rattle.std.proofs.Math.ListN.{set}
use Rattle.llc.specs.Colours.{tag_of, set_of, set_count}
use Rattle.llc.specs.Hits.{is_hit}
use Rattle.llc.specs.Sets.{Cache, StandsFor, has_tag, tags_at, touched}
use Rattle.llc.proofs.Held.{sets_after, hit_is, held_fits, stands_after}

-- the sets of a cache are these, and this is the set of an address
pub record IsIn (cache : Cache) (address : ℕ) (sets : List (List ℕ)) (own : ℕ) : Type 0 where
  pub sets_are : sets ≡ cache.sets
  pub count : length cache.sets ≡ set_count cache.shape
  pub own_is : own ≡ set_of cache.shape address
  pub within : own < set_count cache.shape

-- an access to the tag in that set left these sets, where the set was no longer than it may be
abbrev pub Touches : Cache → ℕ → List (List ℕ) → ℕ → List (List ℕ) → Type 0
Touches cache address sets own after =
    length (tags_at sets own) ≤ cache.ways → after ≡ set sets own (touched cache.ways (tag_of address) (tags_at sets own))

pub answer_is : (cache : Cache) (accesses : List ℕ) (address : ℕ) (sets : List (List ℕ)) (own : ℕ) (hit : Bool) → IsIn cache address sets own
    → hit ≡ has_tag (tag_of address) (tags_at sets own) → StandsFor cache accesses → hit ≡ is_hit cache.shape cache.ways accesses address
answer_is cache accesses address sets own hit there is stands =
    is
    ∙ ap (λ (x : List (List ℕ)). has_tag (tag_of address) (tags_at x own)) there.sets_are
    ∙ ap (λ (x : ℕ). has_tag (tag_of address) (tags_at cache.sets x)) there.own_is
    ∙ hit_is cache accesses address (subst (λ (x : ℕ). x < set_count cache.shape) there.own_is there.within) stands

pub stands_is : (cache : Cache) (accesses : List ℕ) (address : ℕ) (sets : List (List ℕ)) (own : ℕ) (after : List (List ℕ)) → IsIn cache address sets own
    → Touches cache address sets own after → StandsFor cache accesses
    → StandsFor (record { shape = cache.shape; ways = cache.ways; sets = after }) (accesses ++ address ∷ [])
stands_is cache accesses address sets own after there touches stands =
    let fits : length (tags_at sets own) ≤ cache.ways =
    subst (λ (x : List (List ℕ)). length (tags_at x own) ≤ cache.ways) (sym there.sets_are) (held_fits cache accesses own there.within stands) in
    let same : after ≡ sets_after cache address =
    touches fits
    ∙ ap (λ (x : List (List ℕ)). set x own (touched cache.ways (tag_of address) (tags_at x own))) there.sets_are
    ∙ ap (λ (x : ℕ). set cache.sets x (touched cache.ways (tag_of address) (tags_at cache.sets x))) there.own_is in
    subst (λ (x : List (List ℕ)). StandsFor (record { shape = cache.shape; ways = cache.ways; sets = x }) (accesses ++ address ∷ [])) (sym same)
    (stands_after cache accesses address there.count stands)

-- one empty set more
pub empty_more : (sets : List (List ℕ)) → ((s : ℕ) → tags_at sets s ≡ []) → (s : ℕ) → tags_at (sets ++ [] ∷ []) s ≡ []
empty_more [] none zero = refl
empty_more [] none (suc s) = refl
empty_more (x ∷ xs) none zero = none 0
empty_more (x ∷ xs) none (suc s) = empty_more xs (λ k. none (suc k)) s
