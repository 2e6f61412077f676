-- The sets that a cache holds.
use Rattle.std.proofs.Common.{◌≡◌, ◌≢◌, ◌⊎◌, inl, inr, ℕ, zero, suc, ◌%◌, ◌<◌, ◌≤◌, List, [], ◌∷◌, length, get_or, refl, sym, ap, subst, ◌∙◌, arith, get_or-set_same, get_or-set_other}
use Rattle.std.specs.Prelude.{slice_set}
use Rattle.std.proofs.lemmas.Bool.{cases_eq, cases_lt}
use Rattle.sv39_pte.specs.declared.pte.Access.{Access}
use Rattle.tlb.specs.declared.entry.Entry.{Entry}
use Rattle.tlb.specs.Cache.{set_room, set_of, page_for, HasOneEach, in_set, filled}
use Rattle.tlb.specs.Sets.{sets_of, joined, by_set, FitsInSets, set_at, set_filled, sets_filled, AreSets}
use Rattle.tlb.proofs.InSets.{in_set-none}
use Rattle.tlb.proofs.Joined.{sets_of-by_set, set_at-sets_of, page_in_sets}
use Rattle.tlb.proofs.Filled.{sets_of-filled, length-set_filled}
use Rattle.tlb.proofs.One.{one_by_set, fills_keep_one_each, none_twice}

-- the four sets after a fill are those of the list after it
pub filled_sets : (sets : List (List Entry)) (e : Entry) → AreSets sets
    → sets_filled sets e ≡ sets_of (filled (joined sets) e)
filled_sets sets e are =
    sym (sets_of-filled (joined sets) e ∙ ap (λ (ss : List (List Entry)). sets_filled ss e) are.own)

pub joined_filled : (sets : List (List Entry)) (e : Entry) → AreSets sets
    → joined (sets_filled sets e) ≡ by_set (filled (joined sets) e)
joined_filled sets e are = ap joined (filled_sets sets e are)

-- ---- they stay sets

four_sets : (sets : List (List Entry)) → AreSets sets → length sets ≡ 4
four_sets sets are = ap length (sym are.own)

at_own : (sets : List (List Entry)) (e : Entry) → AreSets sets → (k : ℕ) → (k ≡ set_of e.vpn) ⊎ (k ≢ set_of e.vpn)
    → length (set_at (sets_filled sets e) k) ≤ set_room
at_own sets e are k (inl is) =
    let i : ℕ = set_of e.vpn in
    let within : set_of e.vpn < length sets = omega (arith, four_sets sets are) in
    let new : List Entry = set_filled (set_at sets i) e in
    let same : set_at (sets_filled sets e) k ≡ set_filled (set_at sets (set_of e.vpn)) e =
    ap (set_at (sets_filled sets e)) is ∙ get_or-set_same sets i new [] within in
    subst (λ (xs : List Entry). length xs ≤ set_room) (sym same) (length-set_filled (set_at sets i) e (are.few i))
at_own sets e are k (inr ne) =
    subst (λ (xs : List Entry). length xs ≤ set_room)
    (sym (get_or-set_other sets (set_of e.vpn) k (set_filled (set_at sets (set_of e.vpn)) e) [] ne)) (are.few k)

pub stay_sets : (sets : List (List Entry)) (e : Entry) → AreSets sets → AreSets (sets_filled sets e)
stay_sets sets e are = record {
  own =
      ap sets_of (joined_filled sets e are)
      ∙ sets_of-by_set (filled (joined sets) e)
      ∙ sym (filled_sets sets e are);
  few = λ k. at_own sets e are k (cases_eq k (set_of e.vpn));
  one = subst HasOneEach (sym (joined_filled sets e are)) (one_by_set (filled (joined sets) e) (fills_keep_one_each (joined sets) e are.one));
}

pub empty_sets : AreSets ([] ∷ [] ∷ [] ∷ [] ∷ [])
empty_sets = record { own = refl; few = λ k. few_in_none k; one = none_twice }
  where
    few_in_none : (k : ℕ) → length (set_at ([] ∷ [] ∷ [] ∷ [] ∷ []) k) ≤ set_room
    few_in_none zero = omega arith
    few_in_none (suc zero) = omega arith
    few_in_none (suc (suc zero)) = omega arith
    few_in_none (suc (suc (suc zero))) = omega arith
    few_in_none (suc (suc (suc (suc k)))) = omega arith

-- ---- room

in_range : (sets : List (List Entry)) → AreSets sets → (k : ℕ) → (k < 4) ⊎ (4 ≤ k)
    → length (in_set k (joined sets)) ≤ set_room
in_range sets are k (inl few) =
    let same : in_set k (joined sets) ≡ set_at sets k =
    sym (set_at-sets_of (joined sets) k few) ∙ ap (λ (ss : List (List Entry)). set_at ss k) are.own in
    subst (λ (xs : List Entry). length xs ≤ set_room) (sym same) (are.few k)
in_range sets are k (inr past) =
    subst (λ (xs : List Entry). length xs ≤ set_room) (sym (in_set-none k (joined sets) past)) (omega arith)

pub fit_in_sets : (sets : List (List Entry)) → AreSets sets → FitsInSets (joined sets)
fit_in_sets sets are k = in_range sets are k (cases_lt k 4)

-- ---- the set that is looked up or filled

at_default : (sets : List (List Entry)) (i : ℕ) (x : List Entry) → i < length sets → get_or sets i x ≡ get_or sets i []
at_default [] i x within = absurd (omega arith)
at_default (s ∷ ss) zero x within = refl
at_default (s ∷ ss) (suc i) x within = at_default ss i x (omega arith)

pub set_index : (sets : List (List Entry)) (x : List Entry) (vpn : ℕ) → AreSets sets
    → get_or sets (vpn % 4) x ≡ set_at sets (set_of vpn)
set_index sets x vpn are =
    at_default sets (vpn % 4) x (let four : length sets ≡ 4 = four_sets sets are in omega arith)

pub fit_now : (sets : List (List Entry)) (es : List Entry) → AreSets sets → joined sets ≡ es → FitsInSets es
fit_now sets es are is = subst FitsInSets is (fit_in_sets sets are)

pub one_now : (sets : List (List Entry)) (es : List Entry) → AreSets sets → joined sets ≡ es → HasOneEach es
one_now sets es are is = subst HasOneEach is are.one

pub page_now : (sets : List (List Entry)) (es x : List Entry) (vpn : ℕ) (access : Access) → AreSets sets
    → joined sets ≡ es → page_for (get_or sets (vpn % 4) x) vpn access ≡ page_for es vpn access
page_now sets es x vpn access are is =
    ap (λ (xs : List Entry). page_for xs vpn access) (set_index sets x vpn are)
    ∙ page_in_sets (joined sets) sets vpn access are.own
    ∙ ap (λ (xs : List Entry). page_for xs vpn access) is

-- ---- after a fill

pub stay_at : (sets : List (List Entry)) (e : Entry) (new : List Entry) → AreSets sets
    → new ≡ set_filled (set_at sets (set_of e.vpn)) e → AreSets (slice_set sets (set_of e.vpn) new)
stay_at sets e new are is =
    subst (λ (xs : List Entry). AreSets (slice_set sets (set_of e.vpn) xs)) (sym is) (stay_sets sets e are)

pub joined_at : (sets : List (List Entry)) (es : List Entry) (e : Entry) (new : List Entry) → AreSets sets
    → joined sets ≡ es → new ≡ set_filled (set_at sets (set_of e.vpn)) e
    → joined (slice_set sets (set_of e.vpn) new) ≡ by_set (filled es e)
joined_at sets es e new are here is =
    ap (λ (xs : List Entry). joined (slice_set sets (set_of e.vpn) xs)) is
    ∙ joined_filled sets e are
    ∙ ap (λ (xs : List Entry). by_set (filled xs e)) here

pub fit_at : (sets : List (List Entry)) (e : Entry) (new : List Entry) → AreSets sets
    → new ≡ set_filled (set_at sets (set_of e.vpn)) e → FitsInSets (joined (slice_set sets (set_of e.vpn) new))
fit_at sets e new are is = fit_in_sets (slice_set sets (set_of e.vpn) new) (stay_at sets e new are is)

pub one_at : (sets : List (List Entry)) (e : Entry) (new : List Entry) → AreSets sets
    → new ≡ set_filled (set_at sets (set_of e.vpn)) e → HasOneEach (joined (slice_set sets (set_of e.vpn) new))
one_at sets e new are is = (stay_at sets e new are is).one

pub new_set : (sets : List (List Entry)) (x new : List Entry) (e : Entry) → AreSets sets
    → new ≡ set_filled (get_or sets (e.vpn % 4) x) e → new ≡ set_filled (set_at sets (set_of e.vpn)) e
new_set sets x new e are is = is ∙ ap (λ (xs : List Entry). set_filled xs e) (set_index sets x e.vpn are)
