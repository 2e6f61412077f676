-- The sets after a fill.
use Rattle.std.proofs.Common.{◌≡◌, ◌≢◌, ◌⊎◌, inl, inr, ℕ, zero, suc, ◌<◌, ◌≤◌, Bool, true, false, cond, nat_eq, List, [], ◌∷◌, ◌++◌, length, drop, refl, sym, ap, subst, ◌∙◌, arith, length-append, length-drop}
use Rattle.std.specs.Prelude.{nat_lt, slice_set}
use Rattle.std.proofs.lemmas.Bool.Decides.{nat_tests}
use Rattle.std.proofs.lemmas.Bool.{cases_eq}
use Rattle.tlb.specs.declared.entry.Entry.{Entry}
use Rattle.tlb.specs.Cache.{set_room, set_of, of_others, in_set, without_oldest, filled}
use Rattle.tlb.specs.Sets.{sets_of, joined, by_set, FitsInSets, set_with_room, set_filled, sets_filled}
use Rattle.tlb.specs.Laws.{FillsBySet, filled_in_turn, filled_by_set, RunsBySet, FillsFitInSets}
use Rattle.tlb.proofs.InSets.{in_set-append, in_set-of_others, of_others-other, without_oldest-own, without_oldest-other, one-own, one-other}
use Rattle.tlb.proofs.Joined.{lists, sets_of-by_set, set_at-sets_of}

-- ---- the set of the entry, and the others

room-own : (k : ℕ) (es : List Entry) (b : Bool)
    → in_set k (cond b es (without_oldest k es)) ≡ cond b (in_set k es) (drop 1 (in_set k es))
room-own k es true = refl
room-own k es false = without_oldest-own k es

room-other : (j k : ℕ) (es : List Entry) (b : Bool) → j ≢ k
    → in_set j (cond b es (without_oldest k es)) ≡ in_set j es
room-other j k es true ne = refl
room-other j k es false ne = without_oldest-other j k es ne

append_nil : (xs : List Entry) → xs ++ [] ≡ xs
append_nil [] = refl
append_nil (x ∷ xs) = ap (λ (ys : List Entry). x ∷ ys) (append_nil xs)

own_set : (es : List Entry) (e : Entry) → in_set (set_of e.vpn) (filled es e) ≡ set_filled (in_set (set_of e.vpn) es) e
own_set es e =
    let k : ℕ = set_of e.vpn in
    let xs : List Entry = of_others e.vpn es in
    let b : Bool = nat_lt (length (in_set (set_of e.vpn) (of_others e.vpn es))) set_room in
    in_set-append k (cond b xs (without_oldest k xs)) (e ∷ [])
    ∙ ap (λ (ys : List Entry). in_set (set_of e.vpn) (cond (nat_lt (length (in_set (set_of e.vpn) (of_others e.vpn es))) set_room) (of_others e.vpn es) (without_oldest (set_of e.vpn) (of_others e.vpn es))) ++ ys) (one-own k e refl)
    ∙ ap (λ (ys : List Entry). ys ++ e ∷ []) (room-own k xs b)
    ∙ ap (λ (ys : List Entry). set_with_room ys ++ e ∷ []) (in_set-of_others k e.vpn es)

pub own_filled : (es : List Entry) (e : Entry) (k : ℕ) → set_of e.vpn ≡ k → in_set k (filled es e) ≡ set_filled (in_set k es) e
own_filled es e k is = subst (λ (j : ℕ). in_set j (filled es e) ≡ set_filled (in_set j es) e) is (own_set es e)

pub other_filled : (j : ℕ) (es : List Entry) (e : Entry) → j ≢ set_of e.vpn → in_set j (filled es e) ≡ in_set j es
other_filled j es e ne =
    let k : ℕ = set_of e.vpn in
    let xs : List Entry = of_others e.vpn es in
    let b : Bool = nat_lt (length (in_set (set_of e.vpn) (of_others e.vpn es))) set_room in
    in_set-append j (cond b xs (without_oldest k xs)) (e ∷ [])
    ∙ ap (λ (ys : List Entry). in_set j (cond (nat_lt (length (in_set (set_of e.vpn) (of_others e.vpn es))) set_room) (of_others e.vpn es) (without_oldest (set_of e.vpn) (of_others e.vpn es))) ++ ys) (one-other j e ne)
    ∙ append_nil (in_set j (cond b xs (without_oldest k xs)))
    ∙ room-other j k xs b ne
    ∙ in_set-of_others j e.vpn es
    ∙ of_others-other j e.vpn es (λ same. ne (sym same))

-- ---- all four

at_set : (es : List Entry) (e : Entry) (k : ℕ) → set_of e.vpn ≡ k → k < 4
    → sets_of (filled es e) ≡ slice_set (sets_of es) k (set_filled (in_set k es) e)
at_set es e zero is few =
    lists (own_filled es e 0 is) (other_filled 1 es e (omega arith)) (other_filled 2 es e (omega arith)) (other_filled 3 es e (omega arith))
at_set es e (suc zero) is few =
    lists (other_filled 0 es e (omega arith)) (own_filled es e 1 is) (other_filled 2 es e (omega arith)) (other_filled 3 es e (omega arith))
at_set es e (suc (suc zero)) is few =
    lists (other_filled 0 es e (omega arith)) (other_filled 1 es e (omega arith)) (own_filled es e 2 is) (other_filled 3 es e (omega arith))
at_set es e (suc (suc (suc zero))) is few =
    lists (other_filled 0 es e (omega arith)) (other_filled 1 es e (omega arith)) (other_filled 2 es e (omega arith)) (own_filled es e 3 is)
at_set es e (suc (suc (suc (suc k)))) is few = absurd (omega arith)

pub sets_of-filled : (es : List Entry) (e : Entry) → sets_of (filled es e) ≡ sets_filled (sets_of es) e
sets_of-filled es e =
    at_set es e (set_of e.vpn) refl (omega arith)
    ∙ ap (λ (xs : List Entry). slice_set (sets_of es) (set_of e.vpn) (set_filled xs e))
    (sym (set_at-sets_of es (set_of e.vpn) (omega arith)))

pub fills_by_set : FillsBySet
fills_by_set es e =
    ap joined
    (sets_of-filled (by_set es) e
    ∙ ap (λ (sets : List (List Entry)). sets_filled sets e) (sets_of-by_set es)
    ∙ sym (sets_of-filled es e))

runs : (es fills : List Entry) → filled_by_set (by_set es) fills ≡ by_set (filled_in_turn es fills)
runs es [] = refl
runs es (e ∷ later) =
    ap (λ (xs : List Entry). filled_by_set xs later) (fills_by_set es e) ∙ runs (filled es e) later

pub runs_by_set : RunsBySet
runs_by_set fills = runs [] fills

-- ---- room

pub length-of_others : (vpn : ℕ) (es : List Entry) → length (of_others vpn es) ≤ length es
length-of_others vpn [] = omega arith
length-of_others vpn (e ∷ es) = grind (arith, length-of_others vpn es)

room_for_one : (xs : List Entry) (b : Bool) → nat_lt (length xs) set_room ≡ b → length xs ≤ set_room
    → length (cond b xs (drop 1 xs)) < set_room
room_for_one xs true is few = grind (arith, nat_tests, is)
room_for_one xs false is few = omega (arith, length-drop 1 xs, few)

pub length-set_filled : (es : List Entry) (e : Entry) → length es ≤ set_room → length (set_filled es e) ≤ set_room
length-set_filled es e few =
    let xs : List Entry = of_others e.vpn es in
    let shorter : length (of_others e.vpn es) ≤ set_room = omega (arith, length-of_others e.vpn es, few) in
    let room : length (set_with_room (of_others e.vpn es)) < set_room = room_for_one xs (nat_lt (length xs) set_room) refl shorter in
    omega (arith, length-append (set_with_room (of_others e.vpn es)) (e ∷ []), room)

by_own : (es : List Entry) (e : Entry) (set : ℕ) → FitsInSets es → (set ≡ set_of e.vpn) ⊎ (set ≢ set_of e.vpn)
    → length (in_set set (filled es e)) ≤ set_room
by_own es e set room (inl is) =
    subst (λ (xs : List Entry). length xs ≤ set_room) (sym (own_filled es e set (sym is)))
    (length-set_filled (in_set set es) e (room set))
by_own es e set room (inr ne) =
    subst (λ (xs : List Entry). length xs ≤ set_room) (sym (other_filled set es e ne)) (room set)

pub fills_fit_in_sets : FillsFitInSets
fills_fit_in_sets es e room set = by_own es e set room (cases_eq set (set_of e.vpn))

-- a set that is full has its oldest dropped
pub full_set : (xs : List Entry) → nat_eq (length xs) 4 ≡ true → drop 1 xs ≡ set_with_room xs
full_set xs full = grind (arith, nat_tests, full)

pub set_not_full : (xs : List Entry) → nat_eq (length xs) 4 ≡ false → length xs ≤ 4 → xs ≡ set_with_room xs
set_not_full xs full few = grind (arith, nat_tests, full, few)
