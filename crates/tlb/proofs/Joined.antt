-- The four sets, one behind the other.
use Rattle.std.proofs.Common.{◌≡◌, ℕ, zero, suc, ◌<◌, List, [], ◌∷◌, ◌++◌, refl, sym, ap, ◌∙◌, arith}
use Rattle.tlb.specs.declared.entry.Entry.{Entry}
use Rattle.sv39_pte.specs.declared.pte.Access.{Access}
use Rattle.tlb.specs.Cache.{set_of, page_for, in_set}
use Rattle.tlb.specs.Sets.{sets_of, by_set, set_at}
use Rattle.tlb.specs.Laws.{LooksBySet}
use Rattle.tlb.proofs.InSets.{in_set-append, in_set-own, in_set-other, page_in_set}

-- ---- a set of four joined ones

in_four : (k : ℕ) (a b c d : List Entry)
    → in_set k (a ++ (b ++ (c ++ (d ++ [])))) ≡ in_set k a ++ (in_set k b ++ (in_set k c ++ (in_set k d ++ [])))
in_four k a b c d =
    in_set-append k a (b ++ (c ++ (d ++ [])))
    ∙ ap (λ (xs : List Entry). in_set k a ++ xs) (in_set-append k b (c ++ (d ++ []))
    ∙ ap (λ (xs : List Entry). in_set k b ++ xs) (in_set-append k c (d ++ [])
    ∙ ap (λ (xs : List Entry). in_set k c ++ xs) (in_set-append k d [])))

append_nil : (xs : List Entry) → xs ++ [] ≡ xs
append_nil [] = refl
append_nil (x ∷ xs) = ap (λ (ys : List Entry). x ∷ ys) (append_nil xs)

four : {a b c d w x y z : List Entry} → a ≡ w → b ≡ x → c ≡ y → d ≡ z
    → a ++ (b ++ (c ++ (d ++ []))) ≡ w ++ (x ++ (y ++ (z ++ [])))
four p q r s = cc

pub lists : {a b c d w x y z : List Entry} → a ≡ w → b ≡ x → c ≡ y → d ≡ z
    → a ∷ b ∷ c ∷ d ∷ [] ≡ w ∷ x ∷ y ∷ z ∷ []
lists p q r s = cc

pub sets_of-by_set : (es : List Entry) → sets_of (by_set es) ≡ sets_of es
sets_of-by_set es =
    let a : List Entry = in_set 0 es in
    let b : List Entry = in_set 1 es in
    let c : List Entry = in_set 2 es in
    let d : List Entry = in_set 3 es in
    lists
    (in_four 0 a b c d
    ∙ four (in_set-own 0 es) (in_set-other 0 1 es (omega arith)) (in_set-other 0 2 es (omega arith)) (in_set-other 0 3 es (omega arith))
    ∙ append_nil a)
    (in_four 1 a b c d
    ∙ four (in_set-other 1 0 es (omega arith)) (in_set-own 1 es) (in_set-other 1 2 es (omega arith)) (in_set-other 1 3 es (omega arith))
    ∙ append_nil b)
    (in_four 2 a b c d
    ∙ four (in_set-other 2 0 es (omega arith)) (in_set-other 2 1 es (omega arith)) (in_set-own 2 es) (in_set-other 2 3 es (omega arith))
    ∙ append_nil c)
    (in_four 3 a b c d
    ∙ four (in_set-other 3 0 es (omega arith)) (in_set-other 3 1 es (omega arith)) (in_set-other 3 2 es (omega arith)) (in_set-own 3 es)
    ∙ append_nil d)

-- ---- one of the four

pub set_at-sets_of : (es : List Entry) (k : ℕ) → k < 4 → set_at (sets_of es) k ≡ in_set k es
set_at-sets_of es zero few = refl
set_at-sets_of es (suc zero) few = refl
set_at-sets_of es (suc (suc zero)) few = refl
set_at-sets_of es (suc (suc (suc zero))) few = refl
set_at-sets_of es (suc (suc (suc (suc k)))) few = absurd (omega arith)

-- what is found in a list of these sets
pub page_in_sets : (es : List Entry) (sets : List (List Entry)) (vpn : ℕ) (access : Access) → sets_of es ≡ sets
    → page_for (set_at sets (set_of vpn)) vpn access ≡ page_for es vpn access
page_in_sets es sets vpn access own =
    ap (λ (ss : List (List Entry)). page_for (set_at ss (set_of vpn)) vpn access) (sym own)
    ∙ ap (λ (xs : List Entry). page_for xs vpn access) (set_at-sets_of es (set_of vpn) (omega arith))
    ∙ page_in_set (set_of vpn) vpn access es refl

pub looks_by_set : LooksBySet
looks_by_set es vpn access =
    sym (page_in_sets (by_set es) (sets_of es) vpn access (sets_of-by_set es))
    ∙ page_in_sets es (sets_of es) vpn access refl
