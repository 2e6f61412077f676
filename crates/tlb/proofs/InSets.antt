-- The entries of a set, among all and among those of another set.
use Rattle.std.proofs.Common.{◌≡◌, ◌≢◌, ℕ, ◌≤◌, ◌==◌, List, [], ◌∷◌, ◌++◌, drop, refl, ap, arith}
use Rattle.std.specs.Prelude.{find}
use Rattle.std.specs.Option.{option_map}
use Rattle.std.proofs.lemmas.Bool.Decides.{nat_tests}
use Rattle.std.proofs.lemmas.List.Elements.{filter-append}
use Rattle.sv39_pte.specs.declared.pte.Access.{Access}
use Rattle.tlb.specs.declared.entry.Entry.{Entry}
use Rattle.tlb.specs.Cache.{set_of, serves, page_for, of_others, in_set, without_oldest}

pub in_set-append : (k : ℕ) (xs ys : List Entry) → in_set k (xs ++ ys) ≡ in_set k xs ++ in_set k ys
in_set-append k xs ys = filter-append (λ (e : Entry). set_of e.vpn == k) xs ys

pub in_set-own : (k : ℕ) (es : List Entry) → in_set k (in_set k es) ≡ in_set k es
in_set-own k [] = refl
in_set-own k (e ∷ es) = grind (arith, in_set-own k es)

pub in_set-other : (j k : ℕ) (es : List Entry) → j ≢ k → in_set j (in_set k es) ≡ []
in_set-other j k [] ne = refl
in_set-other j k (e ∷ es) ne = grind (arith, nat_tests, ne, in_set-other j k es ne)

-- no virtual page is in a fifth set
pub in_set-none : (k : ℕ) (es : List Entry) → 4 ≤ k → in_set k es ≡ []
in_set-none k [] past = refl
in_set-none k (e ∷ es) past = grind (arith, nat_tests, past, in_set-none k es past)

-- an access finds in the set of its page what it finds among all
find_in_set : (k vpn : ℕ) (access : Access) (es : List Entry) → set_of vpn ≡ k
    → find (serves vpn access) (in_set k es) ≡ find (serves vpn access) es
find_in_set k vpn access [] own = refl
find_in_set k vpn access (e ∷ es) own = grind (arith, nat_tests, own, find_in_set k vpn access es own)

pub page_in_set : (k vpn : ℕ) (access : Access) (es : List Entry) → set_of vpn ≡ k
    → page_for (in_set k es) vpn access ≡ page_for es vpn access
page_in_set k vpn access es own = ap (option_map (λ (e : Entry). e.page)) (find_in_set k vpn access es own)

-- ---- what a fill drops

pub in_set-of_others : (k vpn : ℕ) (es : List Entry) → in_set k (of_others vpn es) ≡ of_others vpn (in_set k es)
in_set-of_others k vpn [] = refl
in_set-of_others k vpn (e ∷ es) = grind (arith, in_set-of_others k vpn es)

pub of_others-other : (k vpn : ℕ) (es : List Entry) → set_of vpn ≢ k → of_others vpn (in_set k es) ≡ in_set k es
of_others-other k vpn [] ne = refl
of_others-other k vpn (e ∷ es) ne = grind (arith, nat_tests, ne, of_others-other k vpn es ne)

pub without_oldest-own : (k : ℕ) (es : List Entry) → in_set k (without_oldest k es) ≡ drop 1 (in_set k es)
without_oldest-own k [] = refl
without_oldest-own k (e ∷ es) = grind (arith, nat_tests, without_oldest-own k es)

pub without_oldest-other : (j k : ℕ) (es : List Entry) → j ≢ k → in_set j (without_oldest k es) ≡ in_set j es
without_oldest-other j k [] ne = refl
without_oldest-other j k (e ∷ es) ne = grind (arith, nat_tests, ne, without_oldest-other j k es ne)

pub one-own : (k : ℕ) (e : Entry) → set_of e.vpn ≡ k → in_set k (e ∷ []) ≡ e ∷ []
one-own k e own = grind (arith, nat_tests, own)

pub one-other : (k : ℕ) (e : Entry) → k ≢ set_of e.vpn → in_set k (e ∷ []) ≡ []
one-other k e ne = grind (arith, nat_tests, ne)
