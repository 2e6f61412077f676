-- No virtual page has two entries, and what an access finds then.
use Rattle.std.proofs.Common.{◌≡◌, ◌≢◌, ◌⊎◌, inl, inr, ℕ, ◌+◌, ◌<◌, ◌≤◌, Bool, true, false, cond, List, [], ◌∷◌, ◌++◌, length, None, refl, sym, ap, subst, ◌∙◌, arith, length-append}
use Rattle.std.specs.Prelude.{◌==◌, nat_lt, find}
use Rattle.std.proofs.lemmas.Bool.{cases_eq}
use Rattle.std.proofs.lemmas.Bool.Decides.{nat_tests}
use Rattle.std.proofs.lemmas.List.Elements.{filter-append}
use Rattle.sv39_pte.specs.declared.pte.Access.{Access}
use Rattle.tlb.specs.declared.entry.Entry.{Entry}
use Rattle.tlb.specs.Cache.{set_room, set_of, serves, page_for, of_page, HasOneEach, page_of_one, of_others, in_set, without_oldest, filled}
use Rattle.tlb.specs.Sets.{by_set, set_at}
use Rattle.tlb.specs.Laws.{filled_in_turn, FillsKeepOneEach, RunsHaveOneEach, LooksAtOne}
use Rattle.tlb.proofs.Joined.{sets_of-by_set, set_at-sets_of}

-- ---- set after set

in_own_set : (k vpn : ℕ) (es : List Entry) → set_of vpn ≡ k → of_page vpn (in_set k es) ≡ of_page vpn es
in_own_set k vpn [] own = refl
in_own_set k vpn (e ∷ es) own = grind (arith, nat_tests, own, in_own_set k vpn es own)

same_set : (es : List Entry) (k : ℕ) → k < 4 → in_set k (by_set es) ≡ in_set k es
same_set es k few =
    sym (set_at-sets_of (by_set es) k few)
    ∙ ap (λ (ss : List (List Entry)). set_at ss k) (sets_of-by_set es)
    ∙ set_at-sets_of es k few

of_page-by_set : (vpn : ℕ) (es : List Entry) → of_page vpn (by_set es) ≡ of_page vpn es
of_page-by_set vpn es =
    sym (in_own_set (set_of vpn) vpn (by_set es) refl)
    ∙ ap (of_page vpn) (same_set es (set_of vpn) (omega arith))
    ∙ in_own_set (set_of vpn) vpn es refl

pub one_by_set : (es : List Entry) → HasOneEach es → HasOneEach (by_set es)
one_by_set es one vpn = subst (λ (xs : List Entry). length xs ≤ 1) (sym (of_page-by_set vpn es)) (one vpn)

-- ---- after a fill

none_among_others : (vpn : ℕ) (es : List Entry) → length (of_page vpn (of_others vpn es)) ≡ 0
none_among_others vpn [] = refl
none_among_others vpn (e ∷ es) = grind (arith, none_among_others vpn es)

fewer_of_others : (v w : ℕ) (es : List Entry) → length (of_page v (of_others w es)) ≤ length (of_page v es)
fewer_of_others v w [] = omega arith
fewer_of_others v w (e ∷ es) = grind (arith, fewer_of_others v w es)

fewer_without : (v k : ℕ) (es : List Entry) → length (of_page v (without_oldest k es)) ≤ length (of_page v es)
fewer_without v k [] = omega arith
fewer_without v k (e ∷ es) = grind (arith, fewer_without v k es)

fewer_with_room : (v k : ℕ) (es : List Entry) (b : Bool) → length (of_page v (cond b es (without_oldest k es))) ≤ length (of_page v es)
fewer_with_room v k es true = omega arith
fewer_with_room v k es false = fewer_without v k es

one_at_most : (e : Entry) (b : Bool) → length (cond b (e ∷ []) []) ≤ 1
one_at_most e true = omega arith
one_at_most e false = omega arith

not_of_page : (vpn : ℕ) (e : Entry) → e.vpn ≢ vpn → length (of_page vpn (e ∷ [])) ≡ 0
not_of_page vpn e ne = grind (arith, nat_tests, ne)

parts : (vpn : ℕ) (xs : List Entry) (e : Entry) → length (of_page vpn (xs ++ e ∷ [])) ≡ length (of_page vpn xs) + length (of_page vpn (e ∷ []))
parts vpn xs e =
    ap length (filter-append (λ (x : Entry). x.vpn == vpn) xs (e ∷ [])) ∙ length-append (of_page vpn xs) (of_page vpn (e ∷ []))

at_page : (es : List Entry) (e : Entry) (vpn : ℕ) → HasOneEach es → (e.vpn ≡ vpn) ⊎ (e.vpn ≢ vpn) → length (of_page vpn (filled es e)) ≤ 1
at_page es e vpn one (inl is) =
    let k = set_of e.vpn in
    let xs = of_others e.vpn es in
    let b = nat_lt (length (in_set k xs)) set_room in
    let none : length (of_page vpn xs) ≡ 0 = ap (λ (w : ℕ). length (of_page vpn (of_others w es))) is ∙ none_among_others vpn es in
    omega (arith, parts vpn (cond b xs (without_oldest k xs)) e, fewer_with_room vpn k xs b, none, one_at_most e (e.vpn == vpn))
at_page es e vpn one (inr ne) =
    let k = set_of e.vpn in
    let xs = of_others e.vpn es in
    let b = nat_lt (length (in_set k xs)) set_room in
    omega (arith, parts vpn (cond b xs (without_oldest k xs)) e, fewer_with_room vpn k xs b, fewer_of_others vpn e.vpn es, not_of_page vpn e ne, one vpn)

pub fills_keep_one_each : FillsKeepOneEach
fills_keep_one_each es e one vpn = at_page es e vpn one (cases_eq e.vpn vpn)

runs_from : (es fills : List Entry) → HasOneEach es → HasOneEach (filled_in_turn es fills)
runs_from es [] one = one
runs_from es (e ∷ later) one = runs_from (filled es e) later (fills_keep_one_each es e one)

pub none_twice : HasOneEach []
none_twice vpn = omega arith

pub runs_have_one_each : RunsHaveOneEach
runs_have_one_each fills = runs_from [] fills none_twice

-- ---- what an access finds

none_serves : (vpn : ℕ) (access : Access) (es : List Entry) → length (of_page vpn es) ≤ 0 → find (serves vpn access) es ≡ None
none_serves vpn access [] none = refl
none_serves vpn access (e ∷ es) none = grind (arith, nat_tests, none, none_serves vpn access es)

one_serves : (vpn : ℕ) (access : Access) (es : List Entry) → length (of_page vpn es) ≤ 1 → page_for es vpn access ≡ page_of_one es vpn access
one_serves vpn access [] few = refl
one_serves vpn access (e ∷ es) few = grind (arith, nat_tests, few, one_serves vpn access es, none_serves vpn access es)

pub looks_at_one : LooksAtOne
looks_at_one es vpn access one = one_serves vpn access es (one vpn)
