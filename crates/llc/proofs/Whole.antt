-- The answers of a whole list of accesses, one at a time and at each place.
use Rattle.std.proofs.Common.{◌≡◌, ℕ, zero, suc, ◌+◌, ◌<◌, ◌≤◌, Bool, false, List, [], ◌∷◌, ◌++◌, length, get_or, take, drop, Result, Ok, Err, refl, sym, ap, subst, ◌∙◌, arith, append_assoc}
use Rattle.std.specs.Prelude.{slice_index, slice_index_or, IsTrue, ◌↔◌, IfOk}
use Rattle.std.proofs.lemmas.List.{append-nil, take_at, get_or_at, length_push, take_more, drop_more, drop_all}
use Rattle.mon_types.specs.Shape.{Shape}
use Rattle.llc.specs.Hits.{IsHit, AreHits, is_hit, hits_behind, hits_of}
use Rattle.llc.proofs.Places.{hit_both}

-- an access behind others is a hit exactly where it is one in the list that it ends
pub next_hit : (shape : Shape) (ways : ℕ) (accesses : List ℕ) (address : ℕ)
    → IsTrue (is_hit shape ways accesses address) ↔ IsHit shape ways (accesses ++ address ∷ []) (length accesses)
next_hit shape ways accesses address =
    let n = length accesses in
    let all = accesses ++ address ∷ [] in
    let within : n < length all = omega (arith, length_push accesses address) in
    let earlier : take n all ≡ accesses = take_at accesses (address ∷ []) n refl in
    let here : slice_index all n ≡ address = get_or_at accesses address [] 0 n refl in
    let same : is_hit shape ways (take n all) (slice_index all n) ≡ is_hit shape ways accesses address =
    ap (λ (x : List ℕ). is_hit shape ways x (slice_index all n)) earlier ∙ ap (is_hit shape ways accesses) here in
    subst (λ (b : Bool). IsTrue b ↔ IsHit shape ways all n) same (hit_both shape ways all n within)

-- ---- at each place

pub length-hits_behind : (shape : Shape) (ways : ℕ) (earlier xs : List ℕ) → length (hits_behind shape ways earlier xs) ≡ length xs
length-hits_behind shape ways earlier [] = refl
length-hits_behind shape ways earlier (x ∷ xs) = ap suc (length-hits_behind shape ways (earlier ++ x ∷ []) xs)

hit_at : (shape : Shape) (ways : ℕ) (earlier xs : List ℕ) (i : ℕ) → i < length xs
    → slice_index_or (hits_behind shape ways earlier xs) i false ≡ is_hit shape ways (earlier ++ take i xs) (slice_index xs i)
hit_at shape ways earlier [] i lt = absurd (omega arith)
hit_at shape ways earlier (x ∷ xs) zero lt = ap (λ (past : List ℕ). is_hit shape ways past x) (sym (append-nil earlier))
hit_at shape ways earlier (x ∷ xs) (suc i) lt =
    hit_at shape ways (earlier ++ x ∷ []) xs i (omega arith)
    ∙ ap (λ (past : List ℕ). is_hit shape ways past (slice_index xs i)) (append_assoc earlier (x ∷ []) (take i xs))

pub are_hits : (shape : Shape) (ways : ℕ) (accesses : List ℕ) (answers : List Bool) → answers ≡ hits_of shape ways accesses → AreHits shape ways accesses answers
are_hits shape ways accesses answers are i lt =
    let same : is_hit shape ways (take i accesses) (slice_index accesses i) ≡ slice_index_or answers i false =
    sym (ap (λ (x : List Bool). slice_index_or x i false) are ∙ hit_at shape ways [] accesses i lt) in
    subst (λ (b : Bool). IsTrue b ↔ IsHit shape ways accesses i) same (hit_both shape ways accesses i lt)

-- ---- one at a time

pub hit_added : (shape : Shape) (ways : ℕ) (hits : List Bool) (xs : List ℕ) (i x : ℕ) (hit : Bool) (total : List Bool) → i < length xs → get_or xs i 0 ≡ x
    → hit ≡ is_hit shape ways (take i xs) x → hits ++ hits_behind shape ways (take i xs) (drop i xs) ≡ total
    → (hits ++ hit ∷ []) ++ hits_behind shape ways (take (i + 1) xs) (drop (i + 1) xs) ≡ total
hit_added shape ways hits xs i x hit total lt here is so_far =
    let rest = drop (i + 1) xs in
    let later : take (i + 1) xs ≡ take i xs ++ x ∷ [] = take_more xs i 0 lt ∙ ap (λ (y : ℕ). take i xs ++ y ∷ []) here in
    let next : drop i xs ≡ x ∷ rest = drop_more xs i 0 lt ∙ ap (λ (y : ℕ). y ∷ rest) here in
    append_assoc hits (hit ∷ []) (hits_behind shape ways (take (i + 1) xs) rest)
    ∙ ap (λ (past : List ℕ). hits ++ hit ∷ hits_behind shape ways past rest) later
    ∙ ap (λ (b : Bool). hits ++ b ∷ hits_behind shape ways (take i xs ++ x ∷ []) rest) is
    ∙ ap (λ (ys : List ℕ). hits ++ hits_behind shape ways (take i xs) ys) (sym next)
    ∙ so_far

pub all_hits : (shape : Shape) (ways : ℕ) (hits : List Bool) (xs : List ℕ) (i : ℕ) (total : List Bool) → length xs ≤ i
    → hits ++ hits_behind shape ways (take i xs) (drop i xs) ≡ total → hits ≡ total
all_hits shape ways hits xs i total over so_far =
    sym (append-nil hits) ∙ ap (λ (ys : List ℕ). hits ++ hits_behind shape ways (take i xs) ys) (sym (drop_all i xs over)) ∙ so_far

-- ---- results

pub ok_weaker : {X E : Type 0} (r : Result X E) (P Q : X → Type 0) → ((x : X) → P x → Q x) → IfOk r P → IfOk r Q
ok_weaker (Ok x) P Q f h = f x h
ok_weaker (Err e) P Q f h = tt
