-- What is counted of a region: from its accesses alone, and with one access more.
use Rattle.std.proofs.Common.{◌≡◌, ◌≢◌, ℕ, ◌+◌, ◌<◌, ◌≤◌, Bool, true, false, cond, List, [], ◌∷◌, ◌++◌, length, get_or, refl, sym, ap, ◌∙◌, arith, inl, inr, append_assoc}
use Rattle.std.specs.Prelude.{filter, ◌==◌}
use Rattle.std.proofs.Math.ListN.{set}
use Rattle.std.proofs.lemmas.Bool.{cases_eq, eq-eqb, ne_eqb}
use Rattle.std.proofs.lemmas.List.{append-nil, length_push, length-set, get_or-set_same, get_or-set_other}
use Rattle.std.proofs.lemmas.List.Elements.{filter-append}
use Rattle.std.proofs.lemmas.List.Sums.{sum_by_push, length-filter, count_by-le-length}
use Rattle.std.proofs.lemmas.List.FromFn.{length-map-range_with_len, get_or-map-range_with_len, fill_by_all}
use Rattle.mon_types.specs.Shape.{Shape}
use Rattle.llc.specs.declared.tally.Tally.{Tally}
use Rattle.llc.specs.Colours.{region_of}
use Rattle.llc.specs.Hits.{is_hit, hits_behind, hits_of}
use Rattle.llc.specs.Regions.{accesses_of}
use Rattle.llc.specs.Tallies.{hit_count, tally_of, tallies_of, uncounted, counted, tally_at, OwnTally, SameTally}
use Rattle.llc.proofs.Own.{kept, dropped, filter-filter, own_hit, own_hits_hold}
use Rattle.llc.proofs.Whole.{length-hits_behind}

-- ---- from a region's accesses alone

abbrev tally : ℕ → ℕ → ℕ → Tally
tally region accesses hits = record { region = region; accesses = accesses; hits = hits }

-- what is counted of a region with these accesses
abbrev own_tally : Shape → ℕ → ℕ → List ℕ → Tally
own_tally shape ways region own = tally region (length own) (hit_count (hits_of shape ways own))

tally_is : (shape : Shape) (ways region : ℕ) (accesses : List ℕ)
    → tally_of shape ways accesses region ≡ own_tally shape ways region (accesses_of shape region accesses)
tally_is shape ways region accesses =
    ap (λ (hits : List Bool). tally region (length (accesses_of shape region accesses)) (hit_count hits))
    (own_hits_hold shape ways region accesses)

pub same_tally_holds : SameTally
same_tally_holds shape ways region accesses others same =
    tally_is shape ways region accesses ∙ ap (own_tally shape ways region) same ∙ sym (tally_is shape ways region others)

pub own_tally_holds : OwnTally
own_tally_holds shape ways region accesses =
    let own = λ (a : ℕ). region_of shape a == region in
    same_tally_holds shape ways region accesses (accesses_of shape region accesses)
    (sym (filter-filter own own (λ a e. e) accesses))

-- ---- one access more

hits_more : (shape : Shape) (ways : ℕ) (earlier xs : List ℕ) (a : ℕ)
    → hits_behind shape ways earlier (xs ++ a ∷ []) ≡ hits_behind shape ways earlier xs ++ is_hit shape ways (earlier ++ xs) a ∷ []
hits_more shape ways earlier [] a = ap (λ (past : List ℕ). is_hit shape ways past a ∷ []) (sym (append-nil earlier))
hits_more shape ways earlier (x ∷ xs) a =
    ap (λ (rest : List Bool). is_hit shape ways earlier x ∷ rest)
    (hits_more shape ways (earlier ++ x ∷ []) xs a
    ∙ ap (λ (past : List ℕ). hits_behind shape ways (earlier ++ x ∷ []) xs ++ is_hit shape ways past a ∷ []) (append_assoc earlier (x ∷ []) xs))

one_more : (n : ℕ) (hit : Bool) → n + cond hit 1 0 ≡ cond hit (n + 1) n
one_more n true = refl
one_more n false = omega arith

own_more : (shape : Shape) (ways region : ℕ) (own : List ℕ) (a : ℕ)
    → own_tally shape ways region (own ++ a ∷ []) ≡ counted (is_hit shape ways own a) (own_tally shape ways region own)
own_more shape ways region own a =
    let hit = is_hit shape ways own a in
    let hits = hits_of shape ways own in
    let count : hit_count (hits_of shape ways (own ++ a ∷ [])) ≡ cond hit (hit_count hits + 1) (hit_count hits) =
    ap hit_count (hits_more shape ways [] own a) ∙ sum_by_push (λ (b : Bool). cond b 1 0) hits hit ∙ one_more (hit_count hits) hit in
    ap (λ (n : ℕ). tally region n (hit_count (hits_of shape ways (own ++ a ∷ [])))) (length_push own a)
    ∙ ap (tally region (length own + 1)) count

own_access : (shape : Shape) (region a : ℕ) (past : List ℕ) → region_of shape a ≡ region
    → accesses_of shape region (past ++ a ∷ []) ≡ accesses_of shape region past ++ a ∷ []
own_access shape region a past e =
    let own = λ (x : ℕ). region_of shape x == region in
    filter-append own past (a ∷ []) ∙ ap (λ (x : List ℕ). filter own past ++ x) (kept own a [] (eq-eqb (region_of shape a) region e))

other_access : (shape : Shape) (region a : ℕ) (past : List ℕ) → region_of shape a ≢ region
    → accesses_of shape region (past ++ a ∷ []) ≡ accesses_of shape region past
other_access shape region a past other =
    let own = λ (x : ℕ). region_of shape x == region in
    filter-append own past (a ∷ [])
    ∙ ap (λ (x : List ℕ). filter own past ++ x) (dropped own a [] (ne_eqb (region_of shape a) region other))
    ∙ append-nil (filter own past)

tally_more : (shape : Shape) (ways : ℕ) (past : List ℕ) (a : ℕ) (hit : Bool) → hit ≡ is_hit shape ways past a
    → tally_of shape ways (past ++ a ∷ []) (region_of shape a) ≡ counted hit (tally_of shape ways past (region_of shape a))
tally_more shape ways past a hit is =
    let region = region_of shape a in
    let own = accesses_of shape region past in
    tally_is shape ways region (past ++ a ∷ [])
    ∙ ap (own_tally shape ways region) (own_access shape region a past refl)
    ∙ own_more shape ways region own a
    ∙ ap (λ (b : Bool). counted b (own_tally shape ways region own)) (own_hit shape ways a past ∙ sym is)
    ∙ ap (counted hit) (sym (tally_is shape ways region past))

tally_other : (shape : Shape) (ways region : ℕ) (past : List ℕ) (a : ℕ) → region_of shape a ≢ region
    → tally_of shape ways (past ++ a ∷ []) region ≡ tally_of shape ways past region
tally_other shape ways region past a other =
    same_tally_holds shape ways region (past ++ a ∷ []) past (other_access shape region a past other)

-- ---- among the tallies of all regions

tally_there : (shape : Shape) (ways region : ℕ) (past : List ℕ) (tallies : List Tally) (d : Tally) → region < shape.regions
    → tallies ≡ tallies_of shape ways past → get_or tallies region d ≡ tally_of shape ways past region
tally_there shape ways region past tallies d lt are =
    ap (λ (ts : List Tally). get_or ts region d) are
    ∙ get_or-map-range_with_len (tally_of shape ways past) 0 shape.regions region region d lt (omega arith)

tallies_count : (shape : Shape) (ways : ℕ) (past : List ℕ) (tallies : List Tally) → tallies ≡ tallies_of shape ways past
    → length tallies ≡ shape.regions
tallies_count shape ways past tallies are =
    ap length are ∙ length-map-range_with_len (tally_of shape ways past) 0 shape.regions

pub accesses_few : (shape : Shape) (ways region : ℕ) (past : List ℕ) (tallies : List Tally) → region < shape.regions
    → tallies ≡ tallies_of shape ways past → (tally_at tallies region).accesses ≤ length past
accesses_few shape ways region past tallies lt are =
    let own = λ (a : ℕ). region_of shape a == region in
    let here = ap (λ (t : Tally). t.accesses) (tally_there shape ways region past tallies (uncounted region) lt are) in
    omega (arith, here, length-filter own past, count_by-le-length own past)

pub hits_few : (shape : Shape) (ways region : ℕ) (past : List ℕ) (tallies : List Tally) → region < shape.regions
    → tallies ≡ tallies_of shape ways past → (tally_at tallies region).hits ≤ length past
hits_few shape ways region past tallies lt are =
    let own = λ (a : ℕ). region_of shape a == region in
    let accesses = accesses_of shape region past in
    let here = ap (λ (t : Tally). t.hits) (tally_there shape ways region past tallies (uncounted region) lt are ∙ tally_is shape ways region past) in
    omega (arith, here, count_by-le-length (λ (hit : Bool). hit) (hits_of shape ways accesses), length-hits_behind shape ways [] accesses, length-filter own past, count_by-le-length own past)

all_counted : (shape : Shape) (ways : ℕ) (past : List ℕ) (a : ℕ) (hit : Bool) (tallies now : List Tally) → hit ≡ is_hit shape ways past a
    → region_of shape a < shape.regions → tallies ≡ tallies_of shape ways past
    → now ≡ set tallies (region_of shape a) (counted hit (tally_at tallies (region_of shape a)))
    → now ≡ tallies_of shape ways (past ++ a ∷ [])
all_counted shape ways past a hit tallies now is lt are now_is =
    let region = region_of shape a in
    let d = uncounted region in
    let more = counted hit (tally_at tallies region) in
    let count = tallies_count shape ways past tallies are in
    let next = tally_of shape ways (past ++ a ∷ []) in
    let long : length now ≡ shape.regions = ap length now_is ∙ length-set tallies region more ∙ count in
    let counted_here : more ≡ next region =
    ap (counted hit) (tally_there shape ways region past tallies d lt are) ∙ sym (tally_more shape ways past a hit is) in
    let at : (k : ℕ) → k < shape.regions → get_or now k d ≡ next k = λ k within.
    ap (λ (ts : List Tally). get_or ts k d) now_is
    ∙ elim (cases_eq k region) [
      | inl e ↦
          ap (λ (j : ℕ). get_or (set tallies region more) j d) e
          ∙ get_or-set_same tallies region more d (omega (arith, lt, count))
          ∙ counted_here
          ∙ sym (ap next e)
      | inr other ↦
          get_or-set_other tallies region k more d other
          ∙ tally_there shape ways k past tallies d within are
          ∙ sym (tally_other shape ways k past a (λ e. other (sym e)))
    ] in
    fill_by_all next now shape.regions d long at

-- the same at a place that is the region's number
pub counted_at : (shape : Shape) (ways : ℕ) (past : List ℕ) (a : ℕ) (hit : Bool) (tallies now : List Tally) (place : ℕ) → hit ≡ is_hit shape ways past a
    → place < shape.regions → place ≡ region_of shape a → tallies ≡ tallies_of shape ways past
    → now ≡ set tallies place (counted hit (tally_at tallies place)) → now ≡ tallies_of shape ways (past ++ a ∷ [])
counted_at shape ways past a hit tallies now place is lt here are now_is =
    all_counted shape ways past a hit tallies now is (omega (arith, lt, here)) are
    (now_is ∙ ap (λ (r : ℕ). set tallies r (counted hit (tally_at tallies r))) here)
