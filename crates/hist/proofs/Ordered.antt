-- What is left of several lists of entries, once the entry with the least ticket is taken.
use Rattle.std.proofs.Common.{◌≡◌, ◌≢◌, ℕ, suc, zero, ◌<◌, true, false, List, [], ◌∷◌, ◌++◌, length, get_or, map, refl, sym, ap, subst, ◌∙◌, arith, if◌then◌else◌, ltb}
use Rattle.std.proofs.Math.ListN.{set}
use Rattle.std.specs.List.{flat_map, AllByRecursion}
use Rattle.std.proofs.lemmas.Bool.{lt-ltb, le-ltb}
use Rattle.hist.specs.declared.event.Entry.{Entry}
use Rattle.hist.specs.History.{placed, in_ticket_order}
use Rattle.hist.specs.Merging.{Ascend, ShareNoTicket, AreApart, BeginsNoEarlier}

-- ---- facts of each element

pub all_weaker : {X : Type 0} (P Q : X → Type 0) → ((x : X) → P x → Q x) → (xs : List X) → AllByRecursion P xs → AllByRecursion Q xs
all_weaker P Q step [] all = tt
all_weaker P Q step (x ∷ xs) all = (step x all.0, all_weaker P Q step xs all.1)

pub all_joined : {X : Type 0} (P : X → Type 0) (xs ys : List X) → AllByRecursion P xs → AllByRecursion P ys → AllByRecursion P (xs ++ ys)
all_joined P [] ys all others = others
all_joined P (x ∷ xs) ys all others = (all.0, all_joined P xs ys all.1 others)

pub at_place : {X : Type 0} (P : X → Type 0) (xs : List X) (i : ℕ) (d : X) → i < length xs → AllByRecursion P xs → P (get_or xs i d)
at_place P [] i d lt all = absurd (omega arith)
at_place P (x ∷ xs) zero d lt all = all.0
at_place P (x ∷ xs) (suc i) d lt all = at_place P xs i d (omega arith) all.1

pub all_set : {X : Type 0} (P : X → Type 0) (xs : List X) (i : ℕ) (y : X) → P y → AllByRecursion P xs → AllByRecursion P (set xs i y)
all_set P [] i y here all = tt
all_set P (x ∷ xs) zero y here all = (here, all.1)
all_set P (x ∷ xs) (suc i) y here all = (all.0, all_set P xs i y here all.1)

-- ---- tickets above a ticket

abbrev pub AreAbove : ℕ → List Entry → Type 0
AreAbove t es = AllByRecursion (λ e. t < e.ticket) es

placed_above : (t : ℕ) (x : Entry) (es : List Entry) → t < x.ticket → AreAbove t es → AreAbove t (placed x es)
placed_above t x [] lt above = (lt, tt)
placed_above t x (e ∷ es) lt above =
    elim (ltb x.ticket e.ticket) as (λ b. AreAbove t (if b then x ∷ e ∷ es else e ∷ placed x es)) [ true ↦ (lt, above) | false ↦ (above.0, placed_above t x es lt above.1) ]

order_above : (t : ℕ) (es : List Entry) → AreAbove t es → AreAbove t (in_ticket_order es)
order_above t [] above = tt
order_above t (e ∷ es) above = placed_above t e (in_ticket_order es) above.0 (order_above t es above.1)

pub placed_first : (e : Entry) (es : List Entry) → AreAbove e.ticket es → placed e es ≡ e ∷ es
placed_first e [] above = refl
placed_first e (x ∷ es) above = ap (λ b. if b then e ∷ x ∷ es else x ∷ placed e es) (lt-ltb e.ticket x.ticket above.0)

placed_second : (x e : Entry) (es : List Entry) → e.ticket < x.ticket → placed x (e ∷ es) ≡ e ∷ placed x es
placed_second x e es lt = ap (λ b. if b then x ∷ e ∷ es else e ∷ placed x es) (le-ltb x.ticket e.ticket (omega arith))

-- an entry before others that all have greater tickets
order_first : (e : Entry) (es : List Entry) → AreAbove e.ticket es → in_ticket_order (e ∷ es) ≡ e ∷ in_ticket_order es
order_first e es above = placed_first e (in_ticket_order es) (order_above e.ticket es above)

-- entries with greater tickets before others that begin so
order_joined : (xs ys zs : List Entry) (e : Entry) → AreAbove e.ticket xs → in_ticket_order ys ≡ e ∷ in_ticket_order zs → in_ticket_order (xs ++ ys) ≡ e ∷ in_ticket_order (xs ++ zs)
order_joined [] ys zs e above is = is
order_joined (x ∷ xs) ys zs e above is = ap (placed x) (order_joined xs ys zs e above.1 is) ∙ placed_second x e (in_ticket_order (xs ++ zs)) above.0

-- ---- several lists

abbrev pub joined : List (List Entry) → List Entry
joined lists = flat_map (λ es. es) lists

pub joined_map : {X : Type 0} (f : X → List Entry) (xs : List X) → flat_map f xs ≡ joined (map f xs)
joined_map f [] = refl
joined_map f (x ∷ xs) = ap (λ (es : List Entry). f x ++ es) (joined_map f xs)

abbrev pub Avoids : Entry → List Entry → Type 0
Avoids e es = AllByRecursion (λ y. e.ticket ≢ y.ticket) es

list_above : (e : Entry) (es : List Entry) → BeginsNoEarlier e es → Ascend es → Avoids e es → AreAbove e.ticket es
list_above e [] no_earlier ascend avoids = tt
list_above e (x ∷ xs) no_earlier ascend avoids =
    let lt : e.ticket < x.ticket = omega (arith, avoids.0) in
    (lt, all_weaker (λ y. x.ticket < y.ticket) (λ y. e.ticket < y.ticket) (λ y h. omega arith) xs ascend.0)

lists_above : (e : Entry) (lists : List (List Entry)) → AreApart lists → AllByRecursion (BeginsNoEarlier e) lists → AllByRecursion (Avoids e) lists → AreAbove e.ticket (joined lists)
lists_above e [] apart no_earlier avoid = tt
lists_above e (es ∷ lists) apart no_earlier avoid =
    all_joined (λ y. e.ticket < y.ticket) es (joined lists) (list_above e es no_earlier.0 apart.0 avoid.0) (lists_above e lists apart.2 no_earlier.1 avoid.1)

-- an entry that stands in one of the lists is avoided by the list before them
avoids_one : (e : Entry) (es before : List Entry) → ShareNoTicket before (e ∷ es) → Avoids e before
avoids_one e es before share =
    all_weaker (λ x. AllByRecursion (λ y. x.ticket ≢ y.ticket) (e ∷ es)) (λ x. e.ticket ≢ x.ticket) (λ x all same. all.0 (sym same)) before share

avoids_others : (e : Entry) (es before : List Entry) → ShareNoTicket before (e ∷ es) → ShareNoTicket before es
avoids_others e es before share =
    all_weaker (λ x. AllByRecursion (λ y. x.ticket ≢ y.ticket) (e ∷ es)) (λ x. AllByRecursion (λ y. x.ticket ≢ y.ticket) es) (λ x all. all.1) before share

first_list : (e : Entry) (es : List Entry) (lists : List (List Entry)) → AreApart ((e ∷ es) ∷ lists) → AllByRecursion (BeginsNoEarlier e) lists
    → in_ticket_order (joined ((e ∷ es) ∷ lists)) ≡ e ∷ in_ticket_order (joined (es ∷ lists))
first_list e es lists apart no_earlier =
    order_first e (joined (es ∷ lists))
    (all_joined (λ y. e.ticket < y.ticket) es (joined lists) apart.0.0
    (lists_above e lists apart.2 no_earlier (all_weaker (ShareNoTicket (e ∷ es)) (Avoids e) (λ ys share. share.0) lists apart.1)))

-- the entry with the least ticket comes first, and the others as if it had not been there
pub earliest_first : (lists : List (List Entry)) (at : ℕ) (e : Entry) (es : List Entry) → AreApart lists → at < length lists → get_or lists at [] ≡ e ∷ es → AllByRecursion (BeginsNoEarlier e) lists
    → in_ticket_order (joined lists) ≡ e ∷ in_ticket_order (joined (set lists at es))
earliest_first [] at e es apart lt is no_earlier = absurd (omega arith)
earliest_first (xs ∷ lists) zero e es apart lt is no_earlier =
    ap (λ (ys : List Entry). in_ticket_order (joined (ys ∷ lists))) is ∙ first_list e es lists (subst (λ (ys : List Entry). AreApart (ys ∷ lists)) is apart) no_earlier.1
earliest_first (xs ∷ lists) (suc at) e es apart lt is no_earlier =
    let here : at < length lists = omega arith in
    let share : ShareNoTicket xs (e ∷ es) = subst (ShareNoTicket xs) is (at_place (ShareNoTicket xs) lists at [] here apart.1) in
    order_joined xs (joined lists) (joined (set lists at es)) e (list_above e xs no_earlier.0 apart.0 (avoids_one e es xs share))
    (earliest_first lists at e es apart.2 here is no_earlier.1)

pub apart_after : (lists : List (List Entry)) (at : ℕ) (e : Entry) (es : List Entry) → AreApart lists → at < length lists → get_or lists at [] ≡ e ∷ es → AreApart (set lists at es)
apart_after [] at e es apart lt is = absurd (omega arith)
apart_after (xs ∷ lists) zero e es apart lt is =
    let there : AreApart ((e ∷ es) ∷ lists) = subst (λ (ys : List Entry). AreApart (ys ∷ lists)) is apart in
    (there.0.1, all_weaker (ShareNoTicket (e ∷ es)) (ShareNoTicket es) (λ ys share. share.1) lists there.1, there.2)
apart_after (xs ∷ lists) (suc at) e es apart lt is =
    let here : at < length lists = omega arith in
    let share : ShareNoTicket xs (e ∷ es) = subst (ShareNoTicket xs) is (at_place (ShareNoTicket xs) lists at [] here apart.1) in
    (apart.0, all_set (ShareNoTicket xs) lists at es (avoids_others e es xs share) apart.1, apart_after lists at e es apart.2 here is)
