-- What one more entry tells of a period.
use Rattle.std.proofs.Common.{◌≡◌, ℕ, ◌<◌, ◌≤◌, Bool, true, false, ◌==◌, ◌&&◌, nat_lt, if◌then◌else◌, List, [], ◌∷◌, ◌++◌, Option, Some, None, find, option_and_then, refl, sym, ap, subst, ◌∙◌, arith, eqb, append-nil}
use Rattle.std.proofs.Math.Nat.{le_refl}
use Rattle.std.specs.Option.{option_map, option_or}
use Rattle.std.specs.List.{AllByRecursion}
use Rattle.std.proofs.lemmas.List.Folds.{find-append}
use Rattle.std.proofs.lemmas.List.Elements.{filter-append}
use Rattle.std.proofs.lemmas.Bool.{lt-ltb, le-ltb, eqb-true, ne_eqb}
use Rattle.mon_types.specs.declared.region.Owner.{Owner}
use Rattle.mon_types.specs.declared.region.Owner.TheVariants as owners
use Rattle.hist.specs.declared.event.Entry.{Entry}
use Rattle.hist.specs.declared.period.Period.{Period}
use Rattle.hist.specs.Period.{is_end, is_freeing, ticket_after, period_with, period_in, entry_at, entries_below, owner_by, owner_of_period, was_initialized}
use Rattle.hist.specs.Walk.{go_on, known_after, begun_period}
use Rattle.hist.proofs.Ordered.{all_weaker, all_joined}

abbrev pub AreBelow : Entry → List Entry → Type 0
AreBelow e es = AllByRecursion (λ x. x.ticket < e.ticket) es

-- ---- the end of a period

-- a ticket that was known, or that of one more entry where it passes
abbrev pub or_this : Option ℕ → Bool → ℕ → Option ℕ
or_this known passes ticket = option_or known (if passes then Some ticket else None)

map_or : (x y : Option Entry) → option_map (λ e. e.ticket) (option_or x y) ≡ option_or (option_map (λ e. e.ticket) x) (option_map (λ e. e.ticket) y)
map_or None y = refl
map_or (Some e) y = refl

map_if : (b : Bool) (e : Entry) → option_map (λ x. x.ticket) (if b then Some e else None) ≡ (if b then Some e.ticket else None)
map_if true e = refl
map_if false e = refl

pub ticket_after_more : (gone : List Entry) (e : Entry) (t : ℕ) (test : Entry → Bool) → ticket_after (gone ++ e ∷ []) t test ≡ or_this (ticket_after gone t test) (nat_lt t e.ticket && test e) e.ticket
ticket_after_more gone e t test =
    let passes : Entry → Bool = λ x. nat_lt t x.ticket && test x in
    ap (option_map (λ x. x.ticket)) (find-append passes gone (e ∷ [])) ∙ map_or (find passes gone) (find passes (e ∷ [])) ∙ ap (option_or (ticket_after gone t test)) (map_if (passes e) e)

pub none_after : (es : List Entry) (t : ℕ) (test : Entry → Bool) → AllByRecursion (λ x. x.ticket ≤ t) es → ticket_after es t test ≡ None
none_after [] t test all = refl
none_after (x ∷ es) t test all =
    ap (λ b. option_map (λ e. e.ticket) (if b && test x then Some x else find (λ e. nat_lt t e.ticket && test e) es)) (le-ltb t x.ticket all.0) ∙ none_after es t test all.1

-- a period with these ends
abbrev with_ends : ℕ → ℕ → Owner → Option ℕ → Option ℕ → Period
with_ends r a owner b z = record { region = r; owner = owner; since = a; blocked = b; freed = z }

-- z, where b is known
abbrev freed_in : List Entry → ℕ → Option ℕ → Option ℕ
freed_in h r b = option_and_then (λ at. ticket_after h at (is_freeing r)) b

goes_free : (r a : ℕ) (owner : Owner) (e : Entry) (at : ℕ) (z : Option ℕ)
    → go_on (with_ends r a owner (Some at) z) e (Some at) z ≡ with_ends r a owner (Some at) (or_this z (nat_lt at e.ticket && is_freeing r e) e.ticket)
goes_free r a owner e at (Some z) = refl
goes_free r a owner e at None =
    elim (nat_lt at e.ticket && is_freeing r e) as (λ c. (if c then with_ends r a owner (Some at) (Some e.ticket) else with_ends r a owner (Some at) None) ≡ with_ends r a owner (Some at) (if c then Some e.ticket else None)) [
      | true ↦ refl
      | false ↦ refl
    ]

goes_on : (gone : List Entry) (e : Entry) (r a : ℕ) (owner : Owner) → AreBelow e gone → (b : Option ℕ)
    → go_on (with_ends r a owner b (freed_in gone r b)) e b (freed_in gone r b)
    ≡ with_ends r a owner (or_this b (nat_lt a e.ticket && is_end r e) e.ticket) (freed_in (gone ++ e ∷ []) r (or_this b (nat_lt a e.ticket && is_end r e) e.ticket))
goes_on gone e r a owner below (Some at) =
    goes_free r a owner e at (ticket_after gone at (is_freeing r)) ∙ ap (with_ends r a owner (Some at)) (sym (ticket_after_more gone e at (is_freeing r)))
goes_on gone e r a owner below None =
    let none : ticket_after (gone ++ e ∷ []) e.ticket (is_freeing r) ≡ None = none_after (gone ++ e ∷ []) e.ticket (is_freeing r) (all_joined (λ x. x.ticket ≤ e.ticket) gone (e ∷ []) (all_weaker (λ x. x.ticket < e.ticket) (λ x. x.ticket ≤ e.ticket) (λ x lt. omega arith) gone below) (le_refl e.ticket, tt)) in
    elim (nat_lt a e.ticket && is_end r e) as (λ c. (if c then with_ends r a owner (Some e.ticket) None else with_ends r a owner None None) ≡ with_ends r a owner (if c then Some e.ticket else None) (freed_in (gone ++ e ∷ []) r (if c then Some e.ticket else None))) [
      | true ↦ ap (with_ends r a owner (Some e.ticket)) (sym none)
      | false ↦ refl
    ]

-- a period that has begun, after one more entry
goes_on_with : (gone : List Entry) (e : Entry) (r a : ℕ) (owner : Owner) → AreBelow e gone
    → go_on (period_with gone r a owner) e (ticket_after gone a (is_end r)) (freed_in gone r (ticket_after gone a (is_end r))) ≡ period_with (gone ++ e ∷ []) r a owner
goes_on_with gone e r a owner below =
    goes_on gone e r a owner below (ticket_after gone a (is_end r))
    ∙ ap (λ (b : Option ℕ). with_ends r a owner b (freed_in (gone ++ e ∷ []) r b)) (sym (ticket_after_more gone e a (is_end r)))

-- a period that begins at the entry
begins_with : (gone : List Entry) (e : Entry) (r : ℕ) (owner : Owner) → AreBelow e gone → begun_period r e.ticket owner ≡ period_with (gone ++ e ∷ []) r e.ticket owner
begins_with gone e r owner below =
    let none : ticket_after (gone ++ e ∷ []) e.ticket (is_end r) ≡ None = none_after (gone ++ e ∷ []) e.ticket (is_end r) (all_joined (λ x. x.ticket ≤ e.ticket) gone (e ∷ []) (all_weaker (λ x. x.ticket < e.ticket) (λ x. x.ticket ≤ e.ticket) (λ x lt. omega arith) gone below) (le_refl e.ticket, tt)) in
    ap (λ (b : Option ℕ). with_ends r e.ticket owner b (freed_in (gone ++ e ∷ []) r b)) (sym none)

begun_as : (gone : List Entry) (e : Entry) (r a : ℕ) → AreBelow e gone → e.ticket ≡ a → (o : Option Owner) → option_map (begun_period r a) o ≡ option_map (period_with (gone ++ e ∷ []) r a) o
begun_as gone e r a below is None = refl
begun_as gone e r a below is (Some owner) = ap Some (subst (λ (t : ℕ). begun_period r t owner ≡ period_with (gone ++ e ∷ []) r t owner) is (begins_with gone e r owner below))

-- ---- its beginning

or_none : {X : Type 0} (o : Option X) → option_or o None ≡ o
or_none None = refl
or_none (Some x) = refl

none_or : {X : Type 0} (o p : Option X) → o ≡ None → option_or o p ≡ p
none_or o p none = ap (λ q. option_or q p) none

-- an entry with that ticket stands before e, so e has a greater one
found_below : (e : Entry) (es : List Entry) (a : ℕ) (x : Entry) → AreBelow e es → entry_at es a ≡ Some x → a < e.ticket
found_below e [] a x below is = cc
found_below e (y ∷ es) a x below is =
    (elim (eqb y.ticket a) as (λ b. eqb y.ticket a ≡ b → (if b then Some y else entry_at es a) ≡ Some x → a < e.ticket) [
      | true ↦ λ same found. omega (arith, eqb-true y.ticket a same, below.0)
      | false ↦ λ other found. found_below e es a x below.1 found
    ])
    refl is

pub none_found : (e : Entry) (es : List Entry) → AreBelow e es → entry_at es e.ticket ≡ None
none_found e [] below = refl
none_found e (x ∷ es) below =
    ap (λ b. if b then Some x else entry_at es e.ticket) (ne_eqb x.ticket e.ticket (omega (arith, below.0))) ∙ none_found e es below.1

all_kept : (e : Entry) (es : List Entry) → AreBelow e es → entries_below es e.ticket ≡ es
all_kept e [] below = refl
all_kept e (x ∷ es) below =
    ap (λ b. if b then x ∷ entries_below es e.ticket else entries_below es e.ticket) (lt-ltb x.ticket e.ticket below.0) ∙ ap (λ (xs : List Entry). x ∷ xs) (all_kept e es below.1)

-- an entry that is not below the ticket changes nothing of what is
none_more : (gone : List Entry) (e : Entry) (a : ℕ) → a ≤ e.ticket → entries_below (gone ++ e ∷ []) a ≡ entries_below gone a
none_more gone e a le =
    filter-append (λ x. nat_lt x.ticket a) gone (e ∷ [])
    ∙ ap (λ b. entries_below gone a ++ (if b then e ∷ [] else [])) (le-ltb e.ticket a le) ∙ append-nil (entries_below gone a)

-- the owner of a period, by the entry at which it begins and the entries below that
abbrev owner_from : ℕ → List Entry → Option Entry → Option Owner
owner_from r before o = option_and_then (owner_by r (was_initialized before)) o

owner_from_same : (gone : List Entry) (e : Entry) (r a : ℕ) (o : Option Entry) → ((x : Entry) → o ≡ Some x → a < e.ticket) → owner_from r (entries_below (gone ++ e ∷ []) a) o ≡ owner_from r (entries_below gone a) o
owner_from_same gone e r a None found = refl
owner_from_same gone e r a (Some x) found =
    let le : a ≤ e.ticket = omega (arith, found x refl) in
    ap (λ (es : List Entry). owner_by r (was_initialized es) x) (none_more gone e a le)

owner_from_more : (gone : List Entry) (e : Entry) (r a : ℕ) → AreBelow e gone → (b : Bool) → eqb e.ticket a ≡ b
    → owner_from r (entries_below (gone ++ e ∷ []) a) (option_or (entry_at gone a) (if b then Some e else None))
    ≡ option_or (owner_from r (entries_below gone a) (entry_at gone a)) (if b then owner_by r (was_initialized gone) e else None)
owner_from_more gone e r a below false other =
    ap (owner_from r (entries_below (gone ++ e ∷ []) a)) (or_none (entry_at gone a))
    ∙ owner_from_same gone e r a (entry_at gone a) (λ x found. found_below e gone a x below found)
    ∙ sym (or_none (owner_from r (entries_below gone a) (entry_at gone a)))
owner_from_more gone e r a below true same =
    let is : e.ticket ≡ a = eqb-true e.ticket a same in
    let none : entry_at gone a ≡ None = subst (λ (t : ℕ). entry_at gone t ≡ None) is (none_found e gone below) in
    let kept : entries_below (gone ++ e ∷ []) a ≡ gone =
    subst (λ (t : ℕ). entries_below (gone ++ e ∷ []) t ≡ gone) is (none_more gone e e.ticket (le_refl e.ticket) ∙ all_kept e gone below) in
    ap (owner_from r (entries_below (gone ++ e ∷ []) a)) (none_or (entry_at gone a) (Some e) none)
    ∙ ap (λ (es : List Entry). owner_by r (was_initialized es) e) kept
    ∙ sym (none_or (owner_from r (entries_below gone a) (entry_at gone a)) (owner_by r (was_initialized gone) e) (ap (owner_from r (entries_below gone a)) none))

pub owner_more : (gone : List Entry) (e : Entry) (r a : ℕ) → AreBelow e gone
    → owner_of_period (gone ++ e ∷ []) r a ≡ option_or (owner_of_period gone r a) (if e.ticket == a then owner_by r (was_initialized gone) e else None)
owner_more gone e r a below =
    let found : owner_from r (entries_below (gone ++ e ∷ []) a) (entry_at (gone ++ e ∷ []) a) ≡ option_or (owner_from r (entries_below gone a) (entry_at gone a)) (if e.ticket == a then owner_by r (was_initialized gone) e else None) =
    ap (owner_from r (entries_below (gone ++ e ∷ []) a)) (find-append (λ x. x.ticket == a) gone (e ∷ [])) ∙ owner_from_more gone e r a below (eqb e.ticket a) refl in
    elim (a == 0) as (λ b. (if b then Some owners.Os else owner_from r (entries_below (gone ++ e ∷ []) a) (entry_at (gone ++ e ∷ []) a))
    ≡ option_or (if b then Some owners.Os else owner_from r (entries_below gone a) (entry_at gone a)) (if e.ticket == a then owner_by r (was_initialized gone) e else None)) [
      | true ↦ refl
      | false ↦ found
    ]

-- ---- both

known_more : (gone : List Entry) (e : Entry) (r a : ℕ) (initialized : ℕ → Bool) → AreBelow e gone → (o : Option Owner)
    → known_after r a initialized (option_map (period_with gone r a) o) e ≡ option_map (period_with (gone ++ e ∷ []) r a) (option_or o (if e.ticket == a then owner_by r initialized e else None))
known_more gone e r a initialized below (Some owner) = ap Some (goes_on_with gone e r a owner below)
known_more gone e r a initialized below None =
    (elim (e.ticket == a) as (λ b. e.ticket == a ≡ b → (if b then option_map (begun_period r a) (owner_by r initialized e) else None) ≡ option_map (period_with (gone ++ e ∷ []) r a) (if b then owner_by r initialized e else None)) [
      | true ↦ λ same. begun_as gone e r a below (eqb-true e.ticket a same) (owner_by r initialized e)
      | false ↦ λ other. refl
    ])
    refl

-- what is known of a period after one more entry is what all of them tell
pub period_next : (gone : List Entry) (e : Entry) (r a : ℕ) (initialized : ℕ → Bool) → AreBelow e gone → owner_by r initialized e ≡ owner_by r (was_initialized gone) e
    → known_after r a initialized (period_in gone r a) e ≡ period_in (gone ++ e ∷ []) r a
period_next gone e r a initialized below same =
    known_more gone e r a initialized below (owner_of_period gone r a)
    ∙ ap (λ (o : Option Owner). option_map (period_with (gone ++ e ∷ []) r a) (option_or (owner_of_period gone r a) (if e.ticket == a then o else None))) same
    ∙ ap (option_map (period_with (gone ++ e ∷ []) r a)) (sym (owner_more gone e r a below))
