-- What one more entry tells of a period's beginning and of its ends.
use Rattle.std.proofs.Common.{◌≡◌, ℕ, ◌+◌, ◌<◌, ◌≤◌, Bool, true, false, ◌==◌, ◌&&◌, nat_lt, if◌then◌else◌, List, [], ◌∷◌, ◌++◌, length, Option, Some, None, option_and_then, refl, sym, ap, subst, ◌∙◌, arith}
use Rattle.std.proofs.Math.Nat.{le_refl}
use Rattle.std.specs.Option.{option_or}
use Rattle.std.specs.List.{AllByRecursion, fold}
use Rattle.std.proofs.lemmas.List.{length-append}
use Rattle.std.proofs.lemmas.Bool.{eq-eqb, ne_eqb, lt-ltb}
use Rattle.mon_types.specs.declared.region.Owner.{Owner}
use Rattle.mon_types.specs.declared.region.Owner.TheVariants as owners
use Rattle.mon_types.specs.declared.region.Region.{Region}
use Rattle.mon_types.specs.declared.region.Region.TheVariants as regions
use Rattle.mon_model.specs.RegionStep.{is_owned}
use Rattle.mon_model.proofs.RegionSteps.{refused}
use Rattle.hist.specs.declared.event.Entry.{Entry}
use Rattle.hist.specs.Legal.{AreTickets}
use Rattle.hist.specs.Period.{ticket_after, entry_at, entries_below, owner_by, owner_of_period, was_initialized}
use Rattle.mon_types.specs.Replies.{is_done}
use Rattle.mon_model.specs.OnCore.{is_flush}
use Rattle.hist.proofs.Ordered.{all_weaker, all_joined}
use Rattle.hist_stands.specs.Known.{last_flush}
use Rattle.hist.proofs.Periods.{AreBelow, or_this, ticket_after_more, none_found, owner_more}

-- ---- tickets

pub length_more : (gone : List Entry) (e : Entry) → length (gone ++ e ∷ []) ≡ length gone + 1
length_more gone e = length-append gone (e ∷ []) ∙ omega arith

pub tickets_below : (k : ℕ) (es : List Entry) → AreTickets k es → AllByRecursion (λ e. e.ticket < k + length es) es
tickets_below k [] tickets = tt
tickets_below k (e ∷ es) tickets = (
  omega (arith, tickets.0),
  all_weaker (λ x. x.ticket < k + 1 + length es) (λ x. x.ticket < k + length (e ∷ es))
      (λ x lt. omega arith) es (tickets_below (k + 1) es tickets.1),
)

pub tickets_from : (k low : ℕ) (es : List Entry) → k < low → AreTickets low es → AllByRecursion (λ e. k < e.ticket) es
tickets_from k low [] lt tickets = tt
tickets_from k low (e ∷ es) lt tickets = (omega (arith, tickets.0), tickets_from k (low + 1) es (omega arith) tickets.1)

pub up_to_this : (gone : List Entry) (e : Entry) → AreBelow e gone
    → AllByRecursion (λ x. x.ticket ≤ e.ticket) (gone ++ e ∷ [])
up_to_this gone e below =
    all_joined (λ x. x.ticket ≤ e.ticket) gone (e ∷ [])
    (all_weaker (λ x. x.ticket < e.ticket) (λ x. x.ticket ≤ e.ticket) (λ x lt. omega arith) gone below)
    (le_refl e.ticket, tt)

-- ---- the first ticket that passes a test

-- what one more entry makes of it
more_by : (gone : List Entry) (e : Entry) (t : ℕ) (test : Entry → Bool) (known : Option ℕ) (passes : Bool)
    → ticket_after gone t test ≡ known → (nat_lt t e.ticket && test e) ≡ passes
    → ticket_after (gone ++ e ∷ []) t test ≡ or_this known passes e.ticket
more_by gone e t test known passes is so =
    ticket_after_more gone e t test ∙ ap (λ (o : Option ℕ). or_this o (nat_lt t e.ticket && test e) e.ticket) is
    ∙ ap (λ b. or_this known b e.ticket) so

and_fails : (b c : Bool) → c ≡ false → (b && c) ≡ false
and_fails true c fails = fails
and_fails false c fails = refl

and_passes : (b c : Bool) → b ≡ true → c ≡ true → (b && c) ≡ true
and_passes b c one two = ap (λ x. x && c) one ∙ two

pub still_none : (gone : List Entry) (e : Entry) (t : ℕ) (test : Entry → Bool) → ticket_after gone t test ≡ None
    → test e ≡ false → ticket_after (gone ++ e ∷ []) t test ≡ None
still_none gone e t test none fails = more_by gone e t test None false none
    (and_fails (nat_lt t e.ticket) (test e) fails)

pub still_some : (gone : List Entry) (e : Entry) (t x : ℕ) (test : Entry → Bool) → ticket_after gone t test ≡ Some x
    → ticket_after (gone ++ e ∷ []) t test ≡ Some x
still_some gone e t x test is = more_by gone e t test (Some x) (nat_lt t e.ticket && test e) is refl

pub now_some : (gone : List Entry) (e : Entry) (t : ℕ) (test : Entry → Bool) → ticket_after gone t test ≡ None
    → test e ≡ true → t < e.ticket → ticket_after (gone ++ e ∷ []) t test ≡ Some e.ticket
now_some gone e t test none passes lt = more_by gone e t test None true none
    (and_passes (nat_lt t e.ticket) (test e) (lt-ltb t e.ticket lt) passes)

-- an entry ends nothing where the region stays owned
pub not_ended : (ends : Bool) (x : Region) (owner : Owner) (a : ℕ) → (ends && is_owned x) ≡ false
    → x ≡ regions.Owned owner a → ends ≡ false
not_ended ends x owner a unended is = by ends (subst (λ (y : Region). (ends && is_owned y) ≡ false) is unended)
  where
    by : (b : Bool) → (b && true) ≡ false → b ≡ false
    by true is_false = refused (sym is_false)
    by false is_false = refl

-- ---- the owner of a period

pub made_still : (gone : List Entry) (e : Entry) (r a : ℕ) (owner : Owner) → AreBelow e gone
    → owner_of_period gone r a ≡ Some owner → owner_of_period (gone ++ e ∷ []) r a ≡ Some owner
made_still gone e r a owner below is =
    owner_more gone e r a below
    ∙ ap (λ (o : Option Owner). option_or o
    (if e.ticket == a then owner_by r (was_initialized gone) e else None)) is

pub made_now : (gone : List Entry) (e : Entry) (r : ℕ) (owner : Owner) → AreBelow e gone → 0 < e.ticket
    → owner_by r (was_initialized gone) e ≡ Some owner
    → owner_of_period (gone ++ e ∷ []) r e.ticket ≡ Some owner
made_now gone e r owner below positive is =
    owner_more gone e r e.ticket below
    ∙ ap (λ (o : Option Owner). option_or o
    (if e.ticket == e.ticket then owner_by r (was_initialized gone) e else None)) none
    ∙ ap (λ b. if b then owner_by r (was_initialized gone) e else None) (eq-eqb e.ticket e.ticket refl) ∙ is
  where
    none : owner_of_period gone r e.ticket ≡ None
    none =
        ap (λ b. if b then Some owners.Os else option_and_then
        (owner_by r (was_initialized (entries_below gone e.ticket))) (entry_at gone e.ticket))
        (ne_eqb e.ticket 0 (λ zero. absurd (omega arith)))
        ∙ ap (option_and_then (owner_by r (was_initialized (entries_below gone e.ticket)))) (none_found e gone below)

-- ---- flushes

last_below : (k before : ℕ) (es : List Entry) → before ≤ k → AllByRecursion (λ e. e.ticket ≤ k) es
    → fold (λ x e. if is_done e.reply && is_flush e.call then e.ticket else x) before es ≤ k
last_below k before [] le all = le
last_below k before (e ∷ es) le all =
    last_below k (if is_done e.reply && is_flush e.call then e.ticket else before) es
    (elim (is_done e.reply && is_flush e.call) as
    (λ b. (if b then e.ticket else before) ≤ k) [ true ↦ all.0 | false ↦ le ])
    all.1

pub last_flush_below : (k : ℕ) (es : List Entry) → AllByRecursion (λ e. e.ticket ≤ k) es → last_flush es ≤ k
last_flush_below k es all = last_below k 0 es (omega arith) all
