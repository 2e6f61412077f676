-- The periods that are read off a legal history are those of its states.
use Rattle.std.proofs.Common.{◌≡◌, ℕ, ◌<◌, ◌≤◌, ◌⊎◌, Bool, true, false, ◌==◌, if◌then◌else◌, List, [], ◌∷◌, ◌++◌, length, take, drop, Option, Some, None, refl, sym, ap, subst, ◌∙◌, inl, inr, arith}
use Rattle.std.specs.Option.{option_or}
use Rattle.std.proofs.lemmas.List.{take_all, take-append-le, get_or-replicate}
use Rattle.std.proofs.lemmas.Bool.{eqb-true}
use Rattle.mon_types.specs.Shape.{Shape}
use Rattle.mon_types.specs.declared.region.Owner.{Owner}
use Rattle.mon_types.specs.declared.region.Owner.TheVariants as owners
use Rattle.mon_types.specs.declared.region.Region.{Region}
use Rattle.mon_types.specs.declared.region.Region.TheVariants as regions
use Rattle.mon_model.specs.State.{State, start, region_at}
use Rattle.mon_model.specs.RegionStep.{RegionStep, Stays, Ends, Withdrawn, Frees, Begins, Offers}
use Rattle.hist.specs.declared.event.Entry.{Entry}
use Rattle.hist.specs.History.{after_entry}
use Rattle.hist.specs.Period.{was_initialized, is_end, is_freeing, owner_by, owner_of_period}
use Rattle.hist.proofs.Growing.{after_more}
use Rattle.hist.proofs.Periods.{owner_more}
use Rattle.hist_stands.specs.States.{state_now, state_at, IsHistory}
use Rattle.hist_stands.specs.Life.{Life, Lasts}
use Rattle.hist_stands.proofs.Tickets.{length_more}
use Rattle.hist_stands.proofs.Knowing.{Next, below_next, region_next, walk, from_start}
use Rattle.hist_stands.proofs.Living.{life_all}
use Rattle.hist_stands.proofs.Cuts.{take_long, goes_at, whole_again}

-- an entry that makes an owner begins a period
made_is_owned : (k : ℕ) (flushed : List ℕ) (ends freed : Bool) (made : Option Owner) (x y : Region) (owner : Owner)
    → made ≡ Some owner → RegionStep k flushed ends freed made x y → y ≡ regions.Owned owner k
made_is_owned k flushed ends freed made x y owner is (Stays same e f none) = cc
made_is_owned k flushed ends freed made x y owner is (Ends o a p q e f none) = cc
made_is_owned k flushed ends freed made x y owner is (Withdrawn to a p q e f none) = cc
made_is_owned k flushed ends freed made x y owner is (Frees o a b p q all e f none) = cc
made_is_owned k flushed ends freed made x y owner is (Begins o may q e f some) =
    let same : o ≡ owner = cc in
    q ∙ ap (λ (w : Owner). regions.Owned w k) same
made_is_owned k flushed ends freed made x y owner is (Offers to p q e f none) = cc

-- an owner that was known, or is made now
known_or_made : (known : Option Owner) (b : Bool) (made : Option Owner) (owner : Owner)
    → option_or known (if b then made else None) ≡ Some owner
    → (known ≡ Some owner) ⊎ ((b ≡ true) × (made ≡ Some owner))
known_or_made (Some x) b made owner is = inl is
known_or_made None true made owner is = inr (refl, is)
known_or_made None false made owner is = cc

-- each period so far began with its region Owned
abbrev AllBegin : Shape → List Entry → Type 0
AllBegin shape gone =
    (r a : ℕ) (owner : Owner) → r < shape.regions → owner_of_period gone r a ≡ Some owner
    → (a ≤ length gone) × (region_at (state_at shape gone a) r ≡ regions.Owned owner a)

begin_start : (shape : Shape) → AllBegin shape []
begin_start shape r a owner lt is = by (a == 0) refl is
  where
    by : (b : Bool) → (a == 0) ≡ b → (if b then Some owners.Os else None) ≡ Some owner
        → (a ≤ 0) × (region_at (state_at shape [] a) r ≡ regions.Owned owner a)
    by false zero made = cc
    by true zero made =
        let none : 0 ≡ a = sym (eqb-true a 0 zero) in
        let whose : owners.Os ≡ owner = cc in (
          omega (arith, none),
          subst (λ (i : ℕ). region_at (state_at shape [] i) r ≡ regions.Owned owner i) none
              (get_or-replicate shape.regions r (regions.Owned owners.Os 0) regions.Free lt
              ∙ ap (λ (o : Owner). regions.Owned o 0) whose),
        )

begin_next : (shape : Shape) (gone : List Entry) (s : State) (e : Entry) → Next shape gone s e
    → s ≡ state_now shape gone → AllBegin shape gone → AllBegin shape (gone ++ e ∷ [])
begin_next shape gone s e next is all r a owner lt made =
    elim (known_or_made (owner_of_period gone r a) (e.ticket == a) (owner_by r (was_initialized gone) e) owner
    (sym (owner_more gone e r a (below_next shape gone s e next)) ∙ made)) [
      | inl known ↦
          let before = all r a owner lt known in (
            omega (arith, before.0, length_more gone e),
            ap (λ (es : List Entry). region_at (state_now shape es) r) (take-append-le a gone (e ∷ []) before.0)
                ∙ before.1,
          )
      | inr now ↦
          let at : e.ticket ≡ a = eqb-true e.ticket a now.0 in (
            omega (arith, at, next.ticket, length_more gone e),
            ap (λ (es : List Entry). region_at (state_now shape es) r)
                (take_all a (gone ++ e ∷ []) (omega (arith, at, next.ticket, length_more gone e)))
                ∙ ap (λ (t : State). region_at t r)
                (after_more (start shape) gone e ∙ ap (λ (t : State). after_entry t e) (sym is))
                ∙ made_is_owned e.ticket s.flushed (is_end r e) (is_freeing r e) (owner_by r (was_initialized gone) e)
                (region_at s r) (region_at (after_entry s e) r) owner now.1 (region_next shape gone s e next r lt)
                ∙ ap (λ (i : ℕ). regions.Owned owner i) at,
          )
    ]

pub periods_begin : (shape : Shape) (h : List Entry) → IsHistory shape h → (r a : ℕ) (owner : Owner)
    → r < shape.regions → owner_of_period h r a ≡ Some owner
    → (a ≤ length h) × (region_at (state_at shape h a) r ≡ regions.Owned owner a)
periods_begin shape h history =
    (walk shape (λ gone s. (s ≡ state_now shape gone) × AllBegin shape gone)
    (λ gone s e next both. (
      ap (λ (t : State). after_entry t e) both.0
          ∙ sym (after_more (start shape) gone e),
      begin_next shape gone s e next both.0 both.1,
    ))
    [] (start shape) h (from_start shape h history) (refl, begin_start shape)).1

-- from then on it lasts, or was ended, or was freed
pub periods_go_on : (shape : Shape) (h : List Entry) → IsHistory shape h → (r a : ℕ) (owner : Owner)
    → r < shape.regions → owner_of_period h r a ≡ Some owner → Life shape h (state_now shape h) a r owner a
periods_go_on shape h history r a owner lt is =
    let begins = periods_begin shape h history r a owner lt is in
    let goes = goes_at shape h a history begins.0 in
    whole_again shape h a (λ es t. Life shape es t a r owner a)
    (life_all shape (take a h) (state_at shape h a) (drop a h) goes a r owner a (omega arith)
    (omega (arith, take_long h a begins.0)) lt
    (Lasts begins.1 (goes.known.owned r lt owner a begins.1).lasts))
