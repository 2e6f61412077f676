-- What a legal history tells of its states, entry by entry (`Known`), and a walk along it.
use Rattle.std.proofs.Common.{◌≡◌, ℕ, ◌+◌, ◌<◌, ◌≤◌, true, false, ◌==◌, if◌then◌else◌, List, [], ◌∷◌, ◌++◌, length, Some, refl, sym, ap, subst, ◌∙◌, inl, inr, arith, append-nil, append_assoc, replicate}
use Rattle.std.specs.List.{slice_index_or}
use Rattle.std.proofs.lemmas.List.{length-replicate, get_or-replicate, get_or_past}
use Rattle.std.proofs.lemmas.List.Sums.{fold-append}
use Rattle.std.proofs.lemmas.List.Elements.{filter-append}
use Rattle.std.proofs.lemmas.Bool.{cases_lt}
use Rattle.mon_types.specs.Shape.{Shape}
use Rattle.mon_types.specs.Enclaves.{empty_enclave}
use Rattle.mon_types.specs.declared.region.Owner.{Owner}
use Rattle.mon_types.specs.declared.region.Owner.TheVariants as owners
use Rattle.mon_types.specs.declared.region.Region.TheVariants as regions
use Rattle.mon_types.specs.declared.enclave.Enclave.{Enclave}
use Rattle.mon_types.specs.declared.enclave.Stage.TheVariants as stages
use Rattle.mon_types.specs.declared.thread.Mode.{Mode}
use Rattle.mon_types.specs.declared.thread.Mode.TheVariants as modes
use Rattle.mon_model.specs.State.{State, start, region_at, enclave_at, mode_of, flushed_at}
use Rattle.mon_model.specs.RegionCalls.{is_loading, is_initialized}
use Rattle.mon_model.specs.RegionStep.{RegionStep, Stays, Ends, Withdrawn, Frees, Begins, Offers, FlagsStage}
use Rattle.mon_model.proofs.Whole.{starts}
use Rattle.mon_model.proofs.RegionSteps.{refused}
use Rattle.hist.specs.declared.event.Entry.{Entry}
use Rattle.hist.specs.History.{after_entry, after_entries}
use Rattle.hist.specs.Legal.{IsLegalEntry, AreTickets, AreLegalEntries}
use Rattle.hist.specs.Period.{initialized_after, was_initialized, is_end, is_freeing, owner_by}
use Rattle.hist.specs.SafeLog.{mode_after}
use Rattle.hist.specs.Busy.{own}
use Rattle.hist.proofs.Ordered.{all_weaker}
use Rattle.hist.proofs.Periods.{AreBelow, none_after}
use Rattle.hist_stands.specs.States.{state_now, IsHistory}
use Rattle.hist_stands.specs.Known.{last_flush, OwnedSince, Known}
use Rattle.hist_stands.proofs.Entries.{EntryStep, entry_step, region_after, stages_after, inside_next, mode_next, mode_at, flush_next, cell_told, whole_after, machine_after}
use Rattle.hist_stands.proofs.Tickets.{length_more, up_to_this, still_none, not_ended, made_still, made_now}

-- ---- one entry behind others

-- the next entry of a legal history, where s is the state after the entries before it
pub record Next (shape : Shape) (gone : List Entry) (s : State) (e : Entry) : Type 0 where
  pub known : Known shape gone s
  pub ticket : e.ticket ≡ length gone + 1
  pub legal : IsLegalEntry s e

module _ (shape : Shape) (gone : List Entry) (s : State) (e : Entry) (next : Next shape gone s e) where
  pub below_next : AreBelow e gone
  below_next = all_weaker (λ x. x.ticket ≤ length gone) (λ x. x.ticket < e.ticket)
      (λ x le. omega (arith, next.ticket)) gone next.known.drawn

  pub step_next : EntryStep s e (after_entry s e)
  step_next = entry_step s e next.legal

  pub region_next : (r : ℕ) → r < shape.regions
      → RegionStep e.ticket s.flushed (is_end r e) (is_freeing r e) (owner_by r (was_initialized gone) e)
      (region_at s r) (region_at (after_entry s e) r)
  region_next r lt =
      region_after s e (after_entry s e) r
      (was_initialized gone) step_next next.known.whole next.known.stages next.known.inside
      (subst (λ (m : Shape). r < m.regions) (sym next.known.shaped) lt)

  owned_next : (r : ℕ) → r < shape.regions → (owner : Owner) (a : ℕ)
      → region_at (after_entry s e) r ≡ regions.Owned owner a
      → RegionStep e.ticket s.flushed (is_end r e) (is_freeing r e) (owner_by r (was_initialized gone) e)
      (region_at s r) (region_at (after_entry s e) r)
      → OwnedSince (gone ++ e ∷ []) r owner a
  owned_next r lt owner a is (Stays same ends freed made) =
      let was : region_at s r ≡ regions.Owned owner a = sym same ∙ is in
      let before = next.known.owned r lt owner a was in
      record {
        since = omega (arith, before.since, length_more gone e);
        made = made_still gone e r a owner below_next before.made;
        lasts = still_none gone e a (is_end r) before.lasts (not_ended (is_end r e) (region_at s r) owner a ends was);
      }
  owned_next r lt owner a is (Ends other b x y ends freed made) = cc
  owned_next r lt owner a is (Withdrawn to b x y ends freed made) = cc
  owned_next r lt owner a is (Frees other b c x y all ends freed made) = cc
  owned_next r lt owner a is (Begins other may y ends freed made) =
      let at : e.ticket ≡ a = cc in
      let whose : other ≡ owner = cc in
      subst (λ (i : ℕ). OwnedSince (gone ++ e ∷ []) r owner i) at (record {
        since = omega (arith, next.ticket, length_more gone e);
        made = made_now gone e r owner below_next (omega (arith, next.ticket)) (made ∙ ap Some whose);
        lasts = none_after (gone ++ e ∷ []) e.ticket (is_end r) (up_to_this gone e below_next);
      })
  owned_next r lt owner a is (Offers to x y ends freed made) = cc

  modes_more : (core : ℕ) → core < shape.cores → mode_of (after_entry s e) core ≡ mode_after (own core (gone ++ e ∷ []))
  modes_more core lt =
      mode_at s e (after_entry s e) step_next core
      (omega (arith, next.known.whole.modes, ap (λ (m : Shape). m.cores) next.known.shaped))
      ∙ ap (λ (m : Mode). if e.core == core then mode_next m e else m) (next.known.modes core lt)
      ∙ (elim (e.core == core) as
      (λ b. (if b then mode_next (mode_after (own core gone)) e else mode_after (own core gone))
      ≡ mode_after (own core gone ++ (if b then e ∷ [] else []))) [
        | true ↦ sym (fold-append mode_next modes.Os (own core gone) (e ∷ []))
        | false ↦ ap mode_after (sym (append-nil (own core gone)))
      ])
      ∙ ap mode_after (sym (filter-append (λ (x : Entry). x.core == core) gone (e ∷ [])))

  cells_more : (core : ℕ) → core < shape.cores
      → flushed_at (after_entry s e) core ≡ last_flush (own core (gone ++ e ∷ []))
  cells_more core lt =
      cell_told s e (after_entry s e) step_next core
      (omega (arith, lt, next.known.whole.flushed, ap (λ (m : Shape). m.cores) next.known.shaped))
      ∙ ap (λ (cell : ℕ). if e.core == core then flush_next cell e else cell) (next.known.cells core lt)
      ∙ (elim (e.core == core) as
      (λ b. (if b then flush_next (last_flush (own core gone)) e else last_flush (own core gone))
      ≡ last_flush (own core gone ++ (if b then e ∷ [] else []))) [
        | true ↦ sym (fold-append flush_next 0 (own core gone) (e ∷ []))
        | false ↦ ap last_flush (sym (append-nil (own core gone)))
      ])
      ∙ ap last_flush (sym (filter-append (λ (x : Entry). x.core == core) gone (e ∷ [])))

  flag_more : (slot : ℕ) → initialized_after slot (was_initialized gone slot) e ≡ was_initialized (gone ++ e ∷ []) slot
  flag_more slot = sym (fold-append (initialized_after slot) false gone (e ∷ []))

  pub known_next : Known shape (gone ++ e ∷ []) (after_entry s e)
  known_next = record {
    whole = whole_after s e next.known.whole;
    shaped = machine_after s e ∙ next.known.shaped;
    drawn = all_weaker (λ x. x.ticket ≤ e.ticket) (λ x. x.ticket ≤ length (gone ++ e ∷ []))
        (λ x le. omega (arith, next.ticket, length_more gone e)) (gone ++ e ∷ []) (up_to_this gone e below_next);
    inside = inside_next s e (after_entry s e) step_next next.known.inside;
    stages = λ slot. subst (λ b. FlagsStage b (enclave_at (after_entry s e) slot).stage) (flag_more slot)
        (stages_after s e (after_entry s e) (was_initialized gone) step_next next.known.stages slot);
    modes = modes_more;
    cells = cells_more;
    owned = λ r lt owner a is. owned_next r lt owner a is (region_next r lt);
  }

-- ---- the start

-- a list of one value over and over has no other, past its end either
everywhere : {X : Type 0} (n i : ℕ) (x : X) → slice_index_or (replicate n x) i x ≡ x
everywhere n i x = elim (cases_lt i n) [
  | inl lt ↦ get_or-replicate n i x x lt
  | inr past ↦ get_or_past (replicate n x) i x (omega (arith, length-replicate n x))
]

pub known_start : (shape : Shape) → Known shape [] (start shape)
known_start shape = record {
  whole = starts shape;
  shaped = refl;
  drawn = tt;
  inside = λ core e t is. let os : mode_of (start shape) core ≡ modes.Os = everywhere shape.cores core modes.Os in cc;
  stages = λ slot. record {
    loading = λ is. refused (sym (ap is_loading (empty slot)) ∙ is);
    initialized = λ is. refused (sym (ap is_initialized (empty slot)) ∙ is);
  };
  modes = λ core lt. everywhere shape.cores core modes.Os;
  cells = λ core lt. everywhere {X = ℕ} shape.cores core 0;
  owned = λ r lt owner a is. since r owner a
      (sym (get_or-replicate shape.regions r (regions.Owned owners.Os 0) regions.Free lt) ∙ is);
}
  where
    empty : (slot : ℕ) → (enclave_at (start shape) slot).stage ≡ stages.Empty
    empty slot = ap (λ (x : Enclave). x.stage) (everywhere 8 slot empty_enclave)

    since : (r : ℕ) (owner : Owner) (a : ℕ) → regions.Owned owners.Os 0 ≡ regions.Owned owner a
        → OwnedSince [] r owner a
    since r owner a is =
        let whose : owners.Os ≡ owner = cc in
        let at : 0 ≡ a = cc in
        subst (λ (i : ℕ). OwnedSince [] r owner i) at
        (record { since = omega arith; made = ap Some whose; lasts = refl })

-- ---- along a history

-- these entries go on where the entries `gone` have led to the state s
pub record GoesOn (shape : Shape) (gone : List Entry) (s : State) (more : List Entry) : Type 0 where
  pub known : Known shape gone s
  pub tickets : AreTickets (length gone + 1) more
  pub legal : AreLegalEntries s more

first_of : (shape : Shape) (gone : List Entry) (s : State) (e : Entry) (es : List Entry) → GoesOn shape gone s (e ∷ es)
    → Next shape gone s e
first_of shape gone s e es goes = record { known = goes.known; ticket = goes.tickets.0; legal = goes.legal.0 }

rest_of : (shape : Shape) (gone : List Entry) (s : State) (e : Entry) (es : List Entry) → GoesOn shape gone s (e ∷ es)
    → GoesOn shape (gone ++ e ∷ []) (after_entry s e) es
rest_of shape gone s e es goes = record {
  known = known_next shape gone s e (first_of shape gone s e es goes);
  tickets = subst (λ (k : ℕ). AreTickets k es) {x = length gone + 1 + 1} {y = length (gone ++ e ∷ []) + 1}
      (omega (arith, length_more gone e)) goes.tickets.1;
  legal = goes.legal.1;
}

-- what each entry keeps holds after all of them
pub walk : (shape : Shape) (P : List Entry → State → Type 0)
    → ((gone : List Entry) (s : State) (e : Entry) → Next shape gone s e → P gone s
    → P (gone ++ e ∷ []) (after_entry s e))
    → (gone : List Entry) (s : State) (es : List Entry) → GoesOn shape gone s es → P gone s
    → P (gone ++ es) (after_entries s es)
walk shape P step gone s [] goes here = subst (λ (xs : List Entry). P xs s) (sym (append-nil gone)) here
walk shape P step gone s (e ∷ es) goes here =
    subst (λ (xs : List Entry). P xs (after_entries (after_entry s e) es)) (append_assoc gone (e ∷ []) es)
    (walk shape P step (gone ++ e ∷ []) (after_entry s e) es (rest_of shape gone s e es goes)
    (step gone s e (first_of shape gone s e es goes) here))

pub known_all : (shape : Shape) (gone : List Entry) (s : State) (es : List Entry) → GoesOn shape gone s es
    → Known shape (gone ++ es) (after_entries s es)
known_all shape gone s es goes = walk shape (Known shape)
    (λ before t e next known. known_next shape before t e next) gone s es goes goes.known

pub from_start : (shape : Shape) (h : List Entry) → IsHistory shape h → GoesOn shape [] (start shape) h
from_start shape h history = record { known = known_start shape; tickets = history.tickets; legal = history.entries }

pub known_now : (shape : Shape) (h : List Entry) → IsHistory shape h → Known shape h (state_now shape h)
known_now shape h history = known_all shape [] (start shape) h (from_start shape h history)
