-- A legal history cut in two, and a touch with its surroundings where the history is cut at its stamp.
use Rattle.std.proofs.Common.{◌≡◌, ℕ, ◌+◌, ◌<◌, ◌≤◌, List, [], ◌∷◌, ◌++◌, length, take, drop, refl, sym, ap, subst, ◌∙◌, arith}
use Rattle.std.specs.List.{AllByRecursion}
use Rattle.std.proofs.lemmas.List.{take-append-drop, length-take-le}
use Rattle.mon_types.specs.Shape.{Shape}
use Rattle.mon_types.specs.declared.region.Owner.{Owner}
use Rattle.mon_types.specs.declared.region.Region.TheVariants as regions
use Rattle.mon_model.specs.State.{State, start, region_at}
use Rattle.hist.specs.declared.event.Entry.{Entry}
use Rattle.hist.specs.declared.event.Event.{Event}
use Rattle.hist.specs.History.{entries_of, after_entry, after_entries}
use Rattle.hist.specs.Legal.{AreTickets, AreLegalEntries}
use Rattle.hist.specs.Busy.{own}
use Rattle.hist_stands.specs.States.{state_now, state_at, IsHistory}
use Rattle.hist_stands.specs.Stamp.{Stamp}
use Rattle.hist_stands.proofs.Knowing.{GoesOn, from_start, known_all}

-- ---- a history

tickets_cut : (k : ℕ) (xs ys : List Entry) → AreTickets k (xs ++ ys) → AreTickets k xs × AreTickets (length xs + k) ys
tickets_cut k [] ys tickets = (tt, subst (λ (i : ℕ). AreTickets i ys) {x = k} {y = 0 + k} (omega arith) tickets)
tickets_cut k (x ∷ xs) ys tickets =
    let rest = tickets_cut (k + 1) xs ys tickets.1 in (
      (tickets.0, rest.0),
      subst (λ (i : ℕ). AreTickets i ys) {x = length xs + (k + 1)} {y = length (x ∷ xs) + k}
          (omega arith) rest.1,
    )

legal_cut : (s : State) (xs ys : List Entry) → AreLegalEntries s (xs ++ ys)
    → AreLegalEntries s xs × AreLegalEntries (after_entries s xs) ys
legal_cut s [] ys legal = (tt, legal)
legal_cut s (x ∷ xs) ys legal = let rest = legal_cut (after_entry s x) xs ys legal.1 in ((legal.0, rest.0), rest.1)

after_cut : (s : State) (xs ys : List Entry) → after_entries s (xs ++ ys) ≡ after_entries (after_entries s xs) ys
after_cut s [] ys = refl
after_cut s (x ∷ xs) ys = after_cut (after_entry s x) xs ys

pub take_long : (h : List Entry) (k : ℕ) → k ≤ length h → length (take k h) ≡ k
take_long h k le = length-take-le k h le

-- a history goes on after its first k entries
pub goes_at : (shape : Shape) (h : List Entry) (k : ℕ) → IsHistory shape h → k ≤ length h
    → GoesOn shape (take k h) (state_at shape h k) (drop k h)
goes_at shape h k history le =
    let whole : h ≡ take k h ++ drop k h = sym (take-append-drop k h) in
    let tickets = tickets_cut 1 (take k h) (drop k h) (subst (AreTickets 1) whole history.tickets) in
    let legal = legal_cut (start shape) (take k h) (drop k h)
    (subst (AreLegalEntries (start shape)) whole history.entries) in
    record {
      known = known_all shape [] (start shape) (take k h)
          (from_start shape (take k h) (record { tickets = tickets.0; entries = legal.0 }));
      tickets = tickets.1;
      legal = legal.1;
    }

-- what holds of the two parts holds of the whole
pub whole_again : (shape : Shape) (h : List Entry) (k : ℕ) (P : List Entry → State → Type 0)
    → P (take k h ++ drop k h) (after_entries (state_at shape h k) (drop k h)) → P h (state_now shape h)
whole_again shape h k P both =
    subst (λ (es : List Entry). P es (state_now shape es)) (take-append-drop k h)
    (subst (P (take k h ++ drop k h)) (sym (after_cut (start shape) (take k h) (drop k h))) both)

-- ---- a touch

-- A touch with the events before it and behind it, in a log of this core, where the history is cut at its stamp.
pub record AtStamp (shape : Shape) (gone more : List Entry) (s : State) (core : ℕ) (before behind : List Event)
    (r a : ℕ) (owner : Owner) : Type 0 where
  pub goes : GoesOn shape gone s more
  pub in_shape : core < shape.cores
  pub parts : entries_of before ++ entries_of behind ≡ own core (gone ++ more)
  pub earlier : AllByRecursion (λ e. e.ticket ≤ length gone) (entries_of before)
  pub later : AllByRecursion (λ e. length gone < e.ticket) (entries_of behind)
  pub owned : region_at s r ≡ regions.Owned owner a

pub at_stamp : (shape : Shape) (h : List Entry) → IsHistory shape h → (core : ℕ) → core < shape.cores
    → (before behind : List Event) → entries_of before ++ entries_of behind ≡ own core h
    → (r a : ℕ) (owner : Owner) (k : ℕ) → Stamp shape h core before behind r a owner k
    → AtStamp shape (take k h) (drop k h) (state_at shape h k) core before behind r a owner
at_stamp shape h history core in_shape before behind parts r a owner k stamp =
    let long = sym (take_long h k stamp.drawn) in
    record {
      goes = goes_at shape h k history stamp.drawn;
      in_shape = in_shape;
      parts = parts ∙ ap (own core) (sym (take-append-drop k h));
      earlier = subst (λ (i : ℕ). AllByRecursion (λ e. e.ticket ≤ i) (entries_of before)) long stamp.earlier;
      later = subst (λ (i : ℕ). AllByRecursion (λ e. i < e.ticket) (entries_of behind)) long stamp.later;
      owned = stamp.owned;
    }
