-- The logs of all cores have the history that is kept: so they are legal, and safe.
use Rattle.std.proofs.Common.{◌≡◌, ℕ, zero, suc, ◌+◌, ◌<◌, ◌≤◌, if◌then◌else◌, List, [], ◌∷◌, ◌++◌, length, map, refl, sym, ap, subst, ◌∙◌, inl, inr, arith, append_assoc}
use Rattle.std.specs.List.{AllByRecursion, range_with_len}
use Rattle.std.proofs.lemmas.List.{length-map}
use Rattle.std.proofs.lemmas.List.FromFn.{length-range_with_len, get_or-map-range_with_len}
use Rattle.std.proofs.lemmas.Bool.{cases_eq, eq-eqb, ne_eqb, le-ltb}
use Rattle.mon_types.specs.Shape.{Shape}
use Rattle.mon_model.specs.State.{start}
use Rattle.hist.specs.declared.event.Entry.{Entry}
use Rattle.hist.specs.declared.event.Event.{Event}
use Rattle.hist.specs.History.{entries_of, log_of, placed, in_ticket_order, history}
use Rattle.hist.specs.Legal.{AreTickets, AreOwn, AreLegalEntries, Legal}
use Rattle.hist.specs.SafeLog.{AreSafe, SafeLog}
use Rattle.hist.specs.Busy.{own}
use Rattle.hist.proofs.Ordered.{all_joined, AreAbove, placed_first, joined, joined_map}
use Rattle.hist.proofs.Ascending.{all_ordered}
use Rattle.hist.proofs.Owns.{own_all}
use Rattle.hist_stands.specs.Stands.{Stands, all_logs}
use Rattle.hist_stands.proofs.Tickets.{tickets_from}
use Rattle.hist_stands.proofs.Touches.{events_safe}

-- ---- an entry before others with greater tickets

comes_first : (xs ys : List Entry) (e : Entry) → AreAbove e.ticket xs → AreAbove e.ticket ys
    → in_ticket_order (xs ++ e ∷ ys) ≡ e ∷ in_ticket_order (xs ++ ys)
comes_first [] ys e above others = placed_first e (in_ticket_order ys)
    (all_ordered (λ x. e.ticket < x.ticket) ys others)
comes_first (x ∷ xs) ys e above others =
    ap (placed x) (comes_first xs ys e above.1 others)
    ∙ ap (λ b. if b then x ∷ e ∷ in_ticket_order (xs ++ ys) else e ∷ placed x (in_ticket_order (xs ++ ys)))
    (le-ltb x.ticket e.ticket (omega (arith, above.0)))

-- ---- the entries of some cores

-- of n cores from this one on, core by core
abbrev pub parts : ℕ → ℕ → List Entry → List (List Entry)
parts first n h = map (λ core. own core h) (range_with_len first n)

no_parts : (first n : ℕ) → joined (parts first n []) ≡ []
no_parts first zero = refl
no_parts first (suc n) = no_parts (first + 1) n

all_parts : (P : Entry → Type 0) (first n : ℕ) (h : List Entry) → AllByRecursion P h
    → AllByRecursion P (joined (parts first n h))
all_parts P first zero h all = tt
all_parts P first (suc n) h all = all_joined P (own first h) (joined (parts (first + 1) n h)) (own_all P first h all)
    (all_parts P (first + 1) n h all)

-- an entry of a core before these is in none
parts_past : (first n : ℕ) (e : Entry) (h : List Entry) → e.core < first
    → joined (parts first n (e ∷ h)) ≡ joined (parts first n h)
parts_past first zero e h lt = refl
parts_past first (suc n) e h lt =
    ap (λ b. (if b then e ∷ own first h else own first h) ++ joined (parts (first + 1) n (e ∷ h)))
    (ne_eqb e.core first (λ is. absurd (omega (arith, is, lt))))
    ∙ ap (λ (es : List Entry). own first h ++ es) (parts_past (first + 1) n e h (omega (arith, lt)))

-- lists that differ by this entry
pub record Differ (e : Entry) (longer shorter : List Entry) : Type 0 where
  pub front : List Entry
  pub back : List Entry
  pub longer_is : longer ≡ front ++ e ∷ back
  pub shorter_is : shorter ≡ front ++ back

parts_differ : (first n : ℕ) (e : Entry) (h : List Entry) → first ≤ e.core → e.core < first + n
    → Differ e (joined (parts first n (e ∷ h))) (joined (parts first n h))
parts_differ first zero e h le lt = absurd (omega (arith, le, lt))
parts_differ first (suc n) e h le lt = elim (cases_eq e.core first) [
  | inl is ↦ record {
    front = [];
    back = own first h ++ joined (parts (first + 1) n h);
    longer_is =
        ap (λ b. (if b then e ∷ own first h else own first h) ++ joined (parts (first + 1) n (e ∷ h)))
        (eq-eqb e.core first is)
        ∙ ap (λ (es : List Entry). e ∷ own first h ++ es) (parts_past (first + 1) n e h (omega (arith, is)));
    shorter_is = refl;
  }
  | inr ne ↦
      let rest = parts_differ (first + 1) n e h (omega (arith, le, ne)) (omega (arith, lt)) in
      record {
        front = own first h ++ rest.front;
        back = rest.back;
        longer_is =
            ap (λ b. (if b then e ∷ own first h else own first h) ++ joined (parts (first + 1) n (e ∷ h)))
            (ne_eqb e.core first ne)
            ∙ ap (λ (es : List Entry). own first h ++ es) rest.longer_is
            ∙ sym (append_assoc (own first h) rest.front (e ∷ rest.back));
        shorter_is = ap (λ (es : List Entry). own first h ++ es) rest.shorter_is
            ∙ sym (append_assoc (own first h) rest.front rest.back);
      }
]

all_of_both : (P : Entry → Type 0) (xs ys : List Entry) → AllByRecursion P (xs ++ ys)
    → AllByRecursion P xs × AllByRecursion P ys
all_of_both P [] ys all = (tt, all)
all_of_both P (x ∷ xs) ys all = let rest = all_of_both P xs ys all.1 in ((all.0, rest.0), rest.1)

-- in ticket order they are the history again
pub sorted : (n k : ℕ) (h : List Entry) → AreTickets k h → AllByRecursion (λ e. e.core < n) h
    → in_ticket_order (joined (parts 0 n h)) ≡ h
sorted n k [] tickets cores = ap in_ticket_order (no_parts 0 n)
sorted n k (e ∷ h) tickets cores =
    let differ = parts_differ 0 n e h (omega arith) (omega (arith, cores.0)) in
    let above = all_parts (λ x. e.ticket < x.ticket) 0 n h
    (tickets_from e.ticket (k + 1) h (omega (arith, tickets.0)) tickets.1) in
    let both = all_of_both (λ x. e.ticket < x.ticket) differ.front differ.back
    (subst (AllByRecursion (λ x. e.ticket < x.ticket)) differ.shorter_is above) in
    ap in_ticket_order differ.longer_is ∙ comes_first differ.front differ.back e both.0 both.1
    ∙ ap (λ (es : List Entry). e ∷ in_ticket_order es) (sym differ.shorter_is)
    ∙ ap (λ (es : List Entry). e ∷ es) (sorted n (k + 1) h tickets.1 cores.1)

-- ---- the logs of all cores

module _ (shape : Shape) (h : List Entry) (log : ℕ → List Event) (stands : Stands shape h log) where
  same_parts : (first n : ℕ) → first + n ≤ shape.cores
      → map entries_of (map log (range_with_len first n)) ≡ parts first n h
  same_parts first zero le = refl
  same_parts first (suc n) le =
      ap (λ (es : List Entry). es ∷ map entries_of (map log (range_with_len (first + 1) n)))
      (stands.mine first (omega (arith, le)))
      ∙ ap (λ (lists : List (List Entry)). own first h ∷ lists) (same_parts (first + 1) n (omega (arith, le)))

  pub same_history : history (all_logs shape log) ≡ h
  same_history =
      ap in_ticket_order (joined_map entries_of (all_logs shape log))
      ∙ ap (λ (lists : List (List Entry)). in_ticket_order (joined lists)) (same_parts 0 shape.cores (omega arith))
      ∙ sorted shape.cores 1 h stands.legal.tickets stands.cores

  log_count : length (all_logs shape log) ≡ shape.cores
  log_count = length-map (range_with_len 0 shape.cores) log ∙ length-range_with_len 0 shape.cores

  same_log : (core : ℕ) → core < shape.cores → log_of (all_logs shape log) core ≡ log core
  same_log core lt = get_or-map-range_with_len log 0 shape.cores core core [] lt (omega arith)

  pub all_legal : Legal shape (all_logs shape log)
  all_legal = record {
    count = log_count;
    tickets = subst (AreTickets 1) (sym same_history) stands.legal.tickets;
    own = λ core lt.
        let in_shape : core < shape.cores = omega (arith, lt, log_count) in
        subst (λ (es : List Event). AreOwn core 0 0 (entries_of es)) (sym (same_log core in_shape))
        (stands.serials core in_shape);
    entries = subst (AreLegalEntries (start shape)) (sym same_history) stands.legal.entries;
  }

  -- ---- safe

  pub log_safe : (core : ℕ) → core < shape.cores → AreSafe shape h [] (log core)
  log_safe core lt = events_safe shape h stands.legal core lt [] (log core) (stands.mine core lt)
      (stands.stamped core lt)

  pub all_safe : SafeLog shape (all_logs shape log)
  all_safe core lt =
      let in_shape : core < shape.cores = omega (arith, lt, log_count) in
      subst (λ (es : List Entry). AreSafe shape es [] (log_of (all_logs shape log) core)) (sym same_history)
      (subst (λ (es : List Event). AreSafe shape h [] es) (sym (same_log core in_shape)) (log_safe core in_shape))
