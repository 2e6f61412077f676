-- What stands of the logs stands after each event.
use Rattle.std.proofs.Common.{◌≡◌, ℕ, ◌+◌, ◌<◌, ◌≤◌, false, if◌then◌else◌, List, [], ◌∷◌, ◌++◌, length, refl, sym, ap, subst, ◌∙◌, inl, inr, arith, append-nil}
use Rattle.std.specs.List.{AllByRecursion}
use Rattle.std.proofs.lemmas.Grind.{flat_map-append}
use Rattle.std.proofs.lemmas.Bool.{cases_eq, eq-eqb, ne_eqb}
use Rattle.mon_types.specs.Shape.{Shape}
use Rattle.mon_types.specs.declared.region.Owner.{Owner}
use Rattle.mon_types.specs.declared.region.Region.TheVariants as regions
use Rattle.mon_model.specs.State.{start, region_at, mode_of}
use Rattle.hist.specs.declared.event.Entry.{Entry}
use Rattle.hist.specs.declared.event.Event.{Event}
use Rattle.hist.specs.declared.event.Event.TheVariants as events
use Rattle.hist.specs.declared.event.Why.{Why}
use Rattle.hist.specs.History.{entry_in, entries_of}
use Rattle.hist.specs.Legal.{AreOwn, IsLegalEntry}
use Rattle.hist.specs.Touched.{is_touched}
use Rattle.hist.specs.SafeLog.{IsOpenTo}
use Rattle.hist.specs.Busy.{own}
use Rattle.hist.proofs.Growing.{tickets_more, legal_more}
use Rattle.hist.proofs.Ordered.{all_weaker, all_joined}
use Rattle.hist.proofs.Owns.{own_all, own_here, own_there}
use Rattle.hist_stands.specs.States.{state_now}
use Rattle.hist_stands.specs.Stamp.{IsStamped, AreStamped}
use Rattle.hist_stands.specs.Stands.{Stands, with_event}
use Rattle.hist_stands.proofs.Tickets.{tickets_below}
use Rattle.hist_stands.proofs.Stamps.{stamps_more, stamps_behind, stamp_now}

pub start_stands : (shape : Shape) → Stands shape [] (λ core. [])
start_stands shape = record {
  legal = record { tickets = tt; entries = tt };
  cores = tt;
  serials = λ core lt. tt;
  mine = λ core lt. refl;
  stamped = λ core lt. tt;
}

-- ---- one event more

-- what holds of the longer log and of the others holds of each
each_log : (P : ℕ → List Event → Type 0) (log : ℕ → List Event) (core : ℕ) (event : Event) (c : ℕ)
    → P core (log core ++ event ∷ []) → P c (log c) → P c (with_event log core event c)
each_log P log core event c new old = elim (cases_eq core c) [
  | inl is ↦
      subst (λ b. P c (if b then log c ++ event ∷ [] else log c)) (sym (eq-eqb core c is))
      (subst (λ (i : ℕ). P i (log i ++ event ∷ [])) is new)
  | inr ne ↦ subst (λ b. P c (if b then log c ++ event ∷ [] else log c)) (sym (ne_eqb core c ne)) old
]

entries_behind : (log : List Event) (event : Event) → entries_of (log ++ event ∷ []) ≡ entries_of log ++ entry_in event
entries_behind log event = flat_map-append entry_in log (event ∷ [])
    ∙ ap (λ (es : List Entry). entries_of log ++ es) (append-nil (entry_in event))

-- a core's entries with one more behind them
own_behind : (core serial before : ℕ) (es : List Entry) (e : Entry) → AreOwn core serial before es → e.core ≡ core
    → e.serial ≡ serial + length es → before < e.ticket
    → AllByRecursion (λ x. x.ticket < e.ticket) es → AreOwn core serial before (es ++ e ∷ [])
own_behind core serial before [] e mine of_core next lt below =
    (record { core = of_core; serial = omega (arith, next); ascends = lt }, tt)
own_behind core serial before (x ∷ es) e mine of_core next lt below =
    (mine.0, own_behind core (serial + 1) x.ticket es e mine.1 of_core (omega (arith, next)) below.0 below.1)

module _ (shape : Shape) (h : List Entry) (log : ℕ → List Event) (stands : Stands shape h log) where
  pub drawn_all : AllByRecursion (λ e. e.ticket ≤ length h) h
  drawn_all = all_weaker (λ e. e.ticket < 1 + length h) (λ e. e.ticket ≤ length h) (λ e lt. omega arith) h
      (tickets_below 1 h stands.legal.tickets)

  -- ---- an entry

  module _ (e : Entry) (in_shape : e.core < shape.cores) (next : e.ticket ≡ length h + 1)
      (serial : e.serial ≡ length (entries_of (log e.core))) (legal : IsLegalEntry (state_now shape h) e) where
    serials_here : AreOwn e.core 0 0 (entries_of (log e.core ++ events.Entry e ∷ []))
    serials_here =
        subst (AreOwn e.core 0 0) (sym (entries_behind (log e.core) (events.Entry e)))
        (own_behind e.core 0 0 (entries_of (log e.core)) e (stands.serials e.core in_shape) refl
        (omega (arith, serial)) (omega (arith, next))
        (subst (AllByRecursion (λ x. x.ticket < e.ticket)) (sym (stands.mine e.core in_shape))
        (own_all (λ x. x.ticket < e.ticket) e.core h
        (all_weaker (λ x. x.ticket ≤ length h) (λ x. x.ticket < e.ticket)
        (λ x le. omega (arith, next)) h drawn_all))))

    mine_next : (core : ℕ) → core < shape.cores
        → entries_of (with_event log e.core (events.Entry e) core) ≡ own core (h ++ e ∷ [])
    mine_next core lt = elim (cases_eq e.core core) [
      | inl is ↦
          ap (λ b. entries_of (if b then log core ++ events.Entry e ∷ [] else log core)) (eq-eqb e.core core is)
          ∙ entries_behind (log core) (events.Entry e) ∙ ap (λ (es : List Entry). es ++ e ∷ []) (stands.mine core lt)
          ∙ sym (own_here core h e is)
      | inr ne ↦
          ap (λ b. entries_of (if b then log core ++ events.Entry e ∷ [] else log core)) (ne_eqb e.core core ne)
          ∙ stands.mine core lt ∙ sym (own_there core h e ne)
    ]

    pub entry_stands : Stands shape (h ++ e ∷ []) (with_event log e.core (events.Entry e))
    entry_stands = record {
      legal = record {
        tickets = tickets_more 1 h e stands.legal.tickets (omega (arith, next));
        entries = legal_more
            (start shape) h e stands.legal.entries legal;
      };
      cores = all_joined (λ x. x.core < shape.cores) h (e ∷ []) stands.cores (in_shape, tt);
      serials = λ core lt. each_log (λ c (es : List Event). AreOwn c 0 0 (entries_of es)) log e.core
          (events.Entry e) core serials_here (stands.serials core lt);
      mine = mine_next;
      stamped = λ core lt.
          each_log (λ c (es : List Event). AreStamped shape (h ++ e ∷ []) c [] es) log e.core (events.Entry e) core
          (stamps_more shape h e e.core [] (log e.core ++ events.Entry e ∷ [])
          (stamps_behind shape h e.core [] (log e.core) (events.Entry e) (omega (arith, next), tt) tt
          (stands.stamped e.core in_shape)))
          (stamps_more shape h e core [] (log core) (stands.stamped core lt));
    }

  -- ---- a touch or a stop

  module _ (core : ℕ) (in_shape : core < shape.cores) (event : Event) (silent : entry_in event ≡ [])
      (stamped : IsStamped shape h core (log core) event []) where
    same_here : entries_of (log core ++ event ∷ []) ≡ entries_of (log core)
    same_here = entries_behind (log core) event ∙ ap (λ (es : List Entry). entries_of (log core) ++ es) silent
        ∙ append-nil (entries_of (log core))

    silent_stands : Stands shape h (with_event log core event)
    silent_stands = record {
      legal = stands.legal;
      cores = stands.cores;
      serials = λ c lt. each_log (λ i (es : List Event). AreOwn i 0 0 (entries_of es)) log core event c
          (subst (AreOwn core 0 0) (sym same_here) (stands.serials core in_shape)) (stands.serials c lt);
      mine = λ c lt. each_log (λ i (es : List Event). entries_of es ≡ own i h) log core event c
          (same_here ∙ stands.mine core in_shape) (stands.mine c lt);
      stamped = λ c lt.
          each_log (λ i (es : List Event). AreStamped shape h i [] es) log core event c
          (stamps_behind shape h core [] (log core) event
          (subst (AllByRecursion (λ x. length h < x.ticket)) (sym silent) tt) stamped
          (stands.stamped core in_shape)) (stands.stamped c lt);
    }

  pub stop_stands : (core : ℕ) → core < shape.cores → (line : ℕ) (why : Why)
      → Stands shape h (with_event log core (events.Stop line why))
  stop_stands core in_shape line why = silent_stands core in_shape (events.Stop line why) refl tt

  pub touch_stands : (core : ℕ) → core < shape.cores → (r a : ℕ) (owner : Owner)
      → region_at (state_now shape h) r ≡ regions.Owned owner a
      → IsOpenTo (mode_of (state_now shape h) core) owner → is_touched r a (log core) ≡ false
      → Stands shape h (with_event log core (events.Touch r a))
  touch_stands core in_shape r a owner owned opens fresh =
      let earlier : AllByRecursion (λ e. e.ticket ≤ length h) (entries_of (log core)) =
      subst (AllByRecursion (λ e. e.ticket ≤ length h)) (sym (stands.mine core in_shape))
      (own_all (λ e. e.ticket ≤ length h) core h drawn_all) in
      silent_stands core in_shape (events.Touch r a) refl
      (owner, length h, stamp_now shape h core (log core) r a owner earlier owned opens fresh)
