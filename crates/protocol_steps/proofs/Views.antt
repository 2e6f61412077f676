-- What a core's moves tell, whatever they are: who issues the call under way, what is held where none is, and what one more
-- move changes of it.
use Rattle.protocol.specs.CallTree.{behind_first}
use Rattle.mon_records.specs.Members.{In}
use Rattle.std.proofs.Common.{◌≡◌, inl, inr, ◌∙◌, ℕ, Bool, true, false, cond, Option, Some, None, List, [], ◌∷◌, ◌++◌, drop, length, append-nil, ap, sym, refl, subst}
use Rattle.std.proofs.lemmas.Bool.{cases_Bool, cases_eq, eq-eqb, ne_eqb}
use Rattle.std.proofs.lemmas.Grind.{flat_map-append}
use Rattle.mon_types.specs.declared.object.ObjectId.{ObjectId}
use Rattle.hist.specs.declared.event.Entry.{Entry}
use Rattle.hist.specs.declared.event.Event.{Event}
use Rattle.hist.specs.declared.event.Event.TheVariants as events
use Rattle.hist.specs.History.{entry_in, entries_of}
use Rattle.hist.specs.Touched.{is_touched}
use Rattle.protocol.specs.declared.action.Action.{Action}
use Rattle.protocol.specs.declared.action.Action.TheVariants as actions
use Rattle.protocol.specs.declared.action.Move.{Move}
use Rattle.protocol.specs.declared.action.Move.TheVariants as moves
use Rattle.protocol.specs.declared.action.Outcome.{Outcome}
use Rattle.protocol.specs.Views.{actions_before, moves_before, Moves, held_by, held_after, held_of, touch_in, logged_by, logged, core_log, entries_in, next_serial, mode_in, answers_of, is_last, call_with, call_moves, are_any, is_calling, before_call, issuer_of, is_draw, has_drawn}
use Rattle.protocol.specs.Runs.{Made, moves_with}
use Rattle.protocol_steps.specs.Stages.{Stage, Locking, Met, Drawn, Astray, stage_locking, stage_met, stage_by, stage_of}

-- ---- the call under way

some_left : {X : Type 0} (x : X) (xs : List X) → x ∷ xs ≡ [] → ⊥
some_left x xs e = cc

last_holds_none : (a : Action) (out : Outcome) (held : List ObjectId) (call : List (Action × Outcome)) → cond (is_last a held) [] ((a, out) ∷ call) ≡ [] → held ≡ []
unfolding is_last
last_holds_none (actions.Draw draft) out [] call e = refl
last_holds_none (actions.Draw draft) out (o ∷ os) call e = absurd (some_left _ call e)
last_holds_none (actions.Unlock o) out [] call e = refl
last_holds_none (actions.Unlock o) out (p ∷ os) call e = absurd (some_left _ call e)
last_holds_none (actions.TryLock o) out held call e = absurd (some_left _ call e)
last_holds_none (actions.Read o i) out held call e = absurd (some_left _ call e)
last_holds_none (actions.Write o i word) out held call e = absurd (some_left _ call e)
last_holds_none (actions.Load i) out held call e = absurd (some_left _ call e)
last_holds_none (actions.Store i word) out held call e = absurd (some_left _ call e)

held_none_by : (move : Move) (out : Outcome) (held : List ObjectId) (call : List (Action × Outcome)) → (call ≡ [] → held ≡ []) → call_with move out (held_after move out held) call ≡ [] → held_after move out held ≡ []
unfolding call_with held_after
held_none_by (moves.InCall a) out held call before e = last_holds_none a out (held_by a out held) call e
held_none_by (moves.Look r owner) out held call before e = before e
held_none_by (moves.Load i) out held call before e = before e
held_none_by (moves.Store i value) out held call before e = before e
held_none_by (moves.Swap i old value) out held call before e = before e
held_none_by (moves.Stop line why) out held call before e = before e

-- nothing is held where no call is under way
pub none_held : (ms : Moves) → call_moves ms ≡ [] → held_of ms ≡ []
unfolding call_moves held_of
none_held [] e = refl
none_held (m ∷ ms) e = held_none_by m.0 m.1 (held_of ms) (call_moves ms) (none_held ms) e

pub are_none : (ms : List (Action × Outcome)) → are_any ms ≡ false → ms ≡ []
unfolding are_any
are_none [] e = refl
are_none (m ∷ ms) e = absurd (cc)

-- ---- who issues it

moves_step : (made : List (Action × Outcome)) (m : Move × Outcome) (ms : Moves) → are_any made ≡ true → moves_before made (m ∷ ms) ≡ moves_before (actions_before m.0 made) ms
unfolding moves_before are_any
moves_step [] m ms e = absurd (cc)
moves_step (a ∷ made) m ms e = refl

-- the moves of a call that come before its newest
earlier : (move : Move) (out : Outcome) (held : List ObjectId) (call : List (Action × Outcome)) → are_any (call_with move out held call) ≡ true → actions_before move (call_with move out held call) ≡ call
unfolding call_with actions_before are_any
earlier (moves.InCall a) out held call e = by (is_last a held) e
  where
    by : (b : Bool) → are_any (cond b [] ((a, out) ∷ call)) ≡ true → drop 1 (cond b [] ((a, out) ∷ call)) ≡ call
    by true e = absurd (cc)
    by false e = refl
earlier (moves.Look r owner) out held call e = refl
earlier (moves.Load i) out held call e = refl
earlier (moves.Store i value) out held call e = refl
earlier (moves.Swap i old value) out held call e = refl
earlier (moves.Stop line why) out held call e = refl

pub before_some : (m : Move × Outcome) (ms : Moves) → is_calling (m ∷ ms) ≡ true → before_call (m ∷ ms) ≡ before_call ms
unfolding before_call call_moves
before_some m ms e = moves_step (call_moves (m ∷ ms)) m ms e ∙ ap (λ z. moves_before z ms) (earlier m.0 m.1 (held_of (m ∷ ms)) (call_moves ms) e)

all_before : (ms : Moves) → moves_before [] ms ≡ ms
unfolding moves_before
all_before [] = refl
all_before (m ∷ ms) = refl

pub before_none : (ms : Moves) → call_moves ms ≡ [] → before_call ms ≡ ms
unfolding before_call
before_none ms e = ap (λ z. moves_before z ms) e ∙ all_before ms

pub issuer_same : (core : ℕ) (ms before : Moves) → before_call ms ≡ before_call before → issuer_of core ms ≡ issuer_of core before
unfolding issuer_of
issuer_same core ms before e =
    ap
    (λ z. record {
      core = core;
      serial = next_serial core z;
      mode = mode_in core z;
      answers = length (answers_of z);
    })
    e

module _ (core : ℕ) (a : Action) (out : Outcome) (ms : Moves) where
  -- the call goes on
  pub call_more : is_last a (held_by a out (held_of ms)) ≡ false → call_moves ((moves.InCall a, out) ∷ ms) ≡ (a, out) ∷ call_moves ms
  unfolding call_moves call_with held_of held_after
  call_more e = ap (λ b. cond b [] ((a, out) ∷ call_moves ms)) e

  pub issuer_more : is_last a (held_by a out (held_of ms)) ≡ false → issuer_of core ((moves.InCall a, out) ∷ ms) ≡ issuer_of core ms
  unfolding are_any
  issuer_more e = issuer_same core ((moves.InCall a, out) ∷ ms) ms (before_some (moves.InCall a, out) ms (ap are_any (call_more e)))

  -- it is over
  pub call_over : is_last a (held_by a out (held_of ms)) ≡ true → call_moves ((moves.InCall a, out) ∷ ms) ≡ []
  unfolding call_moves call_with held_of held_after
  call_over e = ap (λ b. cond b [] ((a, out) ∷ call_moves ms)) e

-- ---- entries

pub entries_append : (xs ys : List Event) → entries_of (xs ++ ys) ≡ entries_of xs ++ entries_of ys
entries_append xs ys = flat_map-append entry_in xs ys

no_entry_touch : (r : ℕ) (since : Option ℕ) (log : List Event) → entries_of (touch_in r since log) ≡ []
unfolding touch_in
no_entry_touch r None log = refl
no_entry_touch r (Some a) log = by (is_touched r a log)
  where
    by : (b : Bool) → entries_of (cond b [] (events.Touch r a ∷ [])) ≡ []
    by true = refl
    by false = refl

-- whether a move is a Draw
abbrev pub draws : Move → Bool
draws (moves.InCall a) = is_draw a
draws (moves.Look r owner) = false
draws (moves.Load i) = false
draws (moves.Store i value) = false
draws (moves.Swap i old value) = false
draws (moves.Stop line why) = false

no_log : (core : ℕ) (a : Action) (out : Outcome) → is_draw a ≡ false → logged_by core a out ≡ []
unfolding logged_by
no_log core (actions.Draw draft) out e = absurd (cc)
no_log core (actions.TryLock o) out e = refl
no_log core (actions.Read o i) out e = refl
no_log core (actions.Write o i word) out e = refl
no_log core (actions.Unlock o) out e = refl
no_log core (actions.Load i) out e = refl
no_log core (actions.Store i word) out e = refl

no_entry : (core : ℕ) (log : List Event) (move : Move) (out : Outcome) → draws move ≡ false → entries_of (logged core log move out) ≡ []
unfolding logged
no_entry core log (moves.InCall a) out e = ap entries_of (no_log core a out e)
no_entry core log (moves.Look r owner) out e = no_entry_touch r _ log
no_entry core log (moves.Load i) out e = refl
no_entry core log (moves.Store i value) out e = refl
no_entry core log (moves.Swap i old value) out e = refl
no_entry core log (moves.Stop line why) out e = refl

-- only a Draw makes an entry
pub entries_same : (core : ℕ) (move : Move) (out : Outcome) (ms : Moves) → draws move ≡ false → entries_in core ((move, out) ∷ ms) ≡ entries_in core ms
unfolding core_log
entries_same core move out ms e =
    entries_append (core_log core ms) (logged core (core_log core ms) move out)
    ∙ ap (λ (es : List Entry). entries_in core ms ++ es) (no_entry core (core_log core ms) move out e) ∙ append-nil (entries_in core ms)

pub head_drawn : (a : Action) (out : Outcome) (call : List (Action × Outcome)) → has_drawn ((a, out) ∷ call) ≡ false → (is_draw a ≡ false) × (has_drawn call ≡ false)
unfolding has_drawn
head_drawn a out call e = by (is_draw a) refl e
  where
    by : (b : Bool) → is_draw a ≡ b → cond b true (has_drawn call) ≡ false → (is_draw a ≡ false) × (has_drawn call ≡ false)
    by true f e = absurd (cc)
    by false f e = (f, e)

-- the move was no Draw, and none before it was
undrawn_by : (move : Move) (out : Outcome) (held : List ObjectId) (call : List (Action × Outcome)) → are_any (call_with move out held call) ≡ true → has_drawn (call_with move out held call) ≡ false → (draws move ≡ false) × (has_drawn call ≡ false)
unfolding call_with are_any
undrawn_by (moves.InCall a) out held call any e = by (is_last a held) any e
  where
    by : (b : Bool) → are_any (cond b [] ((a, out) ∷ call)) ≡ true → has_drawn (cond b [] ((a, out) ∷ call)) ≡ false → (is_draw a ≡ false) × (has_drawn call ≡ false)
    by true any e = absurd (cc)
    by false any e = head_drawn a out call e
undrawn_by (moves.Look r owner) out held call any e = (refl, e)
undrawn_by (moves.Load i) out held call any e = (refl, e)
undrawn_by (moves.Store i value) out held call any e = (refl, e)
undrawn_by (moves.Swap i old value) out held call any e = (refl, e)
undrawn_by (moves.Stop line why) out held call any e = (refl, e)

-- a call that has no ticket has made no entry
pub entries_before : (core : ℕ) (ms : Moves) → has_drawn (call_moves ms) ≡ false → entries_in core (before_call ms) ≡ entries_in core ms
unfolding call_moves
entries_before core [] e = ap (λ z. entries_in core z) (before_none [] refl)
entries_before core (m ∷ ms) e = elim (cases_Bool (is_calling (m ∷ ms))) [
  | inl t ↦
      let u = undrawn_by m.0 m.1 (held_of (m ∷ ms)) (call_moves ms) t e in
      ap (λ z. entries_in core z) (before_some m ms t) ∙ entries_before core ms u.1 ∙ sym (entries_same core m.0 m.1 ms u.0)
  | inr f ↦ ap (λ z. entries_in core z) (before_none (m ∷ ms) (are_none (call_moves (m ∷ ms)) f))
]

-- ---- stages

-- the call has its ticket, or went astray
abbrev pub IsOver : Stage → Type 0
IsOver (Locking os) = ⊥
IsOver (Met lock holder serial os) = ⊥
IsOver (Drawn draft) = Unit {0}
IsOver Astray = Unit {0}

over_by : (stage : Stage) (a : Action) (out : Outcome) → IsOver stage → IsOver (stage_by stage a out)
unfolding stage_by
over_by (Locking os) a out h = absurd h
over_by (Met lock holder serial os) a out h = absurd h
over_by (Drawn draft) a out h = tt
over_by Astray a out h = tt

over_draw : (stage : Stage) (a : Action) (out : Outcome) → is_draw a ≡ true → IsOver (stage_by stage a out)
unfolding stage_by stage_locking stage_met
over_draw (Locking os) (actions.Draw draft) out e = tt
over_draw (Met lock holder serial os) (actions.Draw draft) out e = tt
over_draw (Drawn draft) a out e = tt
over_draw Astray a out e = tt
over_draw stage _ out e = absurd (cc)

pub drawn_over : (ms : List (Action × Outcome)) → has_drawn ms ≡ true → IsOver (stage_of ms)
unfolding stage_of has_drawn
drawn_over [] e = absurd (cc)
drawn_over (m ∷ ms) e = by (is_draw m.0) refl e (drawn_over ms)
  where
    by : (b : Bool) → is_draw m.0 ≡ b → cond b true (has_drawn ms) ≡ true → (has_drawn ms ≡ true → IsOver (stage_of ms)) → IsOver (stage_by (stage_of ms) m.0 m.1)
    by true f e before = over_draw (stage_of ms) m.0 m.1 f
    by false f e before = over_by (stage_of ms) m.0 m.1 (before e)

-- where it has none, the moves have no Draw
pub undrawn : (ms : List (Action × Outcome)) → (IsOver (stage_of ms) → ⊥) → has_drawn ms ≡ false
undrawn ms h = elim (cases_Bool (has_drawn ms)) [ inl t ↦ absurd (h (drawn_over ms t)) | inr f ↦ f ]

-- what is left where an object is given back was held
pub in_rest : (held : List ObjectId) (o : ObjectId) → In o (behind_first held) → In o held
in_rest [] o k = k
in_rest (p ∷ os) o k = inr k

-- ---- the moves of each core

-- one core's moves are longer by one, and the others' stay
pub each_moves : (P : ℕ → Moves → Type 0) (moved : ℕ → Moves) (made : Made) → P made.core ((made.move, made.outcome) ∷ moved made.core) → ((q : ℕ) → (made.core ≡ q → ⊥) → P q (moved q)) → (q : ℕ) → P q (moves_with q made (moved q))
unfolding moves_with
each_moves P moved made own others q = elim (cases_eq made.core q) [
  | inl e ↦ subst (λ b. P q (cond b ((made.move, made.outcome) ∷ moved q) (moved q))) (sym (eq-eqb made.core q e)) (subst (λ z. P z ((made.move, made.outcome) ∷ moved z)) e own)
  | inr ne ↦ subst (λ b. P q (cond b ((made.move, made.outcome) ∷ moved q) (moved q))) (sym (ne_eqb made.core q ne)) (others q ne)
]
