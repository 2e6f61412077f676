-- How a core stands to its moves after one that is in no call, and after a whole call.
use Rattle.std.proofs.Common.{◌≡◌, ◌∙◌, ◌+◌, ◌<◌, ◌≤◌, ℕ, Bool, true, false, cond, ◌&&◌, ◌||◌, ◌==◌, Option, Some, None, List, [], ◌∷◌, ◌++◌, length, length-append, ap, sym, refl, subst, arith}
use Rattle.std.specs.Prelude.{fold}
use Rattle.std.proofs.lemmas.List.Sums.{fold-append}
use Rattle.mon_types.specs.Shape.{Shape, is_shape}
use Rattle.mon_types.specs.LimitLaws.{few_cores}
use Rattle.mon_types.specs.Replies.{is_done}
use Rattle.mon_types.specs.declared.thread.Mode.{Mode}
use Rattle.mon_types.specs.declared.thread.Mode.TheVariants as modes
use Rattle.mon_types.specs.declared.call.Call.{Call}
use Rattle.mon_types.specs.declared.call.Call.TheVariants as calls
use Rattle.mon_model.specs.OnCore.{clears, mode_by}
use Rattle.mon_model.specs.InRange.{IsInRange}
use Rattle.lock_plan.specs.Objects.{IsCaller}
use Rattle.mon_records.specs.Ranges.{IsCall}
use Rattle.mon_records.specs.Rebuilt.{state_of}
use Rattle.hist.specs.declared.event.Entry.{Entry}
use Rattle.hist.specs.declared.event.Event.{Event}
use Rattle.hist.specs.declared.event.Event.TheVariants as events
use Rattle.hist.specs.History.{entries_of}
use Rattle.hist.specs.SafeLog.{mode_after}
use Rattle.hist.specs.Touched.{touched_by, is_touched}
use Rattle.core_context.specs.declared.after.After.{After}
use Rattle.core_context.specs.declared.after.After.TheVariants as afters
use Rattle.core_context.specs.declared.origin.Origin.{Origin}
use Rattle.tlb.specs.declared.entry.Entry.{Entry as Translation}
use Rattle.core_access.specs.Looks.{since_in_word}
use Rattle.protocol.specs.declared.action.Action.{Action}
use Rattle.protocol.specs.declared.action.Move.{Move}
use Rattle.protocol.specs.declared.action.Move.TheVariants as moves
use Rattle.protocol.specs.declared.action.Outcome.{Outcome}
use Rattle.protocol.specs.CallTree.{Issuer, number_in, call_tree}
use Rattle.protocol.specs.Views.{Moves, held_of, touch_in, logged, core_log, entries_in, has_touched, answered, answers_of, call_with, call_moves, issuer_of}
use Rattle.protocol.specs.Permitted.{most_entries}
use Rattle.protocol_steps.proofs.Views.{draws, entries_same, entries_append, none_held, before_none}
use Rattle.core_behaviour.specs.Course.{Course}
use Rattle.core_behaviour.specs.declared.exit.Exit.{Exit}
use Rattle.core_behaviour.specs.Core.{Core, mode_now, issuer_now, made}
use Rattle.core_behaviour.specs.Called.{reply_in, found_in, change_by, pending_after, left_by, left_if, called}
use Rattle.core_laws.proofs.Tidy.{IsTidy}
use Rattle.core_laws.proofs.CallWords.{found_fits}
use Rattle.core_laws.proofs.CallTidy.{tidy_call}
use Rattle.core_laws.proofs.Permits.{IsPermitted, IsPending, AreCached, Agrees, Follow}
use Rattle.core_laws.proofs.Contexts.{IsOrigin, changed_fits, contexts_fit}
use Rattle.core_laws.proofs.InCall.{IsCalled, core_with, all_in_call}

-- ---- touches

-- a touched period stays touched by these events
abbrev pub KeepTouches : ℕ → ℕ → List Event → Type 0
KeepTouches r a es = fold (touched_by r a) true es ≡ true

pub touched_on : (r a : ℕ) (log more : List Event) → KeepTouches r a more → is_touched r a log ≡ true → is_touched r a (log ++ more) ≡ true
touched_on r a log more k t = fold-append (touched_by r a) false log more ∙ ap (λ b. fold (touched_by r a) b more) t ∙ k

pub or_true : (b : Bool) → (b || true) ≡ true
or_true true = refl
or_true false = refl

entry_keeps : (r a : ℕ) (e : Entry) → (is_done e.reply && clears e.call) ≡ false → KeepTouches r a (events.Entry e ∷ [])
entry_keeps r a e h = ap (λ b. cond b false true) h

touch_keeps : (r a q : ℕ) (since : Option ℕ) (log : List Event) → KeepTouches r a (touch_in q since log)
unfolding touch_in
touch_keeps r a q None log = refl
touch_keeps r a q (Some b) log = by (is_touched q b log)
  where
    by : (t : Bool) → KeepTouches r a (cond t [] (events.Touch q b ∷ []))
    by true = refl
    by false = or_true (q == r && b == a)

-- ---- a move in no call

abbrev pub IsOutside : Move → Type 0
IsOutside (moves.InCall a) = ⊥
IsOutside (moves.Look r owner) = Unit {0}
IsOutside (moves.Load i) = Unit {0}
IsOutside (moves.Store i word) = Unit {0}
IsOutside (moves.Swap i old word) = Unit {0}
IsOutside (moves.Stop line why) = Unit {0}

pub none_drawn : (move : Move) → IsOutside move → draws move ≡ false
none_drawn (moves.InCall a) h = absurd h
none_drawn (moves.Look r owner) h = refl
none_drawn (moves.Load i) h = refl
none_drawn (moves.Store i word) h = refl
none_drawn (moves.Swap i old word) h = refl
none_drawn (moves.Stop line why) h = refl

same_call : (move : Move) (out : Outcome) (ms : Moves) → IsOutside move → call_moves ((move, out) ∷ ms) ≡ call_moves ms
unfolding call_moves call_with
same_call (moves.InCall a) out ms h = absurd h
same_call (moves.Look r owner) out ms h = refl
same_call (moves.Load i) out ms h = refl
same_call (moves.Store i word) out ms h = refl
same_call (moves.Swap i old word) out ms h = refl
same_call (moves.Stop line why) out ms h = refl

pub log_keeps : (r a core : ℕ) (log : List Event) (move : Move) (out : Outcome) → IsOutside move → KeepTouches r a (logged core log move out)
unfolding logged
log_keeps r a core log (moves.InCall b) out h = absurd h
log_keeps r a core log (moves.Look q owner) out h = touch_keeps r a q (since_in_word owner (number_in out)) log
log_keeps r a core log (moves.Load i) out h = refl
log_keeps r a core log (moves.Store i word) out h = refl
log_keeps r a core log (moves.Swap i old word) out h = refl
log_keeps r a core log (moves.Stop line why) out h = refl

-- cached translations stay good where no touch is ended
cached_on : (shape : Shape) (core : ℕ) (ms more : Moves) (es : List Translation) → ((r a : ℕ) → has_touched core ms r a ≡ true → has_touched core more r a ≡ true) → AreCached shape core ms es → AreCached shape core more es
cached_on shape core ms more [] k h = tt
cached_on shape core ms more (e ∷ es) k h = (record { there = h.0.there; since = h.0.since; touched = k _ h.0.since h.0.touched }, cached_on shape core ms more es k h.1)

pub outside : (shape : Shape) (core calls : ℕ) (ms : Moves) (c : Core) (move : Move) (out : Outcome) → IsOutside move → Agrees shape core calls ms c → Agrees shape core calls ((move, out) ∷ ms) (made c move out)
unfolding core_log answers_of
outside shape core calls ms c move out h a =
    let same : entries_in core ((move, out) ∷ ms) ≡ entries_in core ms = entries_same core move out ms (none_drawn move h) in
    record {
      number = a.number;
      log = ap (λ (l : List Event). l ++ logged c.number l move out) a.log ∙ ap (λ n. core_log core ms ++ logged n (core_log core ms) move out) a.number;
      answers = ap (λ (s : List ℕ). s ++ answered move out) a.answers;
      idle = same_call move out ms h ∙ a.idle;
      room = subst (λ (es : List Entry). length es + calls ≤ most_entries) (sym same) a.room;
      caller = subst (λ (es : List Entry). IsCaller shape core (mode_after es)) (sym same) a.caller;
      contexts = a.contexts;
      pending = a.pending;
      cached = cached_on shape core ms ((move, out) ∷ ms) c.cache (λ r b t. touched_on r b (core_log core ms) (logged core (core_log core ms) move out) (log_keeps r b core (core_log core ms) move out h) t) a.cached;
    }

-- ---- a call

caller_by : (shape : Shape) (core : ℕ) (call : Call) (mode : Mode) → IsInRange shape call → IsCaller shape core mode → IsCaller shape core (mode_by call mode)
caller_by shape core (calls.Enter e t) mode h k = record { there = k.there; slot = h.0; thread = h.1 }
caller_by shape core calls.Exit mode h k = record { there = k.there; slot = omega arith; thread = omega arith }
caller_by shape core (calls.Aex saved) mode h k = record { there = k.there; slot = omega arith; thread = omega arith }
caller_by shape core _ mode h k = k

caller_after : (shape : Shape) (core : ℕ) (es : List Entry) (e : Entry) → (is_done e.reply ≡ true → IsInRange shape e.call) → IsCaller shape core (mode_after es) → IsCaller shape core (mode_after (es ++ e ∷ []))
caller_after shape core es e h k = subst (IsCaller shape core) (sym (fold-append (λ (before : Mode) (x : Entry). cond (is_done x.reply) (mode_by x.call before) before) modes.Os es (e ∷ []))) (by (is_done e.reply) refl)
  where
    by : (b : Bool) → is_done e.reply ≡ b → IsCaller shape core (cond b (mode_by e.call (mode_after es)) (mode_after es))
    by true f = caller_by shape core e.call (mode_after es) (h f) k
    by false f = k

pending_fits : (change : After) (p : Option Exit) → IsPending p → IsPending (pending_after change p)
pending_fits afters.Nothing p h = h
pending_fits afters.Cleared p h = h
pending_fits (afters.Entered entry sp base size root saved) p h = h
pending_fits afters.Left p h = tt
pending_fits (afters.Restored saved) p h = h

-- what a core is by its number, log and answers, before a call
abbrev issuer_by : ℕ → List Event → List ℕ → Issuer
issuer_by number log answers = record { core = number; serial = length (entries_of log); mode = mode_after (entries_of log); answers = length answers }

module _ (shape : Shape) (is : is_shape shape ≡ true) (core : ℕ) (origin : Origin) (is_origin : IsOrigin origin) (call : Call) (is_call : IsCall call) (calls : ℕ) (before : Moves) (c : Core) (a : Agrees shape core (calls + 1) before c) where
  same_issuer : issuer_of core before ≡ issuer_now c
  unfolding issuer_of
  same_issuer =
      ap (λ z. issuer_by core (core_log core z) (answers_of z)) (before_none before a.idle)
      ∙ ap (λ n. issuer_by n (core_log core before) (answers_of before)) (sym a.number)
      ∙ ap (λ l. issuer_by c.number l (answers_of before)) (sym a.log)
      ∙ ap (λ s. issuer_by c.number c.log s) (sym a.answers)

  is_caller : IsCaller shape c.number (mode_now c)
  is_caller = subst (λ n. IsCaller shape n (mode_now c)) (sym a.number) (subst (λ (l : List Event). IsCaller shape core (mode_after (entries_of l))) (sym a.log) a.caller)

  core_first : c ≡ core_with core c before
  core_first = ap (λ (l : List Event). record c { log = l; answers = c.answers }) a.log ∙ ap (λ (s : List ℕ). record c { log = core_log core before; answers = s }) a.answers

  tidy_first : IsTidy shape call (held_of before) (found_in []) (reply_in []) (call_tree shape (issuer_now c) call)
  unfolding found_in reply_in
  tidy_first = subst (λ z. IsTidy shape call z [] None (call_tree shape (issuer_now c) call)) (sym (none_held before a.idle)) (tidy_call shape is (issuer_now c) is_caller call is_call)

  -- the core once the call is over
  module _ (ms : Moves) (done : List (Action × Outcome)) (x : IsCalled shape core call (core_log core before) ms done) where
    entries : entries_in core ms ≡ entries_in core before ++ x.entry ∷ []
    entries = ap entries_of x.is_entry.logged ∙ entries_append (core_log core before) (events.Entry x.entry ∷ [])

    cached : AreCached shape core ms (cond (is_done x.reply && clears call) [] c.cache)
    cached = by (is_done x.reply && clears call) refl
      where
        still : (is_done x.reply && clears call) ≡ false → (is_done x.entry.reply && clears x.entry.call) ≡ false
        still f = ap (λ z. is_done z && clears x.entry.call) x.is_entry.of_reply ∙ ap (λ z. is_done x.reply && clears z) x.is_entry.of_call ∙ f

        by : (b : Bool) → (is_done x.reply && clears call) ≡ b → AreCached shape core ms (cond b [] c.cache)
        by true f = tt
        by false f = cached_on shape core before ms c.cache
            (λ r b t. ap (is_touched r b) x.is_entry.logged ∙ touched_on r b (core_log core before) (events.Entry x.entry ∷ []) (entry_keeps r b x.entry (still f)) t) a.cached

    left_agrees : Agrees shape core calls ms (left_by origin call (change_by (is_done x.reply) (state_of shape (mode_now c) (found_in done)) c.number call) x.reply (core_with core c ms))
    left_agrees = record {
      number = a.number;
      log = refl;
      answers = refl;
      idle = x.idle;
      room = subst (λ (es : List Entry). length es + calls ≤ most_entries) (sym entries) (let r = a.room in simp length-append (omega arith));
      caller = subst (λ (es : List Entry). IsCaller shape core (mode_after es)) (sym entries)
          (caller_after shape core (entries_in core before) x.entry (λ d. subst (IsInRange shape) (sym x.is_entry.of_call) (x.is_entry.range (ap is_done (sym x.is_entry.of_reply) ∙ d))) a.caller);
      contexts = contexts_fit origin call _ x.reply c.contexts is_origin is_call (changed_fits (is_done x.reply) (state_of shape (mode_now c) (found_in done)) c.number call (found_fits shape (mode_now c) (found_in done) x.rows)) x.fits a.contexts;
      pending = pending_fits _ c.pending a.pending;
      cached = cached;
    }

  pub all_called : (next : Core → Course) → Follow shape core calls next → IsPermitted shape core before (called shape origin call c next)
  unfolding reply_in
  all_called next follow =
      let low : core < 16 = (let few = few_cores shape is in let there = a.caller.there in omega arith) in
      let first : length (entries_of (core_log core before)) ≡ length (entries_of c.log) = ap (λ (l : List Event). length (entries_of l)) (sym a.log) in
      let few : length (entries_of c.log) + 1 ≤ most_entries = (let r = a.room in omega arith) in
      all_in_call shape core low (issuer_now c) few call is_call c a.number (core_log core before) first
      (λ d done. next (left_if origin call (state_of shape (mode_now c) (found_in done)) (reply_in done) d))
      (λ ms done x. subst (λ o. IsPermitted shape core ms (next (left_if origin call (state_of shape (mode_now c) (found_in done)) o (core_with core c ms)))) (sym x.replied)
      (follow ms _ (left_agrees ms done x)))
      (call_tree shape (issuer_now c) call) before [] c core_first
      (record { under_way = a.idle; issuer = same_issuer; follows = refl; has = refl }) tidy_first
