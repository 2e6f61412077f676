-- The moves of a call that a core makes are permitted, and what they leave is told by its one entry.
use Rattle.std.proofs.Common.{◌≡◌, inl, inr, ◌∙◌, ◌+◌, ◌<◌, ◌≤◌, ℕ, true, Option, Some, None, List, [], ◌∷◌, ◌++◌, length, append-nil, ap, sym, refl, subst, arith}
use Rattle.std.proofs.lemmas.Bool.{cases_Bool}
use Rattle.mon_types.specs.Shape.{Shape}
use Rattle.mon_types.specs.Replies.{is_done}
use Rattle.mon_types.specs.declared.call.Call.{Call}
use Rattle.mon_types.specs.declared.reply.Reply.{Reply}
use Rattle.mon_model.specs.InRange.{IsInRange}
use Rattle.mon_records.specs.Ranges.{IsCall}
use Rattle.hist.specs.declared.event.Entry.{Entry}
use Rattle.hist.specs.declared.event.Event.{Event}
use Rattle.hist.specs.declared.event.Event.TheVariants as events
use Rattle.hist.specs.History.{entries_of}
use Rattle.protocol.specs.declared.action.Action.{Action}
use Rattle.protocol.specs.declared.action.Action.TheVariants as actions
use Rattle.protocol.specs.declared.action.Move.TheVariants as moves
use Rattle.protocol.specs.declared.action.Outcome.{Outcome}
use Rattle.protocol.specs.CallTree.{Tree, Over, Makes, Issuer, number_in, call_tree}
use Rattle.protocol.specs.Views.{Moves, held_by, held_after, held_of, entry_of, logged_by, logged, core_log, answers_of, is_last, call_moves, issuer_of, next_serial}
use Rattle.protocol.specs.Permitted.{Follows, HasSerial, most_entries}
use Rattle.protocol_steps.proofs.Views.{call_more, issuer_more, call_over}
use Rattle.core_behaviour.specs.Course.{Course}
use Rattle.core_behaviour.specs.Core.{Core, made}
use Rattle.core_behaviour.specs.Called.{in_call, reply_in, found_in}
use Rattle.core_laws.proofs.Tidy.{IsReply, AreRows, MakesFit, IsReplied, IsTidy}
use Rattle.core_laws.proofs.Permits.{ActionFits, IsPermitted}

-- the entry of a call that has this reply
pub record IsEntry (shape : Shape) (call : Call) (reply : Reply) (e : Entry) (before log : List Event) : Type 0 where
  pub of_call : e.call ≡ call
  pub of_reply : e.reply ≡ reply
  pub range : is_done reply ≡ true → IsInRange shape call
  pub logged : log ≡ before ++ events.Entry e ∷ []

-- what a call has logged: nothing before its reply, and then its entry
abbrev pub HasLogged : Shape → Call → Option Reply → List Event → List Event → Type 0
HasLogged shape call None before log = log ≡ before
HasLogged shape call (Some reply) before log = (e : Entry) × IsEntry shape call reply e before log

-- a call is over that made these moves, where the core had the log `before`
pub record IsCalled (shape : Shape) (core : ℕ) (call : Call) (before : List Event) (ms : Moves) (done : List (Action × Outcome)) : Type 0 where
  pub idle : call_moves ms ≡ []
  pub reply : Reply
  pub replied : reply_in done ≡ Some reply
  pub fits : IsReply reply
  pub rows : AreRows (found_in done)
  pub entry : Entry
  pub is_entry : IsEntry shape call reply entry before (core_log core ms)

-- the core with what its moves have logged and answered
abbrev pub core_with : ℕ → Core → Moves → Core
core_with core c ms = record c { log = core_log core ms; answers = answers_of ms }

module _ (shape : Shape) (core : ℕ) (low : core < 16) (by : Issuer) (few : by.serial + 1 ≤ most_entries) (call : Call) (is_call : IsCall call) (c : Core) (number : c.number ≡ core) (before : List Event) (first : length (entries_of before) ≡ by.serial) where
  -- ---- one move

  serial : (a : Action) (reply : Option Reply) (ms : Moves) → MakesFit shape call reply a → HasLogged shape call reply before (core_log core ms) → HasSerial (next_serial core ms) a
  serial (actions.Draw draft) reply ms fit has =
      let none : core_log core ms ≡ before = subst (λ z. HasLogged shape call z before (core_log core ms)) fit.first has in
      let same : next_serial core ms ≡ by.serial = ap (λ z. length (entries_of z)) none ∙ first in
      omega arith
  serial (actions.TryLock o) reply ms fit has = tt
  serial (actions.Read o i) reply ms fit has = tt
  serial (actions.Write o i word) reply ms fit has = tt
  serial (actions.Unlock o) reply ms fit has = tt
  serial (actions.Load i) reply ms fit has = tt
  serial (actions.Store i word) reply ms fit has = tt

  fits : (a : Action) (reply : Option Reply) (ms : Moves) → MakesFit shape call reply a → issuer_of core ms ≡ by → ActionFits core ms a
  fits (actions.TryLock o) reply ms fit e =
      let same : (issuer_of core ms).serial ≡ by.serial = ap (λ (z : Issuer). z.serial) e in
      omega arith
  fits (actions.Draw draft) reply ms fit e = tt
  fits (actions.Read o i) reply ms fit e = tt
  fits (actions.Write o i word) reply ms fit e = fit
  fits (actions.Unlock o) reply ms fit e = tt
  fits (actions.Load i) reply ms fit e = tt
  fits (actions.Store i word) reply ms fit e = fit

  -- a move that is no Draw logs nothing, and a Draw the entry
  logs : (a : Action) (out : Outcome) (done : List (Action × Outcome)) (ms : Moves) → MakesFit shape call (reply_in done) a → HasLogged shape call (reply_in done) before (core_log core ms) → HasLogged shape call (reply_in ((a, out) ∷ done)) before (core_log core ((moves.InCall a, out) ∷ ms))
  unfolding reply_in core_log logged logged_by
  logs (actions.Draw draft) out done ms fit has = (
    entry_of core draft (number_in out),
    record {
      of_call = fit.of_call;
      of_reply = refl;
      range = fit.range;
      logged = ap (λ (z : List Event). z ++ events.Entry (entry_of core draft (number_in out)) ∷ []) (subst (λ z. HasLogged shape call z before (core_log core ms)) fit.first has);
    },
  )
  logs (actions.TryLock o) out done ms fit has = subst (HasLogged shape call (reply_in done) before) (sym (append-nil (core_log core ms))) has
  logs (actions.Read o i) out done ms fit has = subst (HasLogged shape call (reply_in done) before) (sym (append-nil (core_log core ms))) has
  logs (actions.Write o i word) out done ms fit has = subst (HasLogged shape call (reply_in done) before) (sym (append-nil (core_log core ms))) has
  logs (actions.Unlock o) out done ms fit has = subst (HasLogged shape call (reply_in done) before) (sym (append-nil (core_log core ms))) has
  logs (actions.Load i) out done ms fit has = subst (HasLogged shape call (reply_in done) before) (sym (append-nil (core_log core ms))) has
  logs (actions.Store i word) out done ms fit has = subst (HasLogged shape call (reply_in done) before) (sym (append-nil (core_log core ms))) has

  -- the core after it
  core_made : (a : Action) (out : Outcome) (ms : Moves) → made (core_with core c ms) (moves.InCall a) out ≡ core_with core c ((moves.InCall a, out) ∷ ms)
  unfolding core_log answers_of logged
  core_made a out ms = ap (λ n. record c { log = core_log core ms ++ logged_by n a out; answers = answers_of ((moves.InCall a, out) ∷ ms) }) number

  held_more : (a : Action) (out : Outcome) (ms : Moves) → held_of ((moves.InCall a, out) ∷ ms) ≡ held_by a out (held_of ms)
  unfolding held_of held_after
  held_more a out ms = refl

  -- ---- the whole

  -- how far a call is, of which this tree is left
  pub record IsDoing (ms : Moves) (done : List (Action × Outcome)) (rest : Tree) : Type 0 where
    pub under_way : call_moves ms ≡ done
    pub issuer : issuer_of core ms ≡ by
    pub follows : Follows (call_tree shape by call) done rest
    pub has : HasLogged shape call (reply_in done) before (core_log core ms)

  module _ (next : Core → List (Action × Outcome) → Course) (then_all : (ms : Moves) (done : List (Action × Outcome)) → IsCalled shape core call before ms done → IsPermitted shape core ms (next (core_with core c ms) done)) where
    over : (rest : Tree) (ms : Moves) (done : List (Action × Outcome)) (d : Core) (reply : Option Reply) → rest ≡ Over → d ≡ core_with core c ms → reply_in done ≡ reply → IsReplied reply → AreRows (found_in done) → call_moves ms ≡ [] → HasLogged shape call reply before (core_log core ms) → IsPermitted shape core ms (in_call rest done d next)
    unfolding in_call
    over Over ms done d None e f r fit rows idle has = absurd fit
    over Over ms done d (Some reply) e f r fit rows idle has =
        subst (λ z. IsPermitted shape core ms (next z done)) (sym f)
        (then_all ms done (record { idle = idle; reply = reply; replied = r; fits = fit; rows = rows; entry = has.0; is_entry = has.1 }))
    over (Makes a k) ms done d reply e f r fit rows idle has = absurd (cc)

    pub all_in_call : (rest : Tree) (ms : Moves) (done : List (Action × Outcome)) (d : Core) → d ≡ core_with core c ms → IsDoing ms done rest → IsTidy shape call (held_of ms) (found_in done) (reply_in done) rest → IsPermitted shape core ms (in_call rest done d next)
    unfolding in_call found_in reply_in
    all_in_call Over ms done d f doing tidy = absurd tidy
    all_in_call (Makes a k) ms done d f doing tidy = (
      record {
        call = call;
        next = k;
        is_call = is_call;
        follows = subst (λ z. Follows (call_tree shape z call) (call_moves ms) (Makes a k)) (sym doing.issuer) (subst (λ z. Follows (call_tree shape by call) z (Makes a k)) (sym doing.under_way) doing.follows);
        serial = serial a (reply_in done) ms tidy.0 doing.has;
      },
      fits a (reply_in done) ms tidy.0 doing.issuer,
      λ out m.
          (let more : Moves = (moves.InCall a, out) ∷ ms in
          let after : List (Action × Outcome) = (a, out) ∷ done in
          let t = tidy.1 out m in
          let has : HasLogged shape call (reply_in after) before (core_log core more) = logs a out done ms tidy.0 doing.has in
          let g : made d (moves.InCall a) out ≡ core_with core c more = ap (λ z. made z (moves.InCall a) out) f ∙ core_made a out ms in
          elim (cases_Bool (is_last a (held_by a out (held_of ms)))) [
            | inl last ↦
                let end = t.1 last in
                over (k out) more after (made d (moves.InCall a) out) (reply_in after) end.over g refl end.replied end.rows (call_over core a out ms last) has
            | inr goes ↦
                all_in_call (k out) more after (made d (moves.InCall a) out) g
                (record {
                  under_way = call_more core a out ms goes ∙ ap (λ z. (a, out) ∷ z) doing.under_way;
                  issuer = issuer_more core a out ms goes ∙ doing.issuer;
                  follows = (k, doing.follows, refl);
                  has = has;
                })
                (subst (λ z. IsTidy shape call z (found_in after) (reply_in after) (k out)) (sym (held_more a out ms)) (t.0 goes))
          ]),
    )
