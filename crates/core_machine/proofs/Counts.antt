-- The counts of a core are those of its log and its answers, after each move of a call.
use Rattle.std.proofs.Common.{◌≡◌, ◌∙◌, ◌+◌, ℕ, Bool, true, false, cond, List, [], ◌∷◌, ◌++◌, length, fold, ap, sym, refl, subst, arith, append-nil, length-append}
use Rattle.std.proofs.lemmas.Grind.{flat_map-append}
use Rattle.std.proofs.lemmas.List.Sums.{fold-append}
use Rattle.mon_types.specs.Replies.{is_done}
use Rattle.mon_types.specs.declared.thread.Mode.{Mode}
use Rattle.mon_types.specs.declared.thread.Mode.TheVariants as modes
use Rattle.mon_model.specs.OnCore.{mode_by}
use Rattle.hist.specs.declared.event.Entry.{Entry}
use Rattle.hist.specs.declared.event.Event.{Event}
use Rattle.hist.specs.declared.event.Event.TheVariants as events
use Rattle.hist.specs.declared.event.Why.{Why}
use Rattle.hist.specs.History.{entry_in, entries_of}
use Rattle.hist.specs.SafeLog.{mode_after}
use Rattle.protocol.specs.declared.action.Action.{Action}
use Rattle.protocol.specs.declared.action.Action.TheVariants as actions
use Rattle.protocol.specs.declared.action.Draft.{Draft}
use Rattle.protocol.specs.declared.action.Outcome.{Outcome}
use Rattle.protocol.specs.CallTree.{number_in}
use Rattle.protocol.specs.Views.{entry_of, logged_by, answered_by, word_in}
use Rattle.core_machine.specs.declared.own.Own.{Own}
use Rattle.core_machine.specs.Own.{IsCounted, counted, limited}

entries_behind : (log : List Event) (event : Event) → entries_of (log ++ event ∷ []) ≡ entries_of log ++ entry_in event
entries_behind log event = flat_map-append entry_in log (event ∷ [])
    ∙ ap (λ (es : List Entry). entries_of log ++ es) (append-nil (entry_in event))

modes_behind : (es : List Entry) (e : Entry) → mode_after (es ++ e ∷ []) ≡ cond (is_done e.reply) (mode_by e.call (mode_after es)) (mode_after es)
modes_behind es e = fold-append (λ before x. cond (is_done x.reply) (mode_by x.call before) before) modes.Os es (e ∷ [])

-- a move that logs nothing, and is given these words
given : (own : Own) (log : List Event) (answers more : List ℕ) (n : ℕ) → n ≡ length more → IsCounted own log answers
    → IsCounted (record own { serial = own.serial + 0; counts = record { events = own.counts.events + 0; answers = own.counts.answers + n } }) (log ++ []) (answers ++ more)
given own log answers more n e h = record {
  events = omega (arith, ap (λ l. length l) (append-nil log), h.events);
  answers = omega (arith, length-append answers more, h.answers, e);
  serial = omega (arith, ap (λ l. length (entries_of l)) (append-nil log), h.serial);
  mode = ap (λ l. mode_after (entries_of l)) (append-nil log) ∙ h.mode;
}

-- a Draw
drawn_counts : (own : Own) (log : List Event) (answers : List ℕ) (draft : Draft) (out : Outcome) → IsCounted own log answers
    → IsCounted (counted own (actions.Draw draft) out) (log ++ events.Entry (entry_of own.number draft (number_in out)) ∷ []) (answers ++ [])
unfolding answered_by
drawn_counts own log answers draft out h =
    let e = entry_of own.number draft (number_in out) in
    let more = entries_behind log (events.Entry e) in
    record {
      events = omega (arith, length-append log (events.Entry e ∷ []), h.events);
      answers = omega (arith, ap (λ l. length l) (append-nil answers), h.answers);
      serial = omega (arith, ap (λ l. length l) more, length-append (entries_of log) (e ∷ []), h.serial);
      mode = ap mode_after more ∙ modes_behind (entries_of log) e ∙ ap (λ m. cond (is_done draft.reply) (mode_by draft.call m) m) h.mode;
    }

-- any move
pub move_counts : (own : Own) (log : List Event) (answers : List ℕ) (a : Action) (out : Outcome) → IsCounted own log answers
    → IsCounted (counted own a out) (log ++ logged_by own.number a out) (answers ++ answered_by a out)
unfolding logged_by answered_by
move_counts own log answers (actions.TryLock o) out h = given own log answers [] 0 refl h
move_counts own log answers (actions.Read o i) out h = given own log answers [] 0 refl h
move_counts own log answers (actions.Write o i word) out h = given own log answers [] 0 refl h
move_counts own log answers (actions.Draw draft) out h = drawn_counts own log answers draft out h
move_counts own log answers (actions.Unlock o) out h = given own log answers [] 0 refl h
move_counts own log answers (actions.Load i) out h = given own log answers (word_in out) (length (word_in out)) refl h
move_counts own log answers (actions.Store i word) out h = given own log answers [] 0 refl h

-- a Limit
pub limit_counts : (own : Own) (log : List Event) (answers : List ℕ) (line : ℕ) (why : Why) → IsCounted own log answers
    → IsCounted (limited own) (log ++ events.Stop line why ∷ []) (answers ++ [])
limit_counts own log answers line why h =
    let more = entries_behind log (events.Stop line why) ∙ append-nil (entries_of log) in
    record {
      events = omega (arith, length-append log (events.Stop line why ∷ []), h.events);
      answers = ap (λ l. length l) (append-nil answers) ∙ h.answers;
      serial = ap (λ l. length l) more ∙ h.serial;
      mode = ap mode_after more ∙ h.mode;
    }
