-- Each call of a legal history adds its item to the measurement of its slot.
use Rattle.std.proofs.Common.{◌≡◌, ℕ, zero, suc, Bool, true, false, cond, List, [], ◌∷◌, ◌++◌, map, take, refl, sym, subst, append-nil, append_assoc}
use Rattle.mon_types.specs.Shape.{Shape}
use Rattle.mon_types.specs.declared.reply.Reply.{Reply}
use Rattle.mon_types.specs.declared.reply.Reply.TheVariants as replies
use Rattle.mon_model.specs.State.{State, start}
use Rattle.mon_types.specs.Replies.{is_done, is_concurrent}
use Rattle.mon_model.specs.Step.{reply_of, after}
use Rattle.mon_model.specs.Measured.{Answered, IsMeasured}
use Rattle.mon_model.specs.EveryMeasure.{start_measured, after_measured, refused_measured}
use Rattle.hist.specs.declared.event.Entry.{Entry}
use Rattle.hist.specs.declared.event.Event.{Event}
use Rattle.hist.specs.History.{history, digest_of, after_entry, after_entries, state_after, last_state}
use Rattle.hist.specs.Legal.{IsLegalEntry, AreLegalEntries, Legal}
use Rattle.hist.specs.Measured.{answer_of}

not_done : (reply : Reply) → is_concurrent reply ≡ true → is_done reply ≡ false
not_done (replies.Ok count words) h = absurd (cc)
not_done _ h = refl

entry_measured : (h : List Answered) (s : State) (e : Entry) → IsMeasured h s → IsLegalEntry s e → IsMeasured (h ++ answer_of e ∷ []) (after_entry s e)
entry_measured h s e before legal = by (is_concurrent e.reply) (not_done e.reply) legal.reply
  where
    x : State
    x = after s e.core e.call (digest_of e.page) e.ticket

    by : (b : Bool) → (b ≡ true → is_done e.reply ≡ false) → (b ≡ false → e.reply ≡ reply_of s e.core e.call) → IsMeasured (h ++ answer_of e ∷ []) (cond b s x)
    by true refused reply = refused_measured h s (answer_of e) (refused refl) before
    by false refused reply =
        subst (λ (r : Reply). IsMeasured (h ++ record { call = e.call; reply = r; digest = digest_of e.page } ∷ []) x) (sym (reply refl)) (after_measured h s e.core e.call (digest_of e.page) e.ticket before)

entries_measured : (h : List Answered) (s : State) (es : List Entry) → IsMeasured h s → AreLegalEntries s es → IsMeasured (h ++ map answer_of es) (after_entries s es)
entries_measured h s [] before legal = subst (λ (xs : List Answered). IsMeasured xs s) (sym (append-nil h)) before
entries_measured h s (e ∷ es) before legal =
    subst (λ (xs : List Answered). IsMeasured xs (after_entries (after_entry s e) es)) (append_assoc h (answer_of e ∷ []) (map answer_of es))
    (entries_measured (h ++ answer_of e ∷ []) (after_entry s e) es (entry_measured h s e before legal.0) legal.1)

front_legal : (s : State) (k : ℕ) (es : List Entry) → AreLegalEntries s es → AreLegalEntries s (take k es)
front_legal s zero es legal = tt
front_legal s (suc k) [] legal = tt
front_legal s (suc k) (e ∷ es) legal = (legal.0, front_legal (after_entry s e) k es legal.1)

pub history_measured : (shape : Shape) (logs : List (List Event)) (k : ℕ) → Legal shape logs → IsMeasured (map answer_of (take k (history logs))) (state_after shape logs k)
history_measured shape logs k legal =
    entries_measured [] (start shape) (take k (history logs)) (start_measured shape) (front_legal (start shape) k (history logs) legal.entries)

pub last_measured : (shape : Shape) (logs : List (List Event)) → Legal shape logs → IsMeasured (map answer_of (history logs)) (last_state shape logs)
last_measured shape logs legal = entries_measured [] (start shape) (history logs) (start_measured shape) legal.entries
