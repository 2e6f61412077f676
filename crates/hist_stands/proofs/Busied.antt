-- What is noted of refusals gives `Busy`, also while calls are under way.
use Rattle.std.proofs.Common.{◌≡◌, ℕ, suc, ◌+◌, ◌-◌, ◌<◌, ◌≤◌, List, [], ◌∷◌, ◌++◌, length, take, sym, ap, subst, ◌∙◌, arith}
use Rattle.std.specs.Prelude.{IfSome}
use Rattle.std.proofs.lemmas.List.{take_all}
use Rattle.mon_types.specs.Shape.{Shape}
use Rattle.mon_types.specs.declared.object.ObjectId.{ObjectId}
use Rattle.mon_types.specs.declared.reply.Reply.{Reply}
use Rattle.mon_types.specs.declared.reply.Reply.TheVariants as replies
use Rattle.mon_model.specs.Tries.{tries, tried_set}
use Rattle.hist.specs.declared.event.Entry.{Entry}
use Rattle.hist.specs.declared.event.Event.{Event}
use Rattle.hist.specs.History.{history}
use Rattle.hist.specs.Legal.{AreOwn}
use Rattle.hist.specs.Busy.{own, call_with_serial, call_before, UnderWay, Nothing, Taking, Refused, as_entry, TriedUpTo, TriesUpTo, MetHeldLock, IsRightlyBusy, AreRightlyBusy, Busy}
use Rattle.hist.proofs.Ordered.{all_weaker}
use Rattle.hist.proofs.Anys.{any_is, any_own}
use Rattle.hist_stands.specs.States.{state_now}
use Rattle.hist_stands.specs.Stands.{Stands, all_logs}
use Rattle.hist_stands.specs.Found.{Found, IsNoted, IsCallNoted, Notes, IsPlanned}
use Rattle.hist_stands.proofs.Serials.{CallOf, call_of, was_drawn, drawn_since, if_call, if_before}
use Rattle.hist_stands.proofs.Sorted.{same_history}

module _ (shape : Shape) (h : List Entry) (log : ℕ → List Event) (stands : Stands shape h log)
    (now : ℕ → UnderWay) where
  -- an entry, or a call that counts as one, with its note
  met_held_lock : (e : Entry) (lock : ObjectId) (holder serial k : ℕ) → k < e.ticket → TriesUpTo shape h e lock
      → Found shape h now e.core e.serial lock holder serial k
      → MetHeldLock shape h now e lock holder serial
  met_held_lock e lock holder serial k late tried found = record {
    core = found.is_core;
    other = found.other;
    tried = tried;
    held = found.held;
    begun = if_before h holder serial (λ x. x.ticket < e.ticket) (λ x i next is.
        let early = was_drawn shape h stands.legal holder mine k found.drawn i x (call_of h holder i x is)
        (omega (arith, next, found.begun)) in
        omega (arith, early, late));
    under_way = if_call (call_with_serial h holder (serial + 1))
        (λ x. IfSome (call_before h e.core e.serial) (λ own. own.ticket < x.ticket)) (λ x is.
        let since = drawn_since shape h stands.legal holder mine k found.drawn (serial + 1) x
        (call_of h holder (serial + 1) x is) found.under_way in
        if_before h e.core e.serial (λ own. own.ticket < x.ticket) (λ y i next was.
        let before = own_before y i next (call_of h e.core i y was) in
        omega (arith, since, before)));
  }
    where
      mine : AreOwn holder 0 0 (own holder h)
      mine = subst (AreOwn holder 0 0) (stands.mine holder found.is_core) (stands.serials holder found.is_core)

      own_before : (y : Entry) (i : ℕ) → e.serial ≡ suc i → CallOf h e.core i y → y.ticket ≤ k
      own_before y i next call =
          let among = any_own (λ z. z ≡ y) e.core h (λ z is. ap (λ (w : Entry). w.core) is ∙ call.of_core) call.among in
          any_is y (λ x. x.serial < e.serial → x.ticket ≤ k) (own e.core h) found.before among
          (omega (arith, next, call.is_serial))

  noted_busy : (e : Entry) (reply : Reply) → IsNoted shape h now e reply → IsRightlyBusy shape h now e reply
  noted_busy e (replies.ConcurrentCall lock holder serial) noted =
      met_held_lock e lock holder serial noted.0 noted.1 noted.3 noted.2
  noted_busy e _ noted = tt

  call_busy : (core : ℕ) (call : UnderWay) → IsCallNoted shape h now core call → IsPlanned shape h core call
      → AreRightlyBusy shape h now (as_entry h core call)
  call_busy core Nothing noted planned = tt
  call_busy core (Taking taken) noted planned = tt
  call_busy core (Refused call taken lock holder serial) noted planned =
      let all : h ≡ take (length h + 1 - 1) h = sym (take_all (length h + 1 - 1) h (omega arith)) in
      let tried = subst (λ (es : List Entry). TriedUpTo lock (tries (state_now shape es) core call)
      (tried_set (taken ++ lock ∷ []))) all planned in (
        met_held_lock _ lock holder serial noted.0 (omega (arith, noted.1.drawn)) tried noted.1,
        tt,
      )

  pub all_busy : Notes shape h now → ((core : ℕ) → core < shape.cores → IsPlanned shape h core (now core))
      → Busy shape (all_logs shape log) now
  all_busy notes planned =
      let same : h ≡ history (all_logs shape log) = sym (same_history shape h log stands) in
      record {
        entries =
            subst (λ (es : List Entry). AreRightlyBusy shape es now es) same
            (all_weaker (λ e. IsNoted shape h now e e.reply) (λ e. IsRightlyBusy shape h now e e.reply)
            (λ e noted. noted_busy e e.reply noted) h notes.entries);
        refused = λ core lt.
            subst (λ (es : List Entry). AreRightlyBusy shape es now (as_entry es core (now core))) same
            (call_busy core (now core) (notes.calls core lt) (planned core lt));
      }
