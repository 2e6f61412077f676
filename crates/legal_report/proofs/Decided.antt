-- Whether the line of a call is right, from its parts.
use Rattle.std.proofs.Common.{◌≡◌, ℕ, suc, ◌+◌, ◌<◌, Bool, true, false, if◌then◌else◌, List, [], ◌∷◌, ◌++◌, length, take, drop, slice_get, Option, Some, None, refl, sym, ap, subst, ◌∙◌, arith}
use Rattle.std.specs.Prelude.{is_some}
use Rattle.std.specs.Bool.{Decides}
use Rattle.std.proofs.lemmas.Bool.{true≢false}
use Rattle.mon_types.specs.Shape.{Shape}
use Rattle.mon_types.specs.Replies.{is_concurrent}
use Rattle.mon_types.specs.declared.object.ObjectId.{ObjectId}
use Rattle.mon_types.specs.declared.reply.Reply.{Reply}
use Rattle.mon_types.specs.declared.reply.Reply.TheVariants as replies
use Rattle.mon_model.specs.State.{State, start}
use Rattle.mon_model.specs.Tries.{tries, tried_set}
use Rattle.mon_model.specs.Step.{reply_of, after}
use Rattle.mon_seq.specs.Sequential.{Sequential}
use Rattle.hist.specs.declared.event.Entry.{Entry}
use Rattle.hist.specs.History.{digest_of, after_entry, after_entries}
use Rattle.hist.specs.Legal.{IsLegalEntry, has_its_page}
use Rattle.hist.specs.Busy.{own, idle, MetHeldLock, IsRightlyBusy}
use Rattle.hist.proofs.Growing.{after_more}
use Rattle.report_lines.specs.Fits.{FitsEntry}
use Rattle.legal_report.specs.Checks.{IsRightCall}
use Rattle.legal_report.specs.Counted.{counted, counted_behind, tickets_of, state_behind}
use Rattle.legal_report.proofs.Counting.{counted_more, tickets_ascend, one_place, ticket_there, is_counted}
use Rattle.legal_report.proofs.Firsts.{cut_at, as_long, taken_more}

-- ---- ticket and serial

pub numbered_by : (calls : List Entry) (k : ℕ) (e : Entry) (tickets : List ℕ) (ticket : ℕ) (b : Bool) → slice_get calls k ≡ Some e → tickets ≡ tickets_of calls e.core → ticket ≡ k + 1 → e.ticket ≡ ticket
    → Decides b (slice_get tickets e.serial ≡ Some ticket) → Decides b ((e.ticket ≡ k + 1) × (e.serial ≡ length (own e.core (take k calls))))
numbered_by calls k e tickets ticket b there t is at d =
    let n : ℕ = length (own e.core (take k calls)) in
    let here : slice_get (tickets_of calls e.core) n ≡ Some (k + 1) =
    ap (λ (es : List Entry). slice_get (tickets_of es e.core) n) (cut_at calls k e there) ∙ ticket_there (take k calls) e (drop (k + 1) calls)
    ∙ ap (λ (m : ℕ). Some (m + 1)) (as_long calls k e there) in (
      λ yes.
          let got : slice_get (tickets_of calls e.core) e.serial ≡ Some (k + 1) = ap (λ (ts : List ℕ). slice_get ts e.serial) (sym t) ∙ d.0 yes ∙ ap (λ (m : ℕ). Some m) is in
          (at ∙ is, one_place 0 (tickets_of calls e.core) e.serial n (k + 1) (tickets_ascend calls e.core) got here),
      λ both. d.1 (ap (λ (ts : List ℕ). slice_get ts e.serial) t ∙ ap (λ (m : ℕ). slice_get (tickets_of calls e.core) m) both.1 ∙ here ∙ ap (λ (m : ℕ). Some m) (sym is)),
    )

-- ---- the line

module _ (shape : Shape) (calls : List Entry) (k : ℕ) (e : Entry) (there : slice_get calls k ≡ Some e) where
  ticket_is : e.ticket ≡ k + 1 → e.ticket ≡ length (take k calls) + 1
  ticket_is t = t ∙ ap (λ (n : ℕ). n + 1) (sym (as_long calls k e there))

  module _ (ticket : e.ticket ≡ k + 1) (serial : e.serial ≡ length (own e.core (take k calls))) (fits : FitsEntry shape e) where
    same : counted_behind (take k calls) e ≡ e
    same = is_counted (take k calls) e (ticket_is ticket) serial

    -- a call that met a held lock
    pub met_decided : (lock : ObjectId) (holder i : ℕ) (b : Bool) → e.reply ≡ replies.ConcurrentCall lock holder i → Decides b (MetHeldLock shape (counted calls) idle e lock holder i) → Decides b (IsRightCall shape calls (take k calls) e)
    met_decided lock holder i b met d = (
      λ yes. record {
        ticket = ticket_is ticket;
        serial = serial;
        legal = record {
          reply = λ not_met. absurd (true≢false (sym (ap is_concurrent met) ∙ not_met));
          tried = λ not_met. absurd (true≢false (sym (ap is_concurrent met) ∙ not_met));
          page = fits.has_page;
        };
        busy =
            subst (λ (r : Reply). IsRightlyBusy shape (counted calls) idle (counted_behind (take k calls) e) r) (sym met)
            (subst (λ (x : Entry). MetHeldLock shape (counted calls) idle x lock holder i) (sym same) (d.0 yes));
      },
      λ right.
          d.1
          (subst (λ (x : Entry). MetHeldLock shape (counted calls) idle x lock holder i) same
          (subst (λ (r : Reply). IsRightlyBusy shape (counted calls) idle (counted_behind (take k calls) e) r) met right.busy)),
    )

    not_busy : (r : Reply) → is_concurrent r ≡ false → IsRightlyBusy shape (counted calls) idle (counted_behind (take k calls) e) r
    not_busy (replies.ConcurrentCall lock holder i) none = absurd (true≢false none)
    not_busy _ none = tt

    -- a call that met none
    pub made_decided : (s : State) (b : Bool) → s ≡ state_behind shape (take k calls) → is_concurrent e.reply ≡ false → Decides b ((e.reply ≡ reply_of s e.core e.call) × (e.tried ≡ tried_set (tries s e.core e.call))) → Decides b (IsRightCall shape calls (take k calls) e)
    made_decided s b state none d =
        let so : Decides b ((e.reply ≡ reply_of (state_behind shape (take k calls)) e.core e.call) × (e.tried ≡ tried_set (tries (state_behind shape (take k calls)) e.core e.call))) =
        subst (λ (x : State). Decides b ((e.reply ≡ reply_of x e.core e.call) × (e.tried ≡ tried_set (tries x e.core e.call)))) state d in (
          λ yes. record {
            ticket = ticket_is ticket;
            serial = serial;
            legal = record { reply = λ n. (so.0 yes).0; tried = λ n. (so.0 yes).1; page = fits.has_page };
            busy = not_busy e.reply none;
          },
          λ right. so.1 (right.legal.reply none, right.legal.tried none),
        )

  -- ---- the state behind it

  state_more : state_behind shape (take (k + 1) calls) ≡ after_entry (state_behind shape (take k calls)) (counted_behind (take k calls) e)
  state_more =
      ap (state_behind shape) (taken_more calls k e there) ∙ ap (after_entries (start shape)) (counted_more (take k calls) e)
      ∙ after_more (start shape) (counted (take k calls)) (counted_behind (take k calls) e)

  pub met_leaves : (m n : Sequential) → m ≡ record { state = state_behind shape (take k calls); ticket = k } → n ≡ record { state = m.state; ticket = m.ticket + 1 } → is_concurrent e.reply ≡ true
      → n ≡ record { state = state_behind shape (take (k + 1) calls); ticket = k + 1 }
  met_leaves m n was is met =
      is ∙ ap (λ (x : Sequential). record { state = x.state; ticket = x.ticket + 1 }) was
      ∙ ap (λ (s : State). record { state = s; ticket = k + 1 })
      (ap (λ (b : Bool). if b then state_behind shape (take k calls) else after (state_behind shape (take k calls)) e.core e.call (digest_of e.page) (length (take k calls) + 1)) (sym met) ∙ sym state_more)

  pub made_leaves : (m n : Sequential) → m ≡ record { state = state_behind shape (take k calls); ticket = k } → n ≡ record { state = after m.state e.core e.call (digest_of e.page) (m.ticket + 1); ticket = m.ticket + 1 } → is_concurrent e.reply ≡ false
      → n ≡ record { state = state_behind shape (take (k + 1) calls); ticket = k + 1 }
  made_leaves m n was is none =
      is ∙ ap (λ (x : Sequential). record { state = after x.state e.core e.call (digest_of e.page) (x.ticket + 1); ticket = x.ticket + 1 }) was
      ∙ ap (λ (s : State). record { state = s; ticket = k + 1 })
      (ap (λ (n : ℕ). after (state_behind shape (take k calls)) e.core e.call (digest_of e.page) (n + 1)) (sym (as_long calls k e there))
      ∙ ap (λ (b : Bool). if b then state_behind shape (take k calls) else after (state_behind shape (take k calls)) e.core e.call (digest_of e.page) (length (take k calls) + 1)) (sym none) ∙ sym state_more)

pub met_none : (r : Reply) → ((lock : ObjectId) (holder serial : ℕ) → r ≡ replies.ConcurrentCall lock holder serial → ⊥) → is_concurrent r ≡ false
met_none (replies.ConcurrentCall lock holder serial) none = absurd (none lock holder serial refl)
met_none _ none = refl
