-- Legal logs, and the logs of one core.
use Rattle.std.proofs.Common.{◌≡◌, ◌≢◌, ℕ, suc, ◌+◌, ◌<◌, ◌≤◌, Bool, true, false, List, [], ◌∷◌, ◌++◌, length, map, refl, sym, subst, arith, if◌then◌else◌, ltb, append-nil}
use Rattle.std.specs.List.{flat_map, AllByRecursion}
use Rattle.mon_types.specs.Shape.{Shape}
use Rattle.mon_types.specs.declared.reply.Reply.{Reply}
use Rattle.mon_types.specs.declared.reply.Reply.TheVariants as replies
use Rattle.mon_model.specs.State.{State, start}
use Rattle.mon_types.specs.Replies.{is_concurrent}
use Rattle.mon_model.specs.EveryReply.{HoldsOfReplies, reply_has}
use Rattle.hist.specs.declared.event.Entry.{Entry}
use Rattle.hist.specs.declared.event.Event.{Event}
use Rattle.hist.specs.History.{entries_of, log_of, placed, in_ticket_order, history, after_entry}
use Rattle.hist.specs.Legal.{AreTickets, AreOwn, AreOwnLogs, IsLegalEntry, AreLegalEntries, Legal}
use Rattle.hist.specs.Merging.{Ascend, ShareNoTicket, AreApart, CanMerge}
use Rattle.hist.specs.Printing.{HasFewWords, IsPrintable, ArePrintable}
use Rattle.hist.specs.Busy.{UnderWay, IsRightlyBusy, AreRightlyBusy, Busy}
use Rattle.hist.proofs.Ordered.{all_weaker, AreAbove, Avoids, joined, joined_map}
use Rattle.hist.proofs.Ascending.{AreDistinct, all_ordered}

-- ---- one log ascends

pub own_above : (core serial before : ℕ) (es : List Entry) → AreOwn core serial before es → AreAbove before es
own_above core serial before [] own = tt
own_above core serial before (e ∷ es) own =
    (own.0.ascends, all_weaker (λ x. e.ticket < x.ticket) (λ x. before < x.ticket) (λ x lt. omega (arith, own.0.ascends)) es (own_above core (serial + 1) e.ticket es own.1))

pub own_ascends : (core serial before : ℕ) (es : List Entry) → AreOwn core serial before es → Ascend es
own_ascends core serial before [] own = tt
own_ascends core serial before (e ∷ es) own = (own_above core (serial + 1) e.ticket es own.1, own_ascends core (serial + 1) e.ticket es own.1)

-- ---- no ticket of a history stands twice

tickets_differ : (t k : ℕ) (es : List Entry) → t < k → AreTickets k es → AllByRecursion (λ y. t ≢ y.ticket) es
tickets_differ t k [] lt tickets = tt
tickets_differ t k (e ∷ es) lt tickets = ((λ same. absurd (omega (arith, tickets.0))), tickets_differ t (k + 1) es (omega arith) tickets.1)

tickets_distinct : (k : ℕ) (es : List Entry) → AreTickets k es → AreDistinct es
tickets_distinct k [] tickets = tt
tickets_distinct k (e ∷ es) tickets = (tickets_differ e.ticket (k + 1) es (omega (arith, tickets.0)) tickets.1, tickets_distinct (k + 1) es tickets.1)

-- what holds of each entry once one of them has its place
pub of_placed : (P : Entry → Type 0) (e : Entry) (es : List Entry) → AllByRecursion P (placed e es) → P e × AllByRecursion P es
of_placed P e [] all = all
of_placed P e (x ∷ es) all =
    (elim (ltb e.ticket x.ticket) as (λ b. AllByRecursion P (if b then e ∷ x ∷ es else x ∷ placed e es) → P e × AllByRecursion P (x ∷ es)) [
      | true ↦ λ here. here
      | false ↦ λ later. let rest = of_placed P e es later.1 in (rest.0, (later.0, rest.1))
    ])
    all

distinct_placed : (e : Entry) (es : List Entry) → AreDistinct (placed e es) → Avoids e es × AreDistinct es
distinct_placed e [] distinct = distinct
distinct_placed e (x ∷ es) distinct =
    (elim (ltb e.ticket x.ticket) as (λ b. AreDistinct (if b then e ∷ x ∷ es else x ∷ placed e es) → Avoids e (x ∷ es) × AreDistinct (x ∷ es)) [
      | true ↦ λ here. here
      | false ↦ λ later.
          let avoids = of_placed (λ y. x.ticket ≢ y.ticket) e es later.0 in
          let rest = distinct_placed e es later.1 in
          (((λ same. avoids.0 (sym same)), rest.0), (avoids.1, rest.1))
    ])
    distinct

distinct_ordered : (es : List Entry) → AreDistinct (in_ticket_order es) → AreDistinct es
distinct_ordered [] distinct = tt
distinct_ordered (e ∷ es) distinct =
    let rest = distinct_placed e (in_ticket_order es) distinct in
    (of_ordered (λ y. e.ticket ≢ y.ticket) es rest.0, distinct_ordered es rest.1)
  where
    of_ordered : (P : Entry → Type 0) (xs : List Entry) → AllByRecursion P (in_ticket_order xs) → AllByRecursion P xs
    of_ordered P [] all = tt
    of_ordered P (x ∷ xs) all = let rest = of_placed P x (in_ticket_order xs) all in (rest.0, of_ordered P xs rest.1)

-- ---- so none stands in two logs

all_split : {X : Type 0} (P : X → Type 0) (xs ys : List X) → AllByRecursion P (xs ++ ys) → AllByRecursion P xs × AllByRecursion P ys
all_split P [] ys all = (tt, all)
all_split P (x ∷ xs) ys all = let rest = all_split P xs ys all.1 in ((all.0, rest.0), rest.1)

share_split : (es xs ys : List Entry) → ShareNoTicket es (xs ++ ys) → ShareNoTicket es xs × ShareNoTicket es ys
share_split [] xs ys share = (tt, tt)
share_split (e ∷ es) xs ys share =
    let here = all_split (λ y. e.ticket ≢ y.ticket) xs ys share.0 in
    let rest = share_split es xs ys share.1 in
    ((here.0, rest.0), (here.1, rest.1))

share_each : (es : List Entry) (lists : List (List Entry)) → ShareNoTicket es (joined lists) → AllByRecursion (ShareNoTicket es) lists
share_each es [] share = tt
share_each es (xs ∷ lists) share = let both = share_split es xs (joined lists) share in (both.0, share_each es lists both.1)

distinct_split : (es others : List Entry) → AreDistinct (es ++ others) → ShareNoTicket es others × AreDistinct others
distinct_split [] others distinct = (tt, distinct)
distinct_split (e ∷ es) others distinct =
    let here = all_split (λ y. e.ticket ≢ y.ticket) es others distinct.0 in
    let rest = distinct_split es others distinct.1 in
    ((here.1, rest.0), rest.1)

-- each log ascends
each_ascends : (logs : List (List Event)) → ((i : ℕ) → i < length logs → Ascend (entries_of (log_of logs i))) → AllByRecursion Ascend (map entries_of logs)
each_ascends [] each = tt
each_ascends (log ∷ logs) each = (each 0 (omega arith), each_ascends logs (λ i lt. each (suc i) (omega arith)))

apart_lists : (lists : List (List Entry)) → AllByRecursion Ascend lists → AreDistinct (joined lists) → AreApart lists
apart_lists [] ascend distinct = tt
apart_lists (es ∷ lists) ascend distinct =
    let both = distinct_split es (joined lists) distinct in
    (ascend.0, share_each es lists both.0, apart_lists lists ascend.1 both.1)

pub legal_merges : (shape : Shape) (logs : List (List Event)) → shape.cores ≤ 16 → Legal shape logs → CanMerge logs
legal_merges shape logs few legal = record {
  few = omega (arith, legal.count);
  apart =
      apart_lists (map entries_of logs)
      (each_ascends logs (λ core lt. own_ascends core 0 0 (entries_of (log_of logs core)) (legal.own core lt)))
      (subst AreDistinct (joined_map entries_of logs) (distinct_ordered (flat_map entries_of logs) (tickets_distinct 1 (history logs) legal.tickets)));
}

-- ---- each entry can be printed

-- what holds of each reply of the monitor, and of one that names a held lock, has few words
few_words : HoldsOfReplies HasFewWords
few_words = record {
  done = omega arith;
  ok_with_word = λ a. omega arith;
  ok_with_four = λ a b c d. omega arith;
  ok_with_eight = λ words. omega arith;
  invalid_value = tt;
  invalid_state = tt;
  access_denied = tt;
  not_flushed = tt;
  unsupported = tt;
}

concurrent_few : (reply : Reply) → is_concurrent reply ≡ true → HasFewWords reply
concurrent_few (replies.Ok count words) is = absurd (cc)
concurrent_few _ is = tt

entry_printable : (s : State) (e : Entry) → IsLegalEntry s e → IsPrintable e
entry_printable s e legal = record { few = by (is_concurrent e.reply) refl; page = legal.page }
  where
    by : (b : Bool) → is_concurrent e.reply ≡ b → HasFewWords e.reply
    by true met = concurrent_few e.reply met
    by false other = subst HasFewWords (sym (legal.reply other)) (reply_has HasFewWords few_words s e.core e.call)

entries_printable : (s : State) (es : List Entry) → AreLegalEntries s es → AllByRecursion IsPrintable es
entries_printable s [] legal = tt
entries_printable s (e ∷ es) legal = (entry_printable s e legal.0, entries_printable (after_entry s e) es legal.1)

pub legal_prints : (shape : Shape) (logs : List (List Event)) → Legal shape logs → ArePrintable logs
legal_prints shape logs legal = entries_printable (start shape) (history logs) legal.entries

-- ---- one core

pub own_core : (core serial before : ℕ) (es : List Entry) → AreOwn core serial before es → AllByRecursion (λ e. e.core ≡ core) es
own_core core serial before [] own = tt
own_core core serial before (e ∷ es) own = (own.0.core, own_core core (serial + 1) e.ticket es own.1)

core_of_all : (logs : List (List Event)) → length logs ≡ 1 → AreOwnLogs logs → AllByRecursion (λ e. e.core ≡ 0) (history logs)
core_of_all [] one own = absurd (omega arith)
core_of_all (log ∷ []) one own =
    all_ordered (λ e. e.core ≡ 0) (entries_of log ++ [])
    (subst (AllByRecursion (λ e. e.core ≡ 0)) (sym (append-nil (entries_of log))) (own_core 0 0 0 (entries_of log) (own 0 (omega arith))))
core_of_all (log ∷ other ∷ logs) one own = absurd (omega arith)

module _ (shape : Shape) (h : List Entry) (now : ℕ → UnderWay) (one : shape.cores ≡ 1) where
  not_concurrent : (e : Entry) (reply : Reply) → e.core ≡ 0 → IsRightlyBusy shape h now e reply → is_concurrent reply ≡ false
  not_concurrent e (replies.ConcurrentCall lock holder serial) zero busy = absurd (omega (arith, one, busy.core, busy.other))
  not_concurrent e _ zero busy = refl

  none_concurrent : (es : List Entry) → AllByRecursion (λ e. e.core ≡ 0) es → AreRightlyBusy shape h now es → AllByRecursion (λ e. is_concurrent e.reply ≡ false) es
  none_concurrent [] cores busy = tt
  none_concurrent (e ∷ es) cores busy = (not_concurrent e e.reply cores.0 busy.0, none_concurrent es cores.1 busy.1)

pub never_busy : (shape : Shape) (logs : List (List Event)) → shape.cores ≡ 1 → length logs ≡ 1 → AreOwnLogs logs → (now : ℕ → UnderWay) → Busy shape logs now → AllByRecursion (λ e. is_concurrent e.reply ≡ false) (history logs)
never_busy shape logs one log own now busy = none_concurrent shape (history logs) now one (history logs) (core_of_all logs log own) busy.entries
