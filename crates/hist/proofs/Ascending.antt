-- The history of logs that can be merged ascends.
use Rattle.std.proofs.Common.{◌≡◌, ◌≢◌, ◌<◌, true, false, List, [], ◌∷◌, ◌++◌, map, refl, sym, subst, arith, if◌then◌else◌, ltb}
use Rattle.std.specs.List.{AllByRecursion}
use Rattle.std.proofs.lemmas.Bool.{ltb-true, ltb-false}
use Rattle.hist.specs.declared.event.Entry.{Entry}
use Rattle.hist.specs.declared.event.Event.{Event}
use Rattle.hist.specs.History.{entries_of, placed, in_ticket_order, history}
use Rattle.hist.specs.Merging.{Ascend, ShareNoTicket, AreApart, CanMerge}
use Rattle.hist.proofs.Ordered.{all_weaker, all_joined, Avoids, joined, joined_map}

-- what holds of an entry and of each of some others holds of each once it has its place among them
pub all_placed : (P : Entry → Type 0) (e : Entry) (es : List Entry) → P e → AllByRecursion P es → AllByRecursion P (placed e es)
all_placed P e [] here all = (here, tt)
all_placed P e (x ∷ es) here all =
    elim (ltb e.ticket x.ticket) as (λ b. AllByRecursion P (if b then e ∷ x ∷ es else x ∷ placed e es)) [ true ↦ (here, all) | false ↦ (all.0, all_placed P e es here all.1) ]

pub all_ordered : (P : Entry → Type 0) (es : List Entry) → AllByRecursion P es → AllByRecursion P (in_ticket_order es)
all_ordered P [] all = tt
all_ordered P (e ∷ es) all = all_placed P e (in_ticket_order es) all.0 (all_ordered P es all.1)

ascend_placed : (e : Entry) (es : List Entry) → Avoids e es → Ascend es → Ascend (placed e es)
ascend_placed e [] avoids ascend = (tt, tt)
ascend_placed e (x ∷ es) avoids ascend =
    (elim (ltb e.ticket x.ticket) as (λ b. ltb e.ticket x.ticket ≡ b → Ascend (if b then e ∷ x ∷ es else x ∷ placed e es)) [
      | true ↦ λ is.
          let lt : e.ticket < x.ticket = ltb-true e.ticket x.ticket is in
          ((lt, all_weaker (λ y. x.ticket < y.ticket) (λ y. e.ticket < y.ticket) (λ y h. omega arith) es ascend.0), ascend)
      | false ↦ λ is.
          let lt : x.ticket < e.ticket = omega (arith, ltb-false e.ticket x.ticket is, avoids.0) in
          (all_placed (λ y. x.ticket < y.ticket) e es lt ascend.0, ascend_placed e es avoids.1 ascend.1)
    ])
    refl

-- no ticket stands twice
abbrev pub AreDistinct : List Entry → Type 0
AreDistinct [] = Unit {0}
AreDistinct (e ∷ es) = Avoids e es × AreDistinct es

ascend_ordered : (es : List Entry) → AreDistinct es → Ascend (in_ticket_order es)
ascend_ordered [] distinct = tt
ascend_ordered (e ∷ es) distinct = ascend_placed e (in_ticket_order es) (all_ordered (λ y. e.ticket ≢ y.ticket) es distinct.0) (ascend_ordered es distinct.1)

-- a list that ascends and shares no ticket with others that have each ticket once
distinct_joined : (es others : List Entry) → Ascend es → ShareNoTicket es others → AreDistinct others → AreDistinct (es ++ others)
distinct_joined [] others ascend share distinct = distinct
distinct_joined (e ∷ es) others ascend share distinct =
    (all_joined (λ y. e.ticket ≢ y.ticket) es others (all_weaker (λ y. e.ticket < y.ticket) (λ y. e.ticket ≢ y.ticket) (λ y lt. omega arith) es ascend.0) share.0, distinct_joined es others ascend.1 share.1 distinct)

share_none : (es : List Entry) → ShareNoTicket es []
share_none [] = tt
share_none (e ∷ es) = (tt, share_none es)

share_both : (es xs ys : List Entry) → ShareNoTicket es xs → ShareNoTicket es ys → ShareNoTicket es (xs ++ ys)
share_both [] xs ys one two = tt
share_both (e ∷ es) xs ys one two = (all_joined (λ y. e.ticket ≢ y.ticket) xs ys one.0 two.0, share_both es xs ys one.1 two.1)

share_joined : (es : List Entry) (lists : List (List Entry)) → AllByRecursion (ShareNoTicket es) lists → ShareNoTicket es (joined lists)
share_joined es [] share = share_none es
share_joined es (xs ∷ lists) share = share_both es xs (joined lists) share.0 (share_joined es lists share.1)

all_distinct : (lists : List (List Entry)) → AreApart lists → AreDistinct (joined lists)
all_distinct [] apart = tt
all_distinct (es ∷ lists) apart = distinct_joined es (joined lists) apart.0 (share_joined es lists apart.1) (all_distinct lists apart.2)

pub history_ascends : (logs : List (List Event)) → CanMerge logs → Ascend (history logs)
history_ascends logs can =
    subst (λ (es : List Entry). Ascend (in_ticket_order es)) (sym (joined_map entries_of logs))
    (ascend_ordered (joined (map entries_of logs)) (all_distinct (map entries_of logs) can.apart))
