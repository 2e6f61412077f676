-- When logs can be merged, and what is left to come of them. This project's own.
use Rattle.std.specs.Prelude.{◌≡◌, ◌≢◌, ℕ, ◌<◌, ◌≤◌, List, [], ◌∷◌, ◌++◌, length, map, slice_index_or, Option, Some, None}
use Rattle.std.specs.List.{flat_map, AllByRecursion}
use Rattle.std.specs.Borrow.{Bor}
use Rattle.hist.specs.declared.event.Entry.{Entry}
use Rattle.hist.specs.declared.event.Event.{Event}
use Rattle.hist.specs.declared.event.Event.TheVariants as events
use Rattle.hist.specs.declared.merge.First.{First}
use Rattle.hist.specs.History.{entries_of, in_ticket_order}

-- each ticket is below all later ones
abbrev pub Ascend : List Entry → Type 0
Ascend [] = Unit {0}
Ascend (e ∷ es) = AllByRecursion (λ x. e.ticket < x.ticket) es × Ascend es

-- no ticket stands in both lists
abbrev pub ShareNoTicket : List Entry → List Entry → Type 0
ShareNoTicket xs ys = AllByRecursion (λ x. AllByRecursion (λ y. x.ticket ≢ y.ticket) ys) xs

-- the tickets ascend in each list, and none stands in two
abbrev pub AreApart : List (List Entry) → Type 0
AreApart [] = Unit {0}
AreApart (es ∷ lists) = Ascend es × AllByRecursion (ShareNoTicket es) lists × AreApart lists

-- What a merge asks: there are at most 16 logs, the tickets ascend in each, and no ticket stands in
-- two.
pub record CanMerge (logs : List (List Event)) : Type 0 where
  pub few : length logs ≤ 16
  pub apart : AreApart (map entries_of logs)

-- ---- inside a merge, where these events of each log are left

-- the entries that are left of one log
abbrev pub entries_left : Bor (List Event) → List Entry
entries_left rest = entries_of rest.now

-- what is left to come of all logs
abbrev pub left_by_ticket : List (Bor (List Event)) → List Entry
left_by_ticket rests = in_ticket_order (flat_map entries_left rests)

-- no other event comes before the next entry
abbrev pub BeginsWithEntry : List Event → Type 0
BeginsWithEntry [] = Unit {0}
BeginsWithEntry (events.Entry e ∷ later) = Unit {0}
BeginsWithEntry (events.Touch region since ∷ later) = ⊥
BeginsWithEntry (events.Stop line why ∷ later) = ⊥

-- what holds of the rests of all logs: they can be merged, and each begins with an entry
pub record AreStillLeft (rests : List (Bor (List Event))) : Type 0 where
  pub apart : AreApart (map entries_left rests)
  pub begin : AllByRecursion (λ rest. BeginsWithEntry rest.now) rests

-- the list is over, or begins with no earlier entry
abbrev pub BeginsNoEarlier : Entry → List Entry → Type 0
BeginsNoEarlier e [] = Unit {0}
BeginsNoEarlier e (x ∷ xs) = e.ticket ≤ x.ticket

-- the entry with which one of the lists begins, where no other list begins with an earlier one
pub record BeginsEarliest (lists : List (List Entry)) (first : First) : Type 0 where
  pub among : first.at < length lists
  pub begins : slice_index_or lists first.at [] ≡ first.entry.now ∷ entries_of first.after.now
  pub no_earlier : AllByRecursion (BeginsNoEarlier first.entry.now) lists

-- None where all lists are over
abbrev pub IsEarliest : List (List Entry) → Option First → Type 0
IsEarliest lists None = AllByRecursion (λ es. es ≡ []) lists
IsEarliest lists (Some first) = BeginsEarliest lists first

-- the earliest of any lists becomes the earliest of these and of one list behind them
abbrev pub TakesIn : List Entry → ℕ → Option First → Option First → Type 0
TakesIn es at before after =
    (lists : List (List Entry)) → length lists ≡ at → IsEarliest lists before → IsEarliest (lists ++ es ∷ []) after
