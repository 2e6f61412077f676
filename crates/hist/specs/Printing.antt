-- What a report can tell of a history. This project's own.
use Rattle.std.specs.Prelude.{◌≡◌, ◌≤◌, ⊤, List, is_some}
use Rattle.std.specs.List.{AllByRecursion}
use Rattle.mon_types.specs.declared.reply.Reply.{Reply}
use Rattle.mon_types.specs.declared.reply.Reply.TheVariants as replies
use Rattle.hist.specs.declared.event.Entry.{Entry}
use Rattle.hist.specs.declared.event.Event.{Event}
use Rattle.hist.specs.History.{history}
use Rattle.hist.specs.Legal.{has_its_page}

-- a reply of Ok has at most the eight words that it holds
abbrev pub HasFewWords : Reply → Type 0
HasFewWords (replies.Ok count words) = count ≤ 8
HasFewWords _ = ⊤

-- an entry that a call line can tell: no more words than there are, and a page exactly where it is a
-- load_page that answered Ok
pub record IsPrintable (e : Entry) : Type 0 where
  pub few : HasFewWords e.reply
  pub page : is_some e.page ≡ has_its_page e

-- each entry of these logs
abbrev pub ArePrintable : List (List Event) → Type 0
ArePrintable logs = AllByRecursion IsPrintable (history logs)
