-- What the event lines of a log tell, line by line.
use Rattle.std.proofs.Common.{◌≡◌, ℕ, ◌+◌, ◌≤◌, List, [], ◌∷◌, ◌++◌, length, filter, Option, Some, None, refl, sym, ap, subst, ◌∙◌, arith, append_assoc, append-nil}
use Rattle.std.specs.List.{flat_map}
use Rattle.std.proofs.lemmas.List.Elements.{filter-append}
use Rattle.mon_types.specs.Shape.{Shape}
use Rattle.hist.specs.declared.event.Entry.{Entry}
use Rattle.report_lines.specs.Reading.{event_in}
use Rattle.report_lines.specs.declared.event.EventLine.{EventLine}
use Rattle.legal_report.specs.Counted.{ticket_in}
use Rattle.legal_report.specs.Form.{events_at, with_event}
use Rattle.legal_report.specs.Drawn.{tickets_in, is_flush_named, DrawnTell, IsTold}
use Rattle.legal_report.specs.declared.drawn.Drawn.{Drawn}

-- the event lines with which lines begin
abbrev pub lines_of_log : Shape → List (List ℕ) → List EventLine
lines_of_log shape lines = (events_at shape lines).0

-- what was told, and what the lines that are left tell, is what all tell
pub record ToldSoFar (calls : List Entry) (core : ℕ) (all left : List EventLine) (drawn : Drawn) : Type 0 where
  pub events : drawn.events + length left ≡ length all
  pub tickets : drawn.tickets ++ tickets_in left ≡ tickets_in all
  pub flushes : drawn.flushes ++ filter (is_flush_named calls core) (tickets_in left) ≡ filter (is_flush_named calls core) (tickets_in all)

pub nothing_told : (calls : List Entry) (core : ℕ) (all : List EventLine) (drawn : Drawn) → drawn.events ≡ 0 → drawn.tickets ≡ [] → drawn.flushes ≡ [] → ToldSoFar calls core all all drawn
nothing_told calls core all drawn e t f = record {
  events = omega (arith, e);
  tickets = ap (λ (ts : List ℕ). ts ++ tickets_in all) t;
  flushes = ap (λ (ts : List ℕ). ts ++ filter (is_flush_named calls core) (tickets_in all)) f;
}

one_told : (calls : List Entry) (core : ℕ) (all left : List EventLine) (event : EventLine) (before after : Drawn) → ToldSoFar calls core all (event ∷ left) before → IsTold calls core event before after → ToldSoFar calls core all left after
one_told calls core all left event before after so told = record {
  events = omega (arith, so.events, told.events);
  tickets = ap (λ (ts : List ℕ). ts ++ tickets_in left) told.tickets ∙ append_assoc before.tickets (ticket_in event) (tickets_in left) ∙ so.tickets;
  flushes =
      ap (λ (ts : List ℕ). ts ++ filter (is_flush_named calls core) (tickets_in left)) told.flushes
      ∙ append_assoc before.flushes (filter (is_flush_named calls core) (ticket_in event)) (filter (is_flush_named calls core) (tickets_in left))
      ∙ ap (λ (ts : List ℕ). before.flushes ++ ts) (sym (filter-append (is_flush_named calls core) (ticket_in event) (tickets_in left))) ∙ so.flushes;
}

event_first : (shape : Shape) (line : List ℕ) (more : List (List ℕ)) (event : EventLine) → event_in shape line ≡ Some event → lines_of_log shape (line ∷ more) ≡ event ∷ lines_of_log shape more
unfolding events_at
event_first shape line more event is = ap (λ (o : Option EventLine). (with_event o (line ∷ more) (events_at shape more)).0) is

no_event_first : (shape : Shape) (line : List ℕ) (more : List (List ℕ)) → event_in shape line ≡ None → lines_of_log shape (line ∷ more) ≡ []
unfolding events_at
no_event_first shape line more is = ap (λ (o : Option EventLine). (with_event o (line ∷ more) (events_at shape more)).0) is

no_lines_told : (shape : Shape) → lines_of_log shape [] ≡ []
unfolding events_at
no_lines_told shape = refl

pub line_told : (shape : Shape) (calls : List Entry) (core : ℕ) (all : List EventLine) (left more : List (List ℕ)) (line : List ℕ) (read : Option EventLine) (event : EventLine) (before after : Drawn) → left ≡ line ∷ more → read ≡ event_in shape line → read ≡ Some event
    → ToldSoFar calls core all (lines_of_log shape left) before → IsTold calls core event before after → ToldSoFar calls core all (lines_of_log shape more) after
line_told shape calls core all left more line read event before after l r is so told =
    one_told calls core all (lines_of_log shape more) event before after
    (subst (λ (es : List EventLine). ToldSoFar calls core all es before) (ap (lines_of_log shape) l ∙ event_first shape line more event (sym r ∙ is)) so) told

told_all : (calls : List Entry) (core : ℕ) (all : List EventLine) (drawn : Drawn) → ToldSoFar calls core all [] drawn → DrawnTell calls core all drawn
told_all calls core all drawn so = record {
  events = omega (arith, so.events);
  tickets = sym (append-nil drawn.tickets) ∙ so.tickets;
  flushes = sym (append-nil drawn.flushes) ∙ so.flushes;
}

pub told_to_other : (shape : Shape) (calls : List Entry) (core : ℕ) (all : List EventLine) (left more : List (List ℕ)) (line : List ℕ) (read : Option EventLine) (drawn : Drawn) → left ≡ line ∷ more → read ≡ event_in shape line → read ≡ None
    → ToldSoFar calls core all (lines_of_log shape left) drawn → DrawnTell calls core all drawn
told_to_other shape calls core all left more line read drawn l r is so =
    told_all calls core all drawn (subst (λ (es : List EventLine). ToldSoFar calls core all es drawn) (ap (lines_of_log shape) l ∙ no_event_first shape line more (sym r ∙ is)) so)

pub told_to_end : (shape : Shape) (calls : List Entry) (core : ℕ) (all : List EventLine) (left : List (List ℕ)) (drawn : Drawn) → left ≡ [] → ToldSoFar calls core all (lines_of_log shape left) drawn → DrawnTell calls core all drawn
told_to_end shape calls core all left drawn l so =
    told_all calls core all drawn (subst (λ (es : List EventLine). ToldSoFar calls core all es drawn) (ap (lines_of_log shape) l ∙ no_lines_told shape) so)
