-- How many answers and events the parts of a line or a turn need. Together no line and no turn needs more than 600
-- answers and 79 events, whatever guest code does. This project's own.
use Rattle.std.specs.Prelude.{ℕ, ◌+◌, ⊤}
use Rattle.mon_types.specs.declared.script.Line.{Line}
use Rattle.mon_types.specs.declared.script.Line.TheVariants as lines

-- one access: at each of three levels a look and the load of an entry, and the look at the page itself
abbrev pub access_answers : ℕ
access_answers = 7

-- each of these four looks may be a touch
abbrev pub access_events : ℕ
access_events = 4

-- one monitor call: three page-table entries on a path, and the 512 words of a page
abbrev pub call_answers : ℕ
call_answers = 515

-- an instruction that was fetched: an access, a word of its own, and a trap, which is a call inside an enclave
abbrev pub instruction_answers : ℕ
instruction_answers = access_answers + 1 + call_answers

-- and an event for the trap, beside those of the access
abbrev pub instruction_events : ℕ
instruction_events = access_events + 1

-- a line of its own; the turns of a `run` line have each their own bound
abbrev pub RunsNoTurns : Line → Type 0
RunsNoTurns (lines.Run count) = ⊥
RunsNoTurns _ = ⊤
