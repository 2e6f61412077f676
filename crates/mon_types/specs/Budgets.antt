-- How many events a core may log and how many answers it may be given, and the cause of an exit by a tick. This
-- project's own.
use Rattle.std.specs.Prelude.{ℕ}

-- the events that one core may log
abbrev pub event_budget : ℕ
event_budget = 16384

-- the answers that it may be given
abbrev pub answer_budget : ℕ
answer_budget = 1048576

-- the events that must be left before a line or a turn
abbrev pub line_events : ℕ
line_events = 80

-- the answers that must be left then
abbrev pub line_answers : ℕ
line_answers = 600

-- the cause that an exit by a tick saves
abbrev pub tick_cause : ℕ
tick_cause = 9223372036854775813
