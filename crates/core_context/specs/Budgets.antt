-- When a core has too little room left in its log and for its answers. This project's own.
use Rattle.std.specs.Prelude.{ℕ, ◌-◌, Bool, nat_lt, ◌||◌}
use Rattle.mon_types.specs.Budgets.{event_budget, answer_budget, line_events, line_answers}

-- whether too little is left of a budget for one more line or turn, where so many events were logged and so many
-- answers were given
abbrev pub is_spent_by : ℕ → ℕ → Bool
is_spent_by events answers =
    nat_lt (event_budget - events) line_events || nat_lt (answer_budget - answers) line_answers
