-- The sequential monitor between two calls. This project's own.
use Rattle.std.specs.Prelude.{ℕ, ◌+◌, List}
use Rattle.mon_types.specs.declared.call.Call.{Call}
use Rattle.mon_model.specs.State.{State}
use Rattle.mon_model.specs.Step.{after}

-- the state, and how many tickets were spent
pub record Sequential : Type 0 where
  pub state : State
  pub ticket : ℕ

-- after one more call, at the next ticket; digest is that of the page that a load_page reads
abbrev pub then_call : Sequential → ℕ → Call → List ℕ → Sequential
then_call m core call digest = record { state = after m.state core call digest (m.ticket + 1); ticket = m.ticket + 1 }

-- after a ticket that no call of this monitor draws
abbrev pub then_skip : Sequential → Sequential
then_skip m = record { state = m.state; ticket = m.ticket + 1 }
