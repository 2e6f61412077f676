-- A call and how many outcomes it took, and what holds of them at each moment. This project's own.
use Rattle.std.specs.Prelude.{ℕ, ◌+◌, ◌≤◌}
use Rattle.call_machine.specs.declared.work.Work.{Work}
use Rattle.call_machine.specs.Count.{left, most_moves}
use Rattle.call_machine.specs.Stands.{IsBased, phase_stands}

-- what contracts see of a call machine
pub record Called : Type 0 where
  pub work : Work
  pub made : ℕ

-- the call stands, and the moves that it made and those that are left are few
pub record IsKept (w : Work) (made : ℕ) : Type 0 where
  pub based : IsBased w
  pub stands : phase_stands w w.phase
  pub count : made + left w ≤ most_moves w.config w.call
