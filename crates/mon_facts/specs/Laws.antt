-- What always holds of the monitor's states: at the start, and after each call of any core of the machine. This
-- project's own.
use Rattle.std.specs.Prelude.{◌≡◌, ℕ, ◌+◌, ◌<◌, true, List}
use Rattle.mon_types.specs.Shape.{Shape, is_shape}
use Rattle.mon_types.specs.declared.call.Call.{Call}
use Rattle.mon_model.specs.State.{State, start}
use Rattle.mon_model.specs.Step.{monitor_step}
use Rattle.mon_facts.specs.Tables.{AreTables, AreDated}
use Rattle.mon_facts.specs.Facts.{FactsHold}

-- the tables at the start of a machine within the limits
abbrev pub StartHasTables : Type 0
StartHasTables = (shape : Shape) → is_shape shape ≡ true → AreTables (start shape)

-- the tables after each call of a core of the machine
abbrev pub TablesStay : Type 0
TablesStay =
    (s : State) (core : ℕ) (call : Call) (digest : List ℕ) (ticket : ℕ)
    → core < s.shape.cores → AreTables s → AreTables (monitor_step s core call digest ticket).0

-- the tickets of regions at the start
abbrev pub StartIsDated : Type 0
StartIsDated = (shape : Shape) → AreDated 0 (start shape)

-- the same after each call, at the next ticket
abbrev pub DatesStay : Type 0
DatesStay =
    (s : State) (core : ℕ) (call : Call) (digest : List ℕ) (k : ℕ)
    → AreDated k s → AreDated (k + 1) (monitor_step s core call digest (k + 1)).0

-- the same after a ticket that no call spends
abbrev pub DatesStayUnused : Type 0
DatesStayUnused = (s : State) (k : ℕ) → AreDated k s → AreDated (k + 1) s

-- the facts at the start
abbrev pub StartHasFacts : Type 0
StartHasFacts = (shape : Shape) → FactsHold (start shape)

-- the facts after each call of a core of the machine
abbrev pub FactsStay : Type 0
FactsStay =
    (s : State) (core : ℕ) (call : Call) (digest : List ℕ) (ticket : ℕ)
    → core < s.shape.cores → AreTables s → FactsHold s → FactsHold (monitor_step s core call digest ticket).0
