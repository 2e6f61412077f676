-- What always holds of a machine beside what its value says. This project's own.
use Rattle.std.specs.Prelude.{◌≡◌, ℕ, ◌+◌, ◌≤◌, ◌<◌, List, length}
use Rattle.mon_types.specs.Shape.{Shape, page_total}
use Rattle.dram_map.specs.Addresses.{word_total}
use Rattle.mon_seq.specs.Sequential.{Sequential}
use Rattle.hist.specs.Logged.{Logged}
use Rattle.mon_types.specs.Budgets.{event_budget}
use Rattle.core_access.specs.declared.touch.Touch.{Touch}

-- The machine is the monitor's and has one core, each call spent a ticket and was logged, as was each touch, DRAM has
-- its size and few pages, and there is room for as many events as the budget leaves.
pub record IsSoundMachine (shape : Shape) (monitor : Sequential) (made : ℕ) (touched : List Touch) (words : List ℕ)
    (log : Logged) : Type 0 where
  pub machine : monitor.state.shape ≡ shape
  pub one : shape.cores ≡ 1
  pub tickets : monitor.ticket ≡ made
  pub calls : made ≤ length log.events
  pub touches : length touched ≤ length log.events
  pub size : length words ≡ word_total shape
  pub few : page_total shape < 65536
  pub room : length log.events + log.spare ≡ event_budget
