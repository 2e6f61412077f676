-- Held records by their places, and with other records in these places. This project's own.
use Rattle.std.specs.Prelude.{ℕ, ◌==◌, nat_lt, if◌then◌else◌, List, [], ◌∷◌, map, Option, Some, None}
use Rattle.mon_types.specs.Owns.{os_word}
use Rattle.mon_types.specs.declared.region.Region.{Region}
use Rattle.mon_types.specs.declared.enclave.Enclave.{Enclave}
use Rattle.mon_types.specs.declared.thread.Thread.{Thread}
use Rattle.lock_plan.specs.declared.held.Held.{Held}
use Rattle.lock_plan.specs.Plan.{first_enclave, second_enclave}

-- ---- the records

-- the flush tickets of all cells that are held
abbrev pub tickets_held : Held → List ℕ
tickets_held h = map (λ cell. cell.1) h.cells.items

-- the enclave to which a region is assigned, None for the OS
abbrev pub assignee_held : ℕ → Held → Option Enclave
assignee_held to h = if to == os_word then None else Some (first_enclave h)

-- the enclave to which a message is sent: of the sender and the target the one with the lower number stands first
abbrev pub target_held : ℕ → ℕ → Held → Enclave
target_held own to h =
    if own == to then first_enclave h
    else if nat_lt own to then second_enclave h
    else first_enclave h

-- ---- other records in their places

module _ {X : Type 0} where
  -- another record at the first place, and at the second; a list that has no such place stays
  abbrev pub first_put : X → List (ℕ × X) → List (ℕ × X)
  first_put x [] = []
  first_put x (y ∷ ys) = (y.0, x) ∷ ys

  abbrev pub second_put : X → List (ℕ × X) → List (ℕ × X)
  second_put x [] = []
  second_put x (y ∷ ys) = y ∷ first_put x ys

-- another record of the first enclave that is held
abbrev pub put_enclave : Held → Enclave → Held
put_enclave h x = record h { enclaves = record { items = first_put x h.enclaves.items } }

-- of the second
abbrev pub put_second : Held → Enclave → Held
put_second h x = record h { enclaves = record { items = second_put x h.enclaves.items } }

-- of the first thread
abbrev pub put_thread : Held → Thread → Held
put_thread h x = record h { threads = record { items = first_put x h.threads.items } }

-- of the first region
abbrev pub put_region : Held → Region → Held
put_region h x = record h { regions = record { items = first_put x h.regions.items } }

-- of the first cell
abbrev pub put_cell : Held → ℕ → Held
put_cell h k = record h { cells = record { items = first_put k h.cells.items } }
