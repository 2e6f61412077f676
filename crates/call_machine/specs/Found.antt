-- What a call has found, by the objects that it holds and the words of their rows. This project's own.
use Rattle.std.specs.Prelude.{ℕ, ◌+◌, List, [], ◌∷◌, ◌++◌, take, drop}
use Rattle.mon_types.specs.Shape.{Shape}
use Rattle.mon_types.specs.Objects.{width}
use Rattle.mon_types.specs.Owns.{region_from}
use Rattle.mon_types.specs.Enclaves.{enclave_from, enclave_within}
use Rattle.mon_types.specs.Threads.{thread_from}
use Rattle.mon_types.specs.Cells.{cell_from}
use Rattle.mon_types.specs.declared.object.ObjectId.{ObjectId}
use Rattle.mon_types.specs.declared.object.ObjectId.TheVariants as objects
use Rattle.mon_types.specs.declared.region.Region.{Region}
use Rattle.mon_types.specs.declared.enclave.Enclave.{Enclave}
use Rattle.mon_types.specs.declared.thread.Thread.{Thread}
use Rattle.lock_plan.specs.declared.held.Held.{Held}
use Rattle.mon_records.specs.Rows.{Found}
use Rattle.mon_types.specs.Owns.{region_row}
use Rattle.mon_types.specs.Enclaves.{enclave_row}
use Rattle.mon_types.specs.Threads.{thread_row}
use Rattle.mon_types.specs.Cells.{cell_row}

-- how many words the rows of these objects have
unfoldable pub widths : List ObjectId → ℕ
widths [] = 0
widths (o ∷ os) = width o + widths os

-- these objects, each with its row, in front of what was found before; the rows stand one after the other in the words
unfoldable pub found_with : List ObjectId → List ℕ → Found → Found
found_with [] words found = found
found_with (o ∷ os) words found = found_with os (drop (width o) words) ((o, take (width o) words) ∷ found)

-- these records, and behind them that of an object whose row these words are
unfoldable pub with_row : Shape → ObjectId → List ℕ → Held → Held
with_row shape (objects.Enclave e) words h =
    record h { enclaves = record { items = h.enclaves.items ++ (e, enclave_within shape (enclave_from words)) ∷ [] } }
with_row shape (objects.Thread t) words h =
    record h { threads = record { items = h.threads.items ++ (t, thread_from words) ∷ [] } }
with_row shape (objects.Region r) words h =
    record h { regions = record { items = h.regions.items ++ (r, region_from words) ∷ [] } }
with_row shape (objects.Cell c) words h =
    record h { cells = record { items = h.cells.items ++ (c, cell_from words) ∷ [] } }

-- the rows of enclaves, one after the other
unfoldable pub enclave_rows : List (ℕ × Enclave) → List ℕ
enclave_rows [] = []
enclave_rows (x ∷ xs) = enclave_row x.1 ++ enclave_rows xs

-- of threads
unfoldable pub thread_rows : List (ℕ × Thread) → List ℕ
thread_rows [] = []
thread_rows (x ∷ xs) = thread_row x.1 ++ thread_rows xs

-- of regions
unfoldable pub region_rows : List (ℕ × Region) → List ℕ
region_rows [] = []
region_rows (x ∷ xs) = region_row x.1 ++ region_rows xs

-- of cells
unfoldable pub cell_rows : List (ℕ × ℕ) → List ℕ
cell_rows [] = []
cell_rows (x ∷ xs) = cell_row x.1 ++ cell_rows xs

-- the rows of all records that are held, in the order in which their objects are tried
unfoldable pub held_rows : Held → List ℕ
held_rows h =
    enclave_rows h.enclaves.items
    ++ (thread_rows h.threads.items ++ (region_rows h.regions.items ++ cell_rows h.cells.items))
