-- Laws of rows: what reading them back gives, and how long they are.
use Rattle.std.specs.Prelude.{◌≡◌, ℕ, ◌^◌, ◌<◌, List, length, Option, Some, None, ⊤}
use Rattle.mon_types.specs.declared.region.Region.{Region}
use Rattle.mon_types.specs.declared.enclave.Enclave.{Enclave}
use Rattle.mon_types.specs.declared.thread.Thread.{Thread}
use Rattle.mon_types.specs.declared.object.ObjectId.TheVariants as objects
use Rattle.mon_types.specs.Shape.{Shape, page_total}
use Rattle.mon_types.specs.Words.{AreWords}
use Rattle.mon_types.specs.Objects.{width}
use Rattle.mon_types.specs.Owns.{IsRegion, region_row, region_from}
use Rattle.mon_types.specs.Enclaves.{IsEnclave, enclave_row, enclave_from, enclave_within}
use Rattle.mon_types.specs.Threads.{IsThread, thread_row, thread_from}
use Rattle.mon_types.specs.Cells.{cell_row, cell_from}

-- each record that is in range comes back from its row
pub record RowsReadBack : Type 0 where
  pub regions : (r : Region) → IsRegion r → region_from (region_row r) ≡ r
  pub enclaves : (e : Enclave) → IsEnclave e → enclave_from (enclave_row e) ≡ e
  pub threads : (t : Thread) → IsThread t → thread_from (thread_row t) ≡ t
  pub cells : (flushed : ℕ) → flushed < 2 ^ 32 → cell_from (cell_row flushed) ≡ flushed

-- the rows of such records are as long as their objects' rows
pub record RowsAreWide : Type 0 where
  pub regions : (r : ℕ) (region : Region) → length (region_row region) ≡ width (objects.Region r)
  pub enclaves : (e : ℕ) (x : Enclave) → IsEnclave x → length (enclave_row x) ≡ width (objects.Enclave e)
  pub threads : (t : ℕ) (x : Thread) → IsThread x → length (thread_row x) ≡ width (objects.Thread t)
  pub cells : (c flushed : ℕ) → length (cell_row flushed) ≡ width (objects.Cell c)

-- so many words of 64 bits give a record that is in range, whatever they are
pub record ReadersAreTotal : Type 0 where
  pub regions : (words : List ℕ) → IsRegion (region_from words)
  pub enclaves : (words : List ℕ) → AreWords 29 words → IsEnclave (enclave_from words)
  pub threads : (words : List ℕ) → AreWords 37 words → IsThread (thread_from words)
  pub cells : (words : List ℕ) → cell_from words < 2 ^ 32

-- no root, or a page of this machine
abbrev pub HasRootWithin : Shape → Option ℕ → Type 0
HasRootWithin m None = ⊤
HasRootWithin m (Some page) = page < page_total m

-- a record that names nothing past the machine's end is read as it is
abbrev pub WithinKeepsRecords : Type 0
WithinKeepsRecords =
    (m : Shape) (e : Enclave) → e.regions < 2 ^ m.regions → HasRootWithin m e.root → enclave_within m e ≡ e
