-- The records that the rows of a list of words hold. This project's own.
use Rattle.std.specs.Prelude.{ℕ, List}
use Rattle.mon_types.specs.Shape.{Shape}
use Rattle.mon_types.specs.Objects.{width}
use Rattle.mon_types.specs.Owns.{region_from}
use Rattle.mon_types.specs.Enclaves.{enclave_from, enclave_within}
use Rattle.mon_types.specs.Threads.{thread_from}
use Rattle.mon_types.specs.Cells.{cell_from}
use Rattle.mon_types.specs.declared.region.Region.{Region}
use Rattle.mon_types.specs.declared.enclave.Enclave.{Enclave}
use Rattle.mon_types.specs.declared.thread.Thread.{Thread}
use Rattle.mon_types.specs.declared.object.ObjectId.{ObjectId}
use Rattle.mon_types.specs.declared.object.ObjectId.TheVariants as objects
use Rattle.protocol.specs.Layout.{row_index}
use Rattle.word_list.specs.Pieces.{words_at}

-- the words of an object's row
abbrev pub row_listed : Shape → List ℕ → ObjectId → List ℕ
row_listed shape words o = words_at words (row_index shape o) (width o)

-- the record of a region
abbrev pub region_listed : Shape → List ℕ → ℕ → Region
region_listed shape words r = region_from (row_listed shape words (objects.Region r))

-- of an enclave slot
abbrev pub enclave_listed : Shape → List ℕ → ℕ → Enclave
enclave_listed shape words e = enclave_within shape (enclave_from (row_listed shape words (objects.Enclave e)))

-- of a thread slot
abbrev pub thread_listed : Shape → List ℕ → ℕ → Thread
thread_listed shape words t = thread_from (row_listed shape words (objects.Thread t))

-- and the ticket of a core's last flush
abbrev pub cell_listed : Shape → List ℕ → ℕ → ℕ
cell_listed shape words core = cell_from (row_listed shape words (objects.Cell core))
