-- What the depots in memory tell, how a read of them ends, and what it counts. All of it is this
-- project's own.
use Rattle.std.specs.Prelude.{ℕ, Bool, true, false, List, Option, Some, None}
use Rattle.sm_ports.specs.Causes.{one_more}
use Rattle.sm_ports.specs.Failures.{is_listed}
use Rattle.sm_ports.specs.Files.{file_of, still_file_of, piece_size}
use Rattle.sm_ports.specs.declared.failures.Failures.{Failures}
use Rattle.sm_ports.specs.declared.depots.MapDepot.{MapDepot}
use Rattle.sm_ports.specs.declared.depots.StillDepot.{StillDepot}
use Rattle.sm_ports.specs.declared.depots.DripDepot.{DripDepot}

-- the file of a name in a `MapDepot`; none where the name is missing
abbrev pub contents_of : MapDepot → List ℕ → Option (List ℕ)
contents_of d = file_of d.files.items

-- a name's count of faults, by its file: the missing names share one count, and the others another
abbrev pub faults_by : Option (List ℕ) → ℕ → ℕ → ℕ
faults_by None present missing = missing
faults_by (Some bytes) present missing = present

-- the faults that a `MapDepot` has counted for a name
abbrev pub faults_of : MapDepot → List ℕ → ℕ
faults_of d name = faults_by (contents_of d name) d.present d.missing

-- which calls of a `MapDepot` are made to fail, and how many there were
abbrev pub failures_of : MapDepot → Failures
failures_of d = d.failures

-- how many bytes a read gets, by whether it is made to fail and by the file that was asked for: none
-- where it is made to fail, and none where the file is missing
abbrev pub size_by : Bool → Option (List ℕ) → ℕ → ℕ → Option ℕ
size_by true file at room = None
size_by false None at room = None
size_by false (Some bytes) at room = Some (piece_size bytes at room)

-- how many bytes a `MapDepot` gives at its next call
abbrev pub read_size : MapDepot → List ℕ → ℕ → ℕ → Option ℕ
read_size d name at room = size_by (is_listed (failures_of d)) (contents_of d name) at room

-- a name's count after a read, by the file that was asked for and the name's own: one more for each
-- name where the read was made to fail, and else one more for the missing names where the one that was
-- asked for is missing
abbrev pub count_by : Bool → Option (List ℕ) → Option (List ℕ) → ℕ → ℕ
count_by true asked own count = one_more count
count_by false None None count = one_more count
count_by false None (Some bytes) count = count
count_by false (Some bytes) own count = count

-- a name's count in a `MapDepot` after its next call, which asks for `asked`
abbrev pub count_after : MapDepot → List ℕ → List ℕ → ℕ
count_after d asked name =
    count_by (is_listed (failures_of d)) (contents_of d asked) (contents_of d name) (faults_of d name)

-- the depot whose reads a `DripDepot` cuts short
abbrev pub whole_of : DripDepot → MapDepot
whole_of d = d.whole

-- how many bytes a `DripDepot` gives at most
abbrev pub most_of : DripDepot → ℕ
most_of d = d.most

-- the file of a name in a `StillDepot`, for which no name is missing
abbrev pub still_contents_of : StillDepot → List ℕ → Option (List ℕ)
still_contents_of d = still_file_of d.files.items
