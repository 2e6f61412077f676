-- The faults of real files and of the standard output. All of it is this project's own.
use Rattle.std.specs.Prelude.{ℕ}
use Rattle.sm_ports.specs.declared.real.FileDepot.{FileDepot}
use Rattle.sm_ports.specs.declared.real.StdSink.{StdSink}

-- the faults that a `FileDepot` has counted, which is the count of every name
abbrev pub file_faults : {R : Type 0} → FileDepot R → ℕ
file_faults d = d.faults

-- the faults that a `StdSink` has counted
abbrev pub output_faults : {R : Type 0} → StdSink R → ℕ
output_faults s = s.faults
