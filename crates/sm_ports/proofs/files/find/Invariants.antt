use Rattle.std.proofs.Common.{◌≡◌, drop}
use Rattle.sm_ports.specs.Files.{file_of}
use Rattle.sm_ports.proofs.files.find.Given as goal

abbrev pub invariant-loop-key : goal.invariant-loop-key
invariant-loop-key l = file_of (drop l.key-index l.files) l.name ≡ file_of l.files l.name
