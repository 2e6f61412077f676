use Rattle.std.proofs.Common.{◌≡◌, ◌+◌, ◌≤◌, length}
use Rattle.text_in.specs.Lines.{lines_of}
use Rattle.llc.specs.Reading.{accesses_from}
use Rattle.llc.proofs.Walking.{behind}
use Rattle.llc.proofs.read.read_accesses.Given as goal

abbrev pub invariant-loop-rest : goal.invariant-loop-rest
invariant-loop-rest l = record {
  read : behind l.addresses (accesses_from l.config l.line (lines_of l.rest)) ≡ accesses_from l.config l.first (lines_of l.bytes);
  within : l.line + length l.rest ≤ l.first + length l.bytes;
}

abbrev pub decreases-loop-rest : goal.decreases-loop-rest
decreases-loop-rest l = length l.rest
