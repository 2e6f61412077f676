use Rattle.std.proofs.Common.{◌≡◌, ◌+◌, ◌≤◌, length}
use Rattle.text_in.specs.Lines.{lines_of}
use Rattle.llc.specs.Reading.{trace_from}
use Rattle.llc.proofs.read.find_head.Given as goal

abbrev pub invariant-loop-rest : goal.invariant-loop-rest
invariant-loop-rest l = record {
  read : trace_from l.line (lines_of l.rest) ≡ trace_from 1 (lines_of l.bytes);
  within : l.line + length l.rest ≤ length l.bytes + 1;
}

abbrev pub decreases-loop-rest : goal.decreases-loop-rest
decreases-loop-rest l = length l.rest
