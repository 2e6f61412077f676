use Rattle.std.proofs.Common.{◌≤◌, ◌+◌, length}
use Rattle.text_in.specs.Lines.{lines_of}
use Rattle.rv_asm.specs.Parts.{spots_in}
use Rattle.rv_asm.specs.Reading.{most_bytes, lines_from}
use Rattle.rv_asm.proofs.Words.{AreSoFar}
use Rattle.rv_asm.proofs.program.read_lines.Given as goal

abbrev pub invariant-loop-rest : goal.invariant-loop-rest
invariant-loop-rest l = record {
  so_far : AreSoFar (lines_from l.limit (spots_in l.labels) 1 0 (lines_of l.text)) l.words.items (lines_from l.limit (spots_in l.labels) (l.number + 1) (length l.words.items) (lines_of l.rest));
  few : length l.words.items ≤ l.limit;
  lines : l.number + length l.rest ≤ most_bytes;
}

abbrev pub decreases-loop-rest : goal.decreases-loop-rest
decreases-loop-rest l = length l.rest
