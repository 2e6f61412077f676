use Rattle.std.proofs.Common.{◌≡◌, ◌≤◌, ℕ, List, length, ◌+◌, ◌*◌}
use Rattle.std.specs.Option.{option_or}
use Rattle.text_in.specs.Lines.{lines_of}
use Rattle.rv_asm.specs.Parts.{spots_in}
use Rattle.rv_asm.specs.Reading.{most_bytes, labels_from, spot_in, spots_of}
use Rattle.rv_asm.proofs.label.find_labels.Given as goal

abbrev pub invariant-loop-rest : goal.invariant-loop-rest
invariant-loop-rest l = record {
  spots : (name : List ℕ) → option_or (spots_in l.labels name) (spot_in (labels_from l.limit l.spot.line l.spot.words (lines_of l.rest)) name) ≡ spots_of l.limit (lines_of l.text) name;
  lines : l.spot.line + length l.rest ≤ 1 + most_bytes;
  words : l.spot.words ≤ l.limit + 2 * l.spot.line;
}

abbrev pub decreases-loop-rest : goal.decreases-loop-rest
decreases-loop-rest l = length l.rest
