use Rattle.std.proofs.Common.{◌≡◌, ◌+◌, ◌*◌, ◌++◌, length, take}
use Rattle.report.specs.Objects.{measure_text}
use Rattle.report.proofs.objects.add_measure.Given as goal

abbrev pub invariant-loop-word : goal.invariant-loop-word
invariant-loop-word l = record {
  text : l.line ≡ l.fn.line ++ measure_text (take l.word-index l.words);
  len : length l.line ≡ length l.fn.line + 16 * l.word-index;
}
