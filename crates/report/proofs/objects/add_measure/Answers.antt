use Rattle.std.proofs.Common.{arith}
use Rattle.report.proofs.Digits.{measure_begun, measure_grows}
use Rattle.report.proofs.objects.add_measure.Goals as goal

pub loop-word-init : goal.loop-word-init
loop-word-init c = record { text = measure_begun c.args.line.now; len = omega arith }

pub loop-word-preserved : goal.loop-word-preserved
loop-word-preserved c = record {
  text = measure_grows c.args.words.now c.args.line.now c.loop-word.line c.hex.new.self c.loop-word.word-index 0 (omega arith) c.loop-word.invariant.text (rw c.to_le_bytes.ensures at c.hex.ensures.text);
  len = omega (arith, c.hex.ensures.len, c.loop-word.invariant.len);
}
