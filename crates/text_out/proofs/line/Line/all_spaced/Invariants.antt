use Rattle.std.proofs.Common.{◌≡◌, ◌≤◌, ◌+◌, ◌*◌, ◌++◌, length, take}
use Rattle.text_out.specs.Texts.{all_spaced}
use Rattle.text_out.proofs.line.Line.all_spaced.Given as goal

abbrev pub invariant-loop-number : goal.invariant-loop-number
invariant-loop-number l = record {
  text : l.self ≡ l.fn.self ++ all_spaced (take l.number-index l.numbers);
  len : length l.self ≤ length l.fn.self + 21 * l.number-index;
}
