use Rattle.std.proofs.Common.{◌≡◌, ◌-◌, length, replicate, take, drop}
use Rattle.text_in.specs.Words.{words_of}
use Rattle.report_lines.specs.Reading.{numbers_at}
use Rattle.report_lines.proofs.Numbers.{read_on}
use Rattle.report_lines.proofs.words.numbers_at.Given as goal

abbrev pub invariant-loop-place : goal.invariant-loop-place
invariant-loop-place l = record {
  read : read_on (length l.numbers - l.place) (take l.place l.numbers) (words_of l.rest) ≡ numbers_at (length l.numbers) (words_of l.text);
  zeros : drop l.place l.numbers ≡ replicate (length l.numbers - l.place) 0;
}
