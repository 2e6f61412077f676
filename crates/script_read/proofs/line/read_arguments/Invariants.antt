use Rattle.std.proofs.Common.{◌≡◌, ◌+◌, ◌-◌, length, replicate, take, drop}
use Rattle.text_in.specs.Words.{words_of}
use Rattle.script_read.specs.Reading.{arguments_of}
use Rattle.script_read.proofs.Arguments.{behind}
use Rattle.script_read.proofs.line.read_arguments.Given as goal

abbrev pub invariant-loop-word : goal.invariant-loop-word
invariant-loop-word l = record {
  read : behind (take l.place l.args) (arguments_of l.form l.place (words_of l.rest)) ≡ arguments_of l.form 0 (words_of l.text);
  words : l.place + length (words_of l.rest) ≡ length (words_of l.text);
  zeros : drop l.place l.args ≡ replicate (7 - l.place) 0;
  size : length l.args ≡ 7;
}

abbrev pub decreases-loop-word : goal.decreases-loop-word
decreases-loop-word l = length l.rest
