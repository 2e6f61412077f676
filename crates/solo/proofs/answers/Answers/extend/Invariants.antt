use Rattle.std.proofs.Common.{◌≡◌, ◌+◌, ◌++◌, length, take}
use Rattle.solo.proofs.answers.Answers.extend.Given as goal

abbrev pub invariant-loop-word : goal.invariant-loop-word
invariant-loop-word l = record {
  words : l.self ≡ l.fn.self ++ take l.word-index l.words;
  size : length l.self ≡ length l.fn.self + l.word-index;
}
