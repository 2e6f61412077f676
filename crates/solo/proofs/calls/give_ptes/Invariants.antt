use Rattle.std.proofs.Common.{◌≡◌, ◌+◌, ◌++◌, length, map, take}
use Rattle.dram_map.specs.Words.{word_at}
use Rattle.solo.proofs.calls.give_ptes.Given as goal

abbrev pub invariant-loop-place : goal.invariant-loop-place
invariant-loop-place l = record {
  words : l.answers ≡ l.fn.answers ++ map (word_at l.memory) (take l.place-index l.places);
  size : length l.answers ≡ length l.fn.answers + l.place-index;
}
