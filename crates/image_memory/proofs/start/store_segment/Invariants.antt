use Rattle.std.proofs.Common.{◌≡◌, ℕ, ◌<◌, length}
use Rattle.std.specs.Prelude.{slice_index}
use Rattle.image_memory.proofs.Stored.{word_after}
use Rattle.image_memory.proofs.start.store_segment.Given as goal

abbrev pub invariant-loop-i : goal.invariant-loop-i
invariant-loop-i l = record {
  size : length l.memory ≡ length l.fn.memory;
  words : (j : ℕ) → j < length l.fn.memory → slice_index l.memory j ≡ word_after l.fn.memory l.words l.first l.i j;
}
