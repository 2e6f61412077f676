use Rattle.std.proofs.Common.{◌≡◌, ◌++◌}
use Rattle.std.specs.Slice.Iter.{chunks_rest, chunks_size}
use Rattle.sanctum.specs.Packing.{paired}
use Rattle.sanctum.proofs.image.pair_words.Given as goal

abbrev pub invariant-loop-pair : goal.invariant-loop-pair
invariant-loop-pair l = record {
  can : goal.iterator-loop-pair.can_next l.pair-iterator;
  finite : goal.iterator-loop-pair.is_finite l.pair-iterator;
  size : chunks_size l.pair-iterator ≡ 2;
  made : l.pairs ++ paired (chunks_rest l.pair-iterator) ≡ paired l.words;
}
