use Rattle.std.proofs.Common.{◌≡◌, ◌≤◌}
use Rattle.std.specs.Slice.Iter.{chunks_rest, chunks_size}
use Rattle.std.specs.Io.KnownBytes.{Appends}
use Rattle.text_out.proofs.Pieces.{Begun}
use Rattle.image_read.specs.Image.{words_text}
use Rattle.image_read.specs.Told.{Covers}
use Rattle.image_read.proofs.write.put_words.Given as goal

abbrev pub invariant-loop-block : goal.invariant-loop-block
invariant-loop-block g l = record {
  can : (goal.iterator-loop-block g).can_next l.block-iterator;
  finite : (goal.iterator-loop-block g).is_finite l.block-iterator;
  size : chunks_size l.block-iterator ≡ 512;
  text : Begun (Appends (g.K.Sink.taken l.fn.out) (g.K.Sink.taken l.out)) (words_text (chunks_rest l.block-iterator)) (words_text l.words);
  tally : Begun (Covers (g.T.Tally.told l.fn.tally) (g.T.Tally.told l.tally)) (words_text (chunks_rest l.block-iterator)) (words_text l.words);
  later : g.K.Sink.faults l.fn.out ≤ g.K.Sink.faults l.out;
}
