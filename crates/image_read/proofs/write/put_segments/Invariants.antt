use Rattle.std.proofs.Common.{◌≤◌, drop}
use Rattle.std.specs.List.{flat_map}
use Rattle.std.specs.Io.KnownBytes.{Appends}
use Rattle.text_out.proofs.Pieces.{Begun}
use Rattle.image_read.specs.Image.{segment_text}
use Rattle.image_read.specs.Told.{Covers}
use Rattle.image_read.proofs.write.put_segments.Given as goal

abbrev pub invariant-loop-segment : goal.invariant-loop-segment
invariant-loop-segment g l = record {
  text : Begun (Appends (g.K.Sink.taken l.fn.out) (g.K.Sink.taken l.out)) (flat_map segment_text (drop l.segment-index l.segments)) (flat_map segment_text l.segments);
  tally : Begun (Covers (g.T.Tally.told l.fn.tally) (g.T.Tally.told l.tally)) (flat_map segment_text (drop l.segment-index l.segments)) (flat_map segment_text l.segments);
  later : g.K.Sink.faults l.fn.out ≤ g.K.Sink.faults l.out;
}
