use Rattle.std.proofs.Common.{◌≤◌, drop}
use Rattle.std.specs.List.{flat_map}
use Rattle.std.specs.Io.KnownBytes.{Appends}
use Rattle.text_out.proofs.Pieces.{Begun}
use Rattle.image_read.specs.Image.{start_text}
use Rattle.image_read.specs.Told.{Covers}
use Rattle.image_read.proofs.write.put_starts.Given as goal

abbrev pub invariant-loop-start : goal.invariant-loop-start
invariant-loop-start g l = record {
  text : Begun (Appends (g.K.Sink.taken l.fn.out) (g.K.Sink.taken l.out)) (flat_map start_text (drop l.start-index l.starts)) (flat_map start_text l.starts);
  tally : Begun (Covers (g.T.Tally.told l.fn.tally) (g.T.Tally.told l.tally)) (flat_map start_text (drop l.start-index l.starts)) (flat_map start_text l.starts);
  later : g.K.Sink.faults l.fn.out ≤ g.K.Sink.faults l.out;
}
