use Rattle.std.proofs.Common.{◌≤◌, drop}
use Rattle.std.specs.List.{flat_map}
use Rattle.std.specs.Io.KnownBytes.{Appends}
use Rattle.text_out.proofs.Pieces.{Begun}
use Rattle.llc.specs.Tallies.{tally_line}
use Rattle.llc.proofs.print.put_tallies.Given as goal

abbrev pub invariant-loop-tally : goal.invariant-loop-tally
invariant-loop-tally g l = record {
  lines : Begun (Appends (g.K.Sink.taken l.fn.out) (g.K.Sink.taken l.out)) (flat_map tally_line (drop l.tally-index l.tallies)) (flat_map tally_line l.tallies);
  later : g.K.Sink.faults l.fn.out ≤ g.K.Sink.faults l.out;
}
