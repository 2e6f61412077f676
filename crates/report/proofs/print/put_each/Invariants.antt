use Rattle.std.proofs.Common.{◌≤◌, drop}
use Rattle.report.specs.Objects.{numbered}
use Rattle.std.specs.Io.KnownBytes.{Appends}
use Rattle.text_out.proofs.Pieces.{Begun}
use Rattle.report.proofs.print.put_each.Given as goal

abbrev pub invariant-loop-number : goal.invariant-loop-number
invariant-loop-number g l = record {
  lines : Begun (Appends (g.K.Sink.taken l.fn.out) (g.K.Sink.taken l.out)) (numbered g.T.Print.text l.number (drop l.number l.items)) (numbered g.T.Print.text 0 l.items);
  later : g.K.Sink.faults l.fn.out ≤ g.K.Sink.faults l.out;
}
