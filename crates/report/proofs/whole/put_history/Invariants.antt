use Rattle.std.proofs.Common.{◌≤◌}
use Rattle.std.specs.List.{flat_map, AllByRecursion}
use Rattle.hist.specs.Printing.{IsPrintable}
use Rattle.report.specs.Calls.{call_line}
use Rattle.report.specs.Report.{calls_text}
use Rattle.std.specs.Io.KnownBytes.{Appends}
use Rattle.text_out.proofs.Pieces.{Begun}
use Rattle.report.proofs.whole.put_history.Given as goal

abbrev pub invariant-loop-entry : goal.invariant-loop-entry
invariant-loop-entry g l = record {
  printable : AllByRecursion IsPrintable l.entry-iterator;
  lines : Begun (Appends (g.K.Sink.taken l.fn.out) (g.K.Sink.taken l.out)) (flat_map call_line l.entry-iterator) (calls_text l.logs);
  later : g.K.Sink.faults l.fn.out ≤ g.K.Sink.faults l.out;
}
