use Rattle.std.proofs.Common.{ap, subst, arith}
use Rattle.std.specs.List.{flat_map, AllByRecursion}
use Rattle.hist.specs.Printing.{IsPrintable}
use Rattle.report.specs.Calls.{call_line}
use Rattle.report.specs.Report.{calls_text}
use Rattle.text_out.proofs.Pieces.{goes_on, cut_off}
use Rattle.report.proofs.whole.put_history.Goals as goal

pub line_of_call-requires : goal.line_of_call-requires
line_of_call-requires g c = (subst (AllByRecursion IsPrintable) c.in-Some.ensures.steps c.loop-entry.invariant.printable).0

pub returns-in_err-put_line-clause-lines : goal.returns-in_err-put_line-clause-lines
returns-in_err-put_line-clause-lines g c =
    let taken = g.K.Sink.taken in
    cut_off (taken c.args.out.now) (taken c.loop-entry.out) (taken c.put_line.new.out) c.from_residual.result (flat_map call_line c.loop-entry.entry-iterator) (call_line c.in-Some.entry.now) (flat_map call_line c.next.new.self) (calls_text c.args.logs.now)
    (ap (flat_map call_line) c.in-Some.ensures.steps) c.loop-entry.invariant.lines c.from_residual.ensures.0 (rw c.line_of_call.ensures at c.in_err-put_line.ensures.text.err)

pub loop-entry-preserved : goal.loop-entry-preserved
loop-entry-preserved g c =
    let taken = g.K.Sink.taken in
    record {
      printable = (subst (AllByRecursion IsPrintable) c.in-Some.ensures.steps c.loop-entry.invariant.printable).1;
      lines = goes_on (taken c.args.out.now) (taken c.loop-entry.out) (taken c.put_line.new.out) (flat_map call_line c.loop-entry.entry-iterator) (call_line c.in-Some.entry.now) (flat_map call_line c.next.new.self) (calls_text c.args.logs.now)
          (ap (flat_map call_line) c.in-Some.ensures.steps) c.loop-entry.invariant.lines (rw c.line_of_call.ensures at c.in_ok-put_line.ensures.text.ok);
      later = omega (arith, c.loop-entry.invariant.later, c.in_ok-put_line.ensures.cause.later);
    }
