use Rattle.std.proofs.Common.{◌+◌, drop, arith}
use Rattle.report.specs.Objects.{numbered}
use Rattle.text_out.proofs.Pieces.{begun, goes_on, cut_off, ended}
use Rattle.report.proofs.Pieces.{numbered_next, numbered_all}
use Rattle.report.proofs.print.put_each.Goals as goal

pub loop-number-init : goal.loop-number-init
loop-number-init g c = record { lines = begun (g.K.Sink.taken c.args.out.now) (numbered g.T.Print.text 0 c.args.items.now); later = omega arith }

pub loop-number-preserved : goal.loop-number-preserved
loop-number-preserved g c =
    let taken = g.K.Sink.taken in
    let text = g.T.Print.text in
    let i = c.loop-number.number in
    record {
      lines = goes_on (taken c.args.out.now) (taken c.loop-number.out) (taken c.print.new.out) (numbered text i (drop i c.args.items.now)) (text i c.index-items-number.result) (numbered text (i + 1) (drop (i + 1) c.args.items.now)) (numbered text 0 c.args.items.now)
          (numbered_next text c.args.items.now i c.index-items-number.result c.loop-number-test.true c.index-items-number.is) c.loop-number.invariant.lines c.in_ok-print.ensures.lines.ok;
      later = omega (arith, c.loop-number.invariant.later, c.in_ok-print.ensures.cause.later);
    }

pub returns-in_err-print-clause-lines : goal.returns-in_err-print-clause-lines
returns-in_err-print-clause-lines g c =
    let taken = g.K.Sink.taken in
    let text = g.T.Print.text in
    let i = c.loop-number.number in
    cut_off (taken c.args.out.now) (taken c.loop-number.out) (taken c.print.new.out) c.from_residual.result (numbered text i (drop i c.args.items.now)) (text i c.index-items-number.result) (numbered text (i + 1) (drop (i + 1) c.args.items.now)) (numbered text 0 c.args.items.now)
    (numbered_next text c.args.items.now i c.index-items-number.result c.loop-number-test.true c.index-items-number.is) c.loop-number.invariant.lines c.from_residual.ensures.0 c.in_err-print.ensures.lines.err

pub returns-clause-lines : goal.returns-clause-lines
returns-clause-lines g c =
    let taken = g.K.Sink.taken in
    let text = g.T.Print.text in
    let i = c.loop-number.number in
    record {
      ok = ended (taken c.args.out.now) (taken c.loop-number.out) (numbered text i (drop i c.args.items.now)) (numbered text 0 c.args.items.now) (numbered_all text c.args.items.now i c.loop-number-test.false) c.loop-number.invariant.lines;
      err = tt;
    }
