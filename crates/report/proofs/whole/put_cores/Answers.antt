use Rattle.std.proofs.Common.{◌+◌, drop, arith}
use Rattle.mon_types.specs.declared.thread.Mode.TheVariants as modes
use Rattle.report.specs.Tables.{core_lines}
use Rattle.text_out.proofs.Pieces.{goes_on, cut_off}
use Rattle.report.proofs.Pieces.{core_lines_next}
use Rattle.report.proofs.whole.put_cores.Goals as goal

pub returns-in_err-put_line-clause-lines : goal.returns-in_err-put_line-clause-lines
returns-in_err-put_line-clause-lines g c =
    let taken = g.K.Sink.taken in
    let kinds = c.args.modes.now in
    let flushed = c.args.flushed.now in
    let i = c.loop-c.c in
    cut_off (taken c.args.out.now) (taken c.loop-c.out) (taken c.put_line.new.out) c.from_residual.result (core_lines i (drop i kinds) (drop i flushed)) _ (core_lines (i + 1) (drop (i + 1) kinds) (drop (i + 1) flushed)) (core_lines 0 kinds flushed)
    (core_lines_next kinds flushed i modes.Os 0 c.loop-c-test.true (omega arith)) c.loop-c.invariant.lines c.from_residual.ensures.0 (rw c.line_of_core.ensures at c.in_err-put_line.ensures.text.err)

pub loop-c-preserved : goal.loop-c-preserved
loop-c-preserved g c =
    let taken = g.K.Sink.taken in
    let kinds = c.args.modes.now in
    let flushed = c.args.flushed.now in
    let i = c.loop-c.c in
    record {
      lines = goes_on (taken c.args.out.now) (taken c.loop-c.out) (taken c.put_line.new.out) (core_lines i (drop i kinds) (drop i flushed)) _ (core_lines (i + 1) (drop (i + 1) kinds) (drop (i + 1) flushed)) (core_lines 0 kinds flushed)
          (core_lines_next kinds flushed i modes.Os 0 c.loop-c-test.true (omega arith)) c.loop-c.invariant.lines (rw c.line_of_core.ensures at c.in_ok-put_line.ensures.text.ok);
      later = omega (arith, c.loop-c.invariant.later, c.in_ok-put_line.ensures.cause.later);
    }
