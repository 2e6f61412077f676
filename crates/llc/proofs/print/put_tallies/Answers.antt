use Rattle.std.proofs.Common.{◌+◌, drop, arith}
use Rattle.std.specs.List.{flat_map}
use Rattle.text_out.proofs.Pieces.{begun, goes_on, cut_off, ended, items_next, items_all}
use Rattle.llc.specs.Tallies.{tally_line}
use Rattle.llc.proofs.print.put_tallies.Goals as goal

pub loop-tally-init : goal.loop-tally-init
loop-tally-init g c = record {
  lines = begun (g.K.Sink.taken c.args.out.now) (flat_map tally_line c.args.tallies.now);
  later = omega arith;
}

pub loop-tally-preserved : goal.loop-tally-preserved
loop-tally-preserved g c =
    let taken = g.K.Sink.taken in
    let tallies = c.args.tallies.now in
    let i = c.loop-tally.tally-index in
    record {
      lines = goes_on (taken c.args.out.now) (taken c.loop-tally.out) (taken c.put_line.new.out) (flat_map tally_line (drop i tallies)) _ (flat_map tally_line (drop (i + 1) tallies)) (flat_map tally_line tallies)
          (items_next tally_line tallies i _ c.loop-tally-test.true) c.loop-tally.invariant.lines (rw c.line_of_tally.ensures at c.in_ok-put_line.ensures.text.ok);
      later = omega (arith, c.loop-tally.invariant.later, c.in_ok-put_line.ensures.cause.later);
    }

pub returns-in_err-put_line-clause-lines : goal.returns-in_err-put_line-clause-lines
returns-in_err-put_line-clause-lines g c =
    let taken = g.K.Sink.taken in
    let tallies = c.args.tallies.now in
    let i = c.loop-tally.tally-index in
    cut_off (taken c.args.out.now) (taken c.loop-tally.out) (taken c.put_line.new.out) c.from_residual.result (flat_map tally_line (drop i tallies)) _ (flat_map tally_line (drop (i + 1) tallies)) (flat_map tally_line tallies)
    (items_next tally_line tallies i _ c.loop-tally-test.true) c.loop-tally.invariant.lines c.from_residual.ensures.0 (rw c.line_of_tally.ensures at c.in_err-put_line.ensures.text.err)

pub returns-clause-lines : goal.returns-clause-lines
returns-clause-lines g c =
    let taken = g.K.Sink.taken in
    let tallies = c.args.tallies.now in
    let i = c.loop-tally.tally-index in
    record {
      ok = ended (taken c.args.out.now) (taken c.loop-tally.out) (flat_map tally_line (drop i tallies)) (flat_map tally_line tallies) (items_all tally_line tallies i c.loop-tally-test.false) c.loop-tally.invariant.lines;
      err = tt;
    }
