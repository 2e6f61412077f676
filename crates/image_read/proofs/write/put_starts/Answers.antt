use Rattle.std.proofs.Common.{◌+◌, drop, arith}
use Rattle.std.specs.List.{flat_map}
use Rattle.text_out.proofs.Pieces.{begun, begun_by, goes_on, goes_on_by, cut_off, ended, ended_by, items_next, items_all}
use Rattle.image_read.specs.Image.{start_text}
use Rattle.image_read.specs.Told.{Covers}
use Rattle.image_read.proofs.Tallies.{covers_nothing, covers_then}
use Rattle.image_read.proofs.write.put_starts.Goals as goal

pub loop-start-init : goal.loop-start-init
loop-start-init g c =
    let told = g.T.Tally.told c.args.tally.now in
    let whole = flat_map start_text c.args.starts.now in
    record {
      text = begun (g.K.Sink.taken c.args.out.now) whole;
      tally = begun_by (Covers told told) whole (covers_nothing told);
      later = omega arith;
    }

pub loop-start-preserved : goal.loop-start-preserved
loop-start-preserved g c =
    let taken = g.K.Sink.taken in
    let told = g.T.Tally.told in
    let starts = c.args.starts.now in
    let i = c.loop-start.start-index in
    let rest = flat_map start_text (drop i starts) in
    let others = flat_map start_text (drop (i + 1) starts) in
    let whole = flat_map start_text starts in
    let before = told c.args.tally.now in
    let now = told c.loop-start.tally in
    let after = told c.put_and_tell.new.tally in
    let step = (items_next start_text starts i _ c.loop-start-test.true) in
    record {
      text = goes_on (taken c.args.out.now) (taken c.loop-start.out) (taken c.put_and_tell.new.out) rest _ others whole step c.loop-start.invariant.text (rw c.bytes_of_start.ensures at c.in_ok-put_and_tell.ensures.text.ok);
      tally = goes_on_by (Covers before now) (Covers before after) rest _ others whole step c.loop-start.invariant.tally (λ prefix so_far. covers_then before now after prefix _ so_far (rw c.bytes_of_start.ensures at c.in_ok-put_and_tell.ensures.tally));
      later = omega (arith, c.loop-start.invariant.later, c.in_ok-put_and_tell.ensures.cause.later);
    }

pub returns-in_err-put_and_tell-clause-text : goal.returns-in_err-put_and_tell-clause-text
returns-in_err-put_and_tell-clause-text g c =
    let taken = g.K.Sink.taken in
    let starts = c.args.starts.now in
    let i = c.loop-start.start-index in
    cut_off (taken c.args.out.now) (taken c.loop-start.out) (taken c.put_and_tell.new.out) c.from_residual.result (flat_map start_text (drop i starts)) _ (flat_map start_text (drop (i + 1) starts)) (flat_map start_text starts)
    (items_next start_text starts i _ c.loop-start-test.true) c.loop-start.invariant.text c.from_residual.ensures.0 (rw c.bytes_of_start.ensures at c.in_err-put_and_tell.ensures.text.err)

pub returns-clause-text : goal.returns-clause-text
returns-clause-text g c =
    let taken = g.K.Sink.taken in
    let starts = c.args.starts.now in
    let i = c.loop-start.start-index in
    record {
      ok = ended (taken c.args.out.now) (taken c.loop-start.out) (flat_map start_text (drop i starts)) (flat_map start_text starts) (items_all start_text starts i c.loop-start-test.false) c.loop-start.invariant.text;
      err = tt;
    }

pub returns-clause-tally : goal.returns-clause-tally
returns-clause-tally g c =
    let told = g.T.Tally.told in
    let starts = c.args.starts.now in
    let i = c.loop-start.start-index in
    ended_by (Covers (told c.args.tally.now) (told c.loop-start.tally)) (flat_map start_text (drop i starts)) (flat_map start_text starts) (items_all start_text starts i c.loop-start-test.false) c.loop-start.invariant.tally
