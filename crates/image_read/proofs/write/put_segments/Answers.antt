use Rattle.std.proofs.Common.{◌+◌, drop, arith}
use Rattle.std.specs.List.{flat_map}
use Rattle.text_out.proofs.Pieces.{begun, begun_by, goes_on, goes_on_by, cut_off, ended, ended_by, item_next, items_all}
use Rattle.image_read.specs.Image.{segment_text}
use Rattle.image_read.specs.Told.{Covers}
use Rattle.image_read.proofs.Tallies.{covers_nothing, covers_then}
use Rattle.image_read.proofs.write.put_segments.Goals as goal

pub loop-segment-init : goal.loop-segment-init
loop-segment-init g c =
    let told = g.T.Tally.told c.args.tally.now in
    let whole = flat_map segment_text c.args.segments.now in
    record {
      text = begun (g.K.Sink.taken c.args.out.now) whole;
      tally = begun_by (Covers told told) whole (covers_nothing told);
      later = omega arith;
    }

pub loop-segment-preserved : goal.loop-segment-preserved
loop-segment-preserved g c =
    let taken = g.K.Sink.taken in
    let told = g.T.Tally.told in
    let segments = c.args.segments.now in
    let i = c.loop-segment.segment-index in
    let rest = flat_map segment_text (drop i segments) in
    let others = flat_map segment_text (drop (i + 1) segments) in
    let whole = flat_map segment_text segments in
    let before = told c.args.tally.now in
    let now = told c.loop-segment.tally in
    let after = told c.put_segment.new.tally in
    let step = (item_next segment_text segments i c.segment-item.result c.loop-segment-test.true c.segment-item.is) in
    record {
      text = goes_on (taken c.args.out.now) (taken c.loop-segment.out) (taken c.put_segment.new.out) rest (segment_text c.segment-item.result) others whole step c.loop-segment.invariant.text c.in_ok-put_segment.ensures.text.ok;
      tally = goes_on_by (Covers before now) (Covers before after) rest (segment_text c.segment-item.result) others whole step c.loop-segment.invariant.tally (λ prefix so_far. covers_then before now after prefix _ so_far c.in_ok-put_segment.ensures.tally);
      later = omega (arith, c.loop-segment.invariant.later, c.in_ok-put_segment.ensures.cause.later);
    }

pub returns-in_err-put_segment-clause-text : goal.returns-in_err-put_segment-clause-text
returns-in_err-put_segment-clause-text g c =
    let taken = g.K.Sink.taken in
    let segments = c.args.segments.now in
    let i = c.loop-segment.segment-index in
    cut_off (taken c.args.out.now) (taken c.loop-segment.out) (taken c.put_segment.new.out) c.from_residual.result (flat_map segment_text (drop i segments)) (segment_text c.segment-item.result) (flat_map segment_text (drop (i + 1) segments)) (flat_map segment_text segments)
    (item_next segment_text segments i c.segment-item.result c.loop-segment-test.true c.segment-item.is) c.loop-segment.invariant.text c.from_residual.ensures.0 c.in_err-put_segment.ensures.text.err

pub returns-clause-text : goal.returns-clause-text
returns-clause-text g c =
    let taken = g.K.Sink.taken in
    let segments = c.args.segments.now in
    let i = c.loop-segment.segment-index in
    record {
      ok = ended (taken c.args.out.now) (taken c.loop-segment.out) (flat_map segment_text (drop i segments)) (flat_map segment_text segments) (items_all segment_text segments i c.loop-segment-test.false) c.loop-segment.invariant.text;
      err = tt;
    }

pub returns-clause-tally : goal.returns-clause-tally
returns-clause-tally g c =
    let told = g.T.Tally.told in
    let segments = c.args.segments.now in
    let i = c.loop-segment.segment-index in
    ended_by (Covers (told c.args.tally.now) (told c.loop-segment.tally)) (flat_map segment_text (drop i segments)) (flat_map segment_text segments) (items_all segment_text segments i c.loop-segment-test.false) c.loop-segment.invariant.tally
