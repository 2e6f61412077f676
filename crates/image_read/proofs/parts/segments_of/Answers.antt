use Rattle.std.proofs.Common.{arith}
use Rattle.std.proofs.lemmas.Result.{err_from_is_err_and}
use Rattle.dram_map.specs.Addresses.{dram_start}
use Rattle.image_read.specs.Reading.{segments_from}
use Rattle.image_read.proofs.ReadLoops.{segment_read, segment_fails, segments_read}
use Rattle.image_read.proofs.parts.segments_of.Goals as goal

pub returns-in_err-segment-clause-segments : goal.returns-in_err-segment-clause-segments
returns-in_err-segment-clause-segments c =
    let p = err_from_is_err_and c.from_residual.result c.from_residual.ensures.1 in
    let total = segments_from c.args.config.now c.args.bytes.now 0 dram_start c.args.at c.args.count in
    rw (p.1, p.2) (segment_fails c.in_err-segment.field-0.0 c.args.config.now c.args.bytes.now c.loop-number.segments c.loop-number.place c.loop-number.at c.args.count c.loop-number.number total c.loop-number-test.true c.in_err-segment.ensures.segment c.loop-number.invariant.read)

pub loop-number-preserved : goal.loop-number-preserved
loop-number-preserved c =
    let total = segments_from c.args.config.now c.args.bytes.now 0 dram_start c.args.at c.args.count in
    record {
      read = segment_read c.args.config.now c.args.bytes.now c.loop-number.segments c.push.new.self c.loop-number.place c.loop-number.at _ _ c.args.count c.loop-number.number c.in_ok-segment.segment total c.loop-number-test.true c.in_ok-segment.ensures.segment
          c.in_ok-push.ensures.ok (omega (arith, c.len-size.ensures)) (omega (arith, c.len-size.ensures)) c.loop-number.invariant.read;
      within = omega (arith, c.len-size.ensures, c.in_ok-segment.ensures.within);
    }

pub returns-clause-segments : goal.returns-clause-segments
returns-clause-segments c =
    let total = segments_from c.args.config.now c.args.bytes.now 0 dram_start c.args.at c.args.count in
    segments_read c.args.config.now c.args.bytes.now c.loop-number.segments c.loop-number.place c.loop-number.at c.args.count c.loop-number.number total c.loop-number-test.false c.loop-number.invariant.read
