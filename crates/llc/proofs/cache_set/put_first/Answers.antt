use Rattle.std.proofs.Common.{◌<◌, length, arith}
use Rattle.llc.proofs.PutFirst.{put_here, put_further, none_further, left_further}
use Rattle.llc.proofs.cache_set.put_first.Goals as goal

pub returns-then-here-tag : goal.returns-then-here-tag
returns-then-here-tag c =
    let lt : c.loop-place.place-index < length c.loop-place.tags = omega (arith, c.loop-place.auto.tags) in
    put_here c.args.tag c.loop-place.moved c.loop-place.place-index c.loop-place.tags c.args.tags.now lt c.if-here-tag.true
    c.loop-place.invariant.rest c.loop-place.invariant.whole

pub loop-place-preserved : goal.loop-place-preserved
loop-place-preserved c =
    let lt : c.loop-place.place-index < length c.loop-place.tags = omega (arith, c.loop-place.auto.tags) in
    record {
      whole =
          put_further c.args.tag c.loop-place.moved c.loop-place.place-index c.loop-place.tags c.args.tags.now lt c.if-here-tag.false
          c.loop-place.invariant.rest c.loop-place.invariant.whole;
      none =
          none_further c.args.tag c.loop-place.place-index c.loop-place.tags c.args.tags.now lt c.if-here-tag.false
          c.loop-place.invariant.rest c.loop-place.invariant.none;
      rest = left_further c.loop-place.place-index c.loop-place.moved c.loop-place.tags c.args.tags.now c.loop-place.invariant.rest;
    }
