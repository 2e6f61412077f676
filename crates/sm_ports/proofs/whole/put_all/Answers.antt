use Rattle.std.proofs.Common.{arith}
use Rattle.sm_ports.proofs.Taken.{appends_more}
use Rattle.sm_ports.proofs.whole.put_all.Goals as goal

pub loop-done-preserved : goal.loop-done-preserved
loop-done-preserved g c =
    let put = c.in_ok-done.ensures in
    record {
      within = omega arith;
      taken = appends_more _ _ _ c.args.bytes.now c.loop-done.done c.in_ok-done.field-0 c.loop-done.invariant.taken (rw (← c.split_at.ensures.back) put.bytes.bytes);
      later = omega (arith, c.loop-done.invariant.later, put.cause.later);
    }
