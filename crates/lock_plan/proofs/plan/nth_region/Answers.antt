use Rattle.std.proofs.Common.{sym, ◌∙◌, arith}
use Rattle.lock_plan.proofs.Places.{none_below, one_more, no_more, region_here, region_past}
use Rattle.lock_plan.proofs.plan.nth_region.Goals as goal
use Rattle.lock_plan.proofs.plan.nth_region.Goals.{then-has_bit+else-skipped-n, else-has_bit}

pub loop-r-init : goal.loop-r-init
loop-r-init c = record { below = none_below c.args.set; few = omega arith }

pub returns-then-skipped-n : goal.returns-then-skipped-n
returns-then-skipped-n c =
    sym (region_here c.args.set c.args.count c.loop-r.r c.args.n (omega arith) (sym c.has_bit.ensures ∙ c.if-has_bit.true) (omega arith))

pub loop-r-preserved : goal.loop-r-preserved
loop-r-preserved c =
    elim c.if-has_bit.branch [
      | then-has_bit+else-skipped-n w ↦ record { below = omega (arith, one_more c.args.set c.loop-r.r (sym c.has_bit.ensures ∙ w.if-has_bit.true)); few = omega arith }
      | else-has_bit w ↦ record { below = omega (arith, no_more c.args.set c.loop-r.r (sym c.has_bit.ensures ∙ w.if-has_bit.false)); few = omega arith }
    ]

pub returns : goal.returns
returns c = sym (region_past c.args.set c.args.count c.loop-r.r c.args.n (omega arith) (omega arith))
