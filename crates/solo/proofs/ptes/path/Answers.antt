use Rattle.std.proofs.Common.{sym, ◌∙◌, arith}
use Rattle.solo.proofs.Paths.{one_more, last_one}
use Rattle.solo.proofs.ptes.path.Goals as goal

pub loop-step-preserved : goal.loop-step-preserved
loop-step-preserved c =
    let more = one_more c.args.config.now c.args.memory.now _ c.loop-step.places.items c.args.va c.loop-step.step c.args.count c.loop-step.page _ _ c.in-Some.table c.loop-step-test.true c.loop-step.invariant.goes_on c.pte_place-place.ensures c.word.ensures c.in-Some.ensures.page in
    record {
      goes_on = rw c.push.ensures.items more;
      places = omega arith;
    }

pub returns-in-None : goal.returns-in-None
returns-in-None c =
    let whole = last_one c.args.config.now c.args.memory.now _ c.loop-step.places.items c.args.va c.loop-step.step c.args.count c.loop-step.page _ _ c.loop-step-test.true c.loop-step.invariant.goes_on c.pte_place-place.ensures c.word.ensures c.in-None.ensures.page in
    c.push.ensures.items ∙ sym whole
