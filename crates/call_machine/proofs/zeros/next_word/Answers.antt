use Rattle.std.proofs.Common.{◌∙◌, arith}
use Rattle.call_machine.proofs.Regions.{page_skip}
use Rattle.call_machine.proofs.zeros.next_word.Goals as goal

pub loop-page-preserved : goal.loop-page-preserved
loop-page-preserved c =
    c.loop-page.invariant
    ∙ page_skip c.args.config.now c.args.r c.args.from c.loop-page.page (omega (arith, c.loop-page.auto.page)) (omega (arith, c.loop-page-test.true, c.total_pages-page-end.ensures))
    (λ e. c.if-from-r.false (c.from.ensures ∙ c.region_of.ensures.region ∙ e))
