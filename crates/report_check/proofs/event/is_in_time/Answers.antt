use Rattle.std.proofs.Common.{◌∙◌}
use Rattle.report_check.proofs.Right.{time_then, time_else}
use Rattle.report_check.proofs.event.is_in_time.Goals as goal

pub returns-then-before : goal.returns-then-before
returns-then-before c = λ tickets is.
    time_then tickets c.args.place.now c.args.whole.now c.args.period.now c.is_before-before.result c.all_above-behind.result c.if-before.true c.is_before-before.ensures (c.all_above-behind.ensures tickets (c.as_slice.ensures ∙ is))

pub returns-else-before : goal.returns-else-before
returns-else-before c = λ tickets is.
    time_else tickets c.args.place.now c.args.whole.now c.args.period.now c.is_before-before.result c.if-before.false c.is_before-before.ensures
