use Rattle.report_check.proofs.Right.{safe_then, safe_else}
use Rattle.report_check.proofs.event.is_safe.Goals as goal

pub returns-then-timely : goal.returns-then-timely
returns-then-timely c = λ tickets is.
    safe_then tickets c.args.place.now c.args.whole.now c.args.period.now c.is_in_time-timely.result c.is_allowed-allowed.result c.if-timely.true (c.is_in_time-timely.ensures tickets is) c.is_allowed-allowed.ensures

pub returns-else-timely : goal.returns-else-timely
returns-else-timely c = λ tickets is.
    safe_else tickets c.args.place.now c.args.whole.now c.args.period.now c.is_in_time-timely.result c.if-timely.false (c.is_in_time-timely.ensures tickets is)
