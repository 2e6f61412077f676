use Rattle.report_check.proofs.Right.{new_then, new_else}
use Rattle.report_check.proofs.event.is_new.Goals as goal

pub returns-then-safe : goal.returns-then-safe
returns-then-safe c = λ tickets is.
    new_then tickets c.args.place.now c.args.whole.now c.args.period.now c.args.region c.args.since c.is_safe-safe.result c.has-held.result c.if-safe.true (c.is_safe-safe.ensures tickets is) c.has-held.ensures

pub returns-else-safe : goal.returns-else-safe
returns-else-safe c = λ tickets is.
    new_else tickets c.args.place.now c.args.whole.now c.args.period.now c.args.region c.args.since c.is_safe-safe.result c.if-safe.false (c.is_safe-safe.ensures tickets is)
