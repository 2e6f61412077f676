use Rattle.legal_report.specs.Kept.{calls_told}
use Rattle.report_check.proofs.Right.{touch_there, touch_nowhere}
use Rattle.report_check.proofs.event.is_touch.Goals as goal

pub returns-in-Some : goal.returns-in-Some
returns-in-Some c = λ tickets is.
    touch_there (calls_told c.args.known.now.calls) tickets c.args.place.now c.args.whole.now c.args.region c.args.since c.period.result c.in-Some.period c.is_new.result c.period.ensures c.in-Some.is (c.is_new.ensures tickets is)

pub returns-in-None : goal.returns-in-None
returns-in-None c = λ tickets is.
    touch_nowhere (calls_told c.args.known.now.calls) tickets c.args.place.now c.args.whole.now c.args.region c.args.since c.period.result c.period.ensures c.in-None.is
