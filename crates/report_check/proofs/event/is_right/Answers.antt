use Rattle.std.proofs.Common.{◌==◌, ◌+◌, refl, sym, subst}
use Rattle.report_lines.specs.Fits.{FitsEvent}
use Rattle.report_lines.specs.declared.event.EventLine.{EventLine}
use Rattle.report_check.specs.Event.{DecidesEvent}
use Rattle.report_check.proofs.Right.{right_touch, right_stop}
use Rattle.report_check.proofs.event.is_right.Goals as goal

pub returns-in-Touch : goal.returns-in-Touch
returns-in-Touch c =
    let calls = c.args.known.now.calls in
    let fits = subst (FitsEvent calls.config.now) c.in-Touch.is c.requires.fits in
    subst (λ (e : EventLine). DecidesEvent calls c.args.core c.args.place.now c.args.whole.now c.args.passed e c.is_touch.result) (sym c.in-Touch.is)
    (right_touch calls c.args.core c.args.place.now c.args.whole.now c.args.passed c.in-Touch.region c.in-Touch.since c.is_touch.result fits.0 c.is_touch.ensures)

pub returns-in-Stop : goal.returns-in-Stop
returns-in-Stop c =
    let calls = c.args.known.now.calls in
    subst (λ (e : EventLine). DecidesEvent calls c.args.core c.args.place.now c.args.whole.now c.args.passed e c.is_stop.result) (sym c.in-Stop.is)
    (right_stop calls c.args.core c.args.place.now c.args.whole.now c.args.passed c.in-Stop.line c.in-Stop.why (c.args.whole.now.events == c.args.passed + 1) c.is_stop.result refl c.is_stop.ensures)
