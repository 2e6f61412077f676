use Rattle.legal_report.proofs.Noted.{periods_push}
use Rattle.legal_report.proofs.periods.marks_at_start.Goals as goal

pub loop-region-preserved : goal.loop-region-preserved
loop-region-preserved c =
    periods_push c.loop-region.region c.loop-region.marks.items c.push.new.self.items c.in_ok-at_start.field-0 c.loop-region.invariant c.in_ok-at_start.ensures c.in_ok-push.ensures.items
