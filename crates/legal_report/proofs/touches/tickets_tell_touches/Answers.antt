use Rattle.legal_report.proofs.Touching.{tickets_tell_touches}
use Rattle.legal_report.proofs.touches.tickets_tell_touches.Goals as goal

pub returns : goal.returns
returns c = tickets_tell_touches
