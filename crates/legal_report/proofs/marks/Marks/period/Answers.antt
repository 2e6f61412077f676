use Rattle.std.proofs.Common.{sym, ◌∙◌}
use Rattle.legal_report.proofs.Marked.{period_told}
use Rattle.legal_report.proofs.marks.Marks.period.Goals as goal

pub returns : goal.returns
returns c = λ h n tell. c.kept_period.ensures ∙ sym (period_told h n c.args.region c.args.since c.args.self.now tell)
