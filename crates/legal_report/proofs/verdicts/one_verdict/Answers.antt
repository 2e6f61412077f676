use Rattle.legal_report.proofs.OneVerdict.{apart, one_line, one_count}
use Rattle.legal_report.proofs.verdicts.one_verdict.Goals as goal

pub returns-clause-apart : goal.returns-clause-apart
returns-clause-apart c = apart

pub returns-clause-line : goal.returns-clause-line
returns-clause-line c = one_line

pub returns-clause-count : goal.returns-clause-count
returns-clause-count c = one_count
