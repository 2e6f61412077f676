use Rattle.report_lines.specs.Lines.{ended_lines}
use Rattle.legal_report.proofs.Differing.{tables_found}
use Rattle.legal_report.proofs.tables.first_difference.Goals as goal

pub returns-clause-checks : goal.returns-clause-checks
returns-clause-checks c = tables_found c.args.first (ended_lines c.args.wanted.now) (ended_lines c.args.there.now) _ c.difference.ensures
