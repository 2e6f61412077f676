use Rattle.report_check.proofs.Judged.{verdict_given}
use Rattle.report_check.proofs.file.check_report.Goals as goal

pub returns-clause-exact : goal.returns-clause-exact
returns-clause-exact g c = verdict_given (g.D.Depot.contents c.args.depot.now c.args.name.now) c.check.result c.check.ensures.verdict
