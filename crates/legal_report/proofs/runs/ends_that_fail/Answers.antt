use Rattle.legal_report.proofs.Small.{table_fails, missing_fails, more_fails, log_fails}
use Rattle.legal_report.proofs.runs.ends_that_fail.Goals as goal

pub returns-clause-table : goal.returns-clause-table
returns-clause-table c = table_fails

pub returns-clause-missing : goal.returns-clause-missing
returns-clause-missing c = missing_fails

pub returns-clause-more : goal.returns-clause-more
returns-clause-more c = more_fails

pub returns-clause-log : goal.returns-clause-log
returns-clause-log c = log_fails
