use Rattle.legal_report.proofs.Small.{zero_fails, ticket_fails, serial_fails, reply_fails, untried_fails, own_fails}
use Rattle.legal_report.proofs.runs.calls_that_fail.Goals as goal

pub returns-clause-form : goal.returns-clause-form
returns-clause-form c = zero_fails

pub returns-clause-ticket : goal.returns-clause-ticket
returns-clause-ticket c = ticket_fails

pub returns-clause-serial : goal.returns-clause-serial
returns-clause-serial c = serial_fails

pub returns-clause-reply : goal.returns-clause-reply
returns-clause-reply c = reply_fails

pub returns-clause-tried : goal.returns-clause-tried
returns-clause-tried c = untried_fails

pub returns-clause-busy : goal.returns-clause-busy
returns-clause-busy c = own_fails
