use Rattle.report_check.proofs.Flushing.{found_between, none_between}
use Rattle.report_check.proofs.whole.is_between.Goals as goal

pub returns-in-Some : goal.returns-in-Some
returns-in-Some c =
    found_between c.args.tickets.now c.args.low c.args.high c.in-Some.ticket c.first_above.result c.requires c.first_above.ensures c.in-Some.is

pub returns-in-None : goal.returns-in-None
returns-in-None c =
    none_between c.args.tickets.now c.args.low c.args.high c.first_above.result c.first_above.ensures c.in-None.is
