use Rattle.mon_types.specs.LimitLaws.{few_cores}
use Rattle.hist.specs.Logged.{events_of}
use Rattle.hist.proofs.laws.legal_run_is_reported.Goals as goal

pub returns-clause-merge : goal.returns-clause-merge
returns-clause-merge c =
    let run = c.args.finished.now in
    c.legal_logs_are_reported.ensures.merge run.config (events_of run.logs) (few_cores run.config c.cores-few.ensures.valid) c.requires

pub returns-clause-print : goal.returns-clause-print
returns-clause-print c =
    let run = c.args.finished.now in
    c.legal_logs_are_reported.ensures.print run.config (events_of run.logs) c.requires
