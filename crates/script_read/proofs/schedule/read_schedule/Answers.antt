use Rattle.reader_answers.proofs.Files.{file_found, file_only}
use Rattle.script_read.specs.Schedule.{IsSchedule, schedule_of}
use Rattle.script_read.proofs.ScheduleLaws.{schedule_is, schedule_found}
use Rattle.script_read.proofs.schedule.read_schedule.Goals as goal

pub returns-clause-found : goal.returns-clause-found
returns-clause-found g c =
    let cores = c.args.cores in
    file_found (IsSchedule cores) (schedule_of cores) (λ items. items.items) (schedule_found cores) (g.D.Depot.contents c.args.depot.now c.args.name.now) c.read.result
    c.read.ensures.exact

pub returns-clause-only : goal.returns-clause-only
returns-clause-only g c =
    let cores = c.args.cores in
    file_only (IsSchedule cores) (schedule_of cores) (λ items. items.items) (schedule_is cores) (g.D.Depot.contents c.args.depot.now c.args.name.now) c.read.result
    c.read.ensures.exact
