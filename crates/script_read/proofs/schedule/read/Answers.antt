use Rattle.reader_answers.proofs.Files.{file_exact}
use Rattle.script_read.specs.Schedule.{schedule_limit, schedule_of}
use Rattle.script_read.proofs.ScheduleLaws.{fault_at, long_schedule}
use Rattle.script_read.proofs.schedule.read.Goals as goal

pub returns-in-Ok-clause-exact : goal.returns-in-Ok-clause-exact
returns-in-Ok-clause-exact g c =
    let cores = c.args.cores in
    file_exact (schedule_of cores) (λ items. items.items) (fault_at schedule_limit) schedule_limit (long_schedule cores) (g.D.Depot.contents c.args.depot.now c.args.name.now)
    c.in-Ok.bytes.items c.parse.result c.widen.result c.in-Ok.ensures.bytes (rw (← c.deref.ensures.value) c.parse.ensures) c.widen.ensures
