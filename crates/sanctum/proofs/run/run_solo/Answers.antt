use Rattle.std.proofs.Common.{Some, sym, refl, ◌∙◌}
use Rattle.std.proofs.lemmas.Result.{err_from_is_err_and}
use Rattle.sanctum.specs.Words.{source_said}
use Rattle.sanctum.specs.Runs.{cores_given}
use Rattle.sanctum.specs.Causes.{Rises}
use Rattle.sanctum.proofs.Told.{rose_from}
use Rattle.sanctum.proofs.Scripted.{moved, found_there, given_one, one_run, solo_served, solo_without_script}
use Rattle.sanctum.proofs.run.run_solo.Goals as goal

pub returns-in_err-script-clause-serves : goal.returns-in_err-script-clause-serves
returns-in_err-script-clause-serves g c =
    let p = err_from_is_err_and c.from_residual-in_err-script.result c.from_residual-in_err-script.ensures.1 in
    let contents = g.D.Depot.contents in
    let faults = g.D.Depot.faults in
    let before = c.args.depot.now in
    let between = c.read_source.new.depot in
    let after = c.read_script.new.depot in
    let name = c.args.name.now in
    let origin = source_said c.args.source.now in
    let image = c.in_ok-image.image in
    let e = c.in_err-script.ensures in
    rw (p.1, p.2)
    (solo_without_script (contents before) (Rises (faults before) (faults after)) origin name image c.in_err-script.field-0.0 c.in_ok-image.ensures.found (sym c.cores.ensures.cores ∙ c.if-cores-ne1.false)
    (moved (contents between) (contents before) name (Some 1) (Some 1) (Rises (faults before) (faults after) name) c.in_err-script.field-0.0 c.in_ok-image.ensures.contents refl
    (record { only = e.only; exact = e.exact; read = λ failed is. rose_from (faults before name) (faults between name) (faults after name) (c.in_ok-image.ensures.later name) (e.read failed is) })))

pub returns-clause-serves : goal.returns-clause-serves
returns-clause-serves g c =
    let contents = g.D.Depot.contents in
    let faults = g.D.Depot.faults in
    let origin = source_said c.args.source.now in
    let image = c.in_ok-image.image in
    let script = c.in_ok-script.script.cores in
    let one = sym c.cores.ensures.cores ∙ c.if-cores-ne1.false in
    solo_served (contents c.args.depot.now) (Rises (faults c.args.depot.now) (faults c.read_script.new.depot)) origin c.args.name.now image script c.report_of.result
    (one_run (Some 1) (contents c.args.depot.now) origin c.args.name.now image script c.in_ok-image.ensures.found one c.in_ok-script.ensures.count
    (found_there (contents c.read_source.new.depot) (contents c.args.depot.now) c.args.name.now (Some 1) (cores_given (Some 1) origin image) script c.in_ok-image.ensures.contents (sym (given_one origin image one)) c.in_ok-script.ensures.found))
    c.report_of.ensures.report c.report_of.ensures.memory
