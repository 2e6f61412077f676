use Rattle.std.proofs.Common.{ℕ, Option, None, subst, inr, ◌∙◌}
use Rattle.std.proofs.lemmas.Result.{err_from_is_err_and}
use Rattle.script_read.specs.Answers.{HasCount}
use Rattle.sanctum.specs.Words.{source_said}
use Rattle.sanctum.specs.Runs.{cores_given}
use Rattle.sanctum.specs.Causes.{Rises}
use Rattle.sanctum.proofs.Told.{rose_from}
use Rattle.sanctum.proofs.Scripted.{moved, found_there, run_without_script, other_run}
use Rattle.sanctum.proofs.run.run.Goals as goal

pub returns-in_err-script-clause-serves : goal.returns-in_err-script-clause-serves
returns-in_err-script-clause-serves g c =
    let p = err_from_is_err_and c.from_residual-in_err-script.result c.from_residual-in_err-script.ensures.1 in
    let contents = g.D.Depot.contents in
    let faults = g.D.Depot.faults in
    let before = c.args.depot.now in
    let between = c.read_source.new.depot in
    let after = c.read_script.new.depot in
    let name = c.args.name.now in
    let origin = source_said c.args.source.now in
    let image = c.in_ok-image.image in
    let e = c.in_err-script.ensures in
    rw (p.1, p.2)
    (run_without_script (contents before) (Rises (faults before) (faults after)) origin name image c.in_err-script.field-0.0 c.in_ok-image.ensures.found
    (moved (contents between) (contents before) name c.cores_of.result (cores_given None origin image) (Rises (faults before) (faults after) name) c.in_err-script.field-0.0 c.in_ok-image.ensures.contents c.cores_of.ensures.cores
    (record { only = e.only; exact = e.exact; read = λ failed is. rose_from (faults before name) (faults between name) (faults after name) (c.in_ok-image.ensures.later name) (e.read failed is) })))

pub returns-then-len-ne1-clause-serves : goal.returns-then-len-ne1-clause-serves
returns-then-len-ne1-clause-serves g c =
    let contents = g.D.Depot.contents in
    let origin = source_said c.args.source.now in
    let image = c.in_ok-image.image in
    let script = c.in_ok-script.script.cores in
    inr
    (other_run (contents c.args.depot.now) origin c.args.name.now image script c.in_ok-image.ensures.found (subst (λ (n : Option ℕ). HasCount n script) c.cores_of.ensures.cores c.in_ok-script.ensures.count)
    (λ one. c.if-len-ne1.true (c.len.ensures ∙ one))
    (found_there (contents c.read_source.new.depot) (contents c.args.depot.now) c.args.name.now c.cores_of.result (cores_given None origin image) script c.in_ok-image.ensures.contents c.cores_of.ensures.cores c.in_ok-script.ensures.found))
