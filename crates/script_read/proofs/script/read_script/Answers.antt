use Rattle.reader_answers.proofs.Files.{file_found, file_only}
use Rattle.script_read.specs.Grammar.{IsScript}
use Rattle.script_read.specs.Reading.{script_of}
use Rattle.script_read.proofs.ScriptLaws.{script_is, script_found}
use Rattle.script_read.proofs.script.read_script.Goals as goal

pub returns-clause-found : goal.returns-clause-found
returns-clause-found g c =
    let cores = c.args.cores in
    file_found (IsScript cores) (script_of cores) (λ s. s.cores) (script_found cores) (g.D.Depot.contents c.args.depot.now c.args.name.now) c.read.result
    c.read.ensures.exact

pub returns-clause-only : goal.returns-clause-only
returns-clause-only g c =
    let cores = c.args.cores in
    file_only (IsScript cores) (script_of cores) (λ s. s.cores) (script_is cores) (g.D.Depot.contents c.args.depot.now c.args.name.now) c.read.result
    c.read.ensures.exact
