use Rattle.reader_answers.proofs.Files.{file_exact}
use Rattle.script_read.specs.declared.fault.ScriptFault.TheVariants as faults
use Rattle.script_read.specs.Grammar.{limit}
use Rattle.script_read.specs.Reading.{script_of}
use Rattle.script_read.proofs.Files.{long_script}
use Rattle.script_read.proofs.script.read.Goals as goal

pub returns-in-Ok-clause-exact : goal.returns-in-Ok-clause-exact
returns-in-Ok-clause-exact g c =
    file_exact (script_of c.args.cores) (λ s. s.cores) faults.TooLong limit (long_script c.args.cores) (g.D.Depot.contents c.args.depot.now c.args.name.now)
    c.in-Ok.bytes.items c.parse_script.result c.widen.result c.in-Ok.ensures.bytes (rw (← c.deref.ensures.value) c.parse_script.ensures.exact) c.widen.ensures
