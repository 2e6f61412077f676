use Rattle.reader_answers.proofs.Files.{file_exact, file_keeps}
use Rattle.llc.specs.declared.fault.TraceFault.TheVariants as faults
use Rattle.llc.specs.Grammar.{limit}
use Rattle.llc.specs.Reading.{trace_of}
use Rattle.llc.specs.Answers.{CanRun}
use Rattle.llc.proofs.Files.{long_trace}
use Rattle.llc.proofs.read.read.Goals as goal

pub returns-in-Ok-clause-exact : goal.returns-in-Ok-clause-exact
returns-in-Ok-clause-exact g c =
    file_exact trace_of (λ t. t) faults.TooLong limit long_trace (g.D.Depot.contents c.args.depot.now c.args.name.now) c.in-Ok.bytes.items c.parse_trace.result
    c.widen.result c.in-Ok.ensures.bytes (rw (← c.deref.ensures.value) c.parse_trace.ensures.exact) c.widen.ensures

pub returns-in-Ok-clause-runs : goal.returns-in-Ok-clause-runs
returns-in-Ok-clause-runs g c = file_keeps CanRun c.parse_trace.result c.widen.result c.parse_trace.ensures.runs c.widen.ensures
