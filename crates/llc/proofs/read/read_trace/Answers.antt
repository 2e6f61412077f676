use Rattle.reader_answers.proofs.Files.{file_found, file_only}
use Rattle.llc.specs.Grammar.{IsTrace}
use Rattle.llc.specs.Reading.{trace_of}
use Rattle.llc.proofs.TraceLaws.{trace_is, trace_found}
use Rattle.llc.proofs.read.read_trace.Goals as goal

pub returns-clause-found : goal.returns-clause-found
returns-clause-found g c =
    file_found IsTrace trace_of (λ t. t) trace_found (g.D.Depot.contents c.args.depot.now c.args.name.now) c.read.result c.read.ensures.exact

pub returns-clause-only : goal.returns-clause-only
returns-clause-only g c =
    file_only IsTrace trace_of (λ t. t) trace_is (g.D.Depot.contents c.args.depot.now c.args.name.now) c.read.result c.read.ensures.exact
