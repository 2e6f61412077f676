use Rattle.reader_answers.proofs.Parsed.{found_if, only_if}
use Rattle.llc.specs.Grammar.{IsTrace}
use Rattle.llc.specs.Reading.{trace_of}
use Rattle.llc.proofs.TraceLaws.{trace_is, trace_found, runs_if}
use Rattle.llc.proofs.read.parse_trace.Goals as goal

pub returns-clause-found : goal.returns-clause-found
returns-clause-found c =
    let bytes = c.args.bytes.now in
    found_if (IsTrace bytes) (λ t. t) (trace_of bytes) (trace_found bytes) c.parse.result c.parse.ensures

pub returns-clause-only : goal.returns-clause-only
returns-clause-only c =
    let bytes = c.args.bytes.now in
    only_if (IsTrace bytes) (λ t. t) (trace_of bytes) (trace_is bytes) c.parse.result c.parse.ensures

pub returns-clause-runs : goal.returns-clause-runs
returns-clause-runs c = runs_if c.args.bytes.now c.parse.result c.parse.ensures
