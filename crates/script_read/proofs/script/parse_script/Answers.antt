use Rattle.reader_answers.proofs.Parsed.{found_if, only_if}
use Rattle.script_read.specs.Grammar.{IsScript}
use Rattle.script_read.specs.Reading.{script_of}
use Rattle.script_read.proofs.ScriptLaws.{script_is, script_found, count_if, turns_if}
use Rattle.script_read.proofs.script.parse_script.Goals as goal

pub returns-clause-found : goal.returns-clause-found
returns-clause-found c =
    let cores = c.args.cores in
    let bytes = c.args.bytes.now in
    found_if (IsScript cores bytes) (λ s. s.cores) (script_of cores bytes) (script_found cores bytes) c.parse.result c.parse.ensures.exact

pub returns-clause-only : goal.returns-clause-only
returns-clause-only c =
    let cores = c.args.cores in
    let bytes = c.args.bytes.now in
    only_if (IsScript cores bytes) (λ s. s.cores) (script_of cores bytes) (script_is cores bytes) c.parse.result c.parse.ensures.exact

pub returns-clause-count : goal.returns-clause-count
returns-clause-count c = count_if c.args.cores c.args.bytes.now c.parse.result c.parse.ensures.exact

pub returns-clause-turns : goal.returns-clause-turns
returns-clause-turns c = turns_if c.args.cores c.args.bytes.now c.parse.result c.parse.ensures.exact
