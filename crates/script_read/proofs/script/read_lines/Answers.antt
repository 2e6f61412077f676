use Rattle.std.proofs.Common.{sym, ◌∙◌}
use Rattle.std.proofs.lemmas.Result.{err_from_is_err_and}
use Rattle.script_read.proofs.Going.{going_past, going_fails, answer_at, going_on, going_stops, going_done}
use Rattle.script_read.proofs.script.read_lines.Goals as goal

pub returns-in_err-said : goal.returns-in_err-said
returns-in_err-said c =
    let p = err_from_is_err_and c.from_residual-in_err-said.result c.from_residual-in_err-said.ensures.1 in
    rw (p.1, p.2) (going_fails c.args.count c.loop-rest.line c.args.bytes.now c.loop-rest.rest.now c.next_line.result.1.now c.next_line.result.0.now c.loop-rest.draft c.in_err-said.field-0.0 c.loop-rest.invariant
    c.next_line.ensures.lines (sym c.in_err-said.was ∙ c.read_line.ensures.value))

pub returns-in_err-take : goal.returns-in_err-take
returns-in_err-take c =
    let g = c.loop-rest.invariant in
    let p = err_from_is_err_and c.from_residual-in_err-take.result c.from_residual-in_err-take.ensures.1 in
    rw (p.1, p.2) (going_stops c.args.count c.loop-rest.line c.args.bytes.now c.loop-rest.rest.now c.next_line.result.1.now c.next_line.result.0.now c.loop-rest.draft c.in-Some.said c.in_err-take.field-0.0 g c.next_line.ensures.lines
    (answer_at c.read_line.result _ c.in_ok-said.field-0 _ c.read_line.ensures.value c.in_ok-said.was c.in-Some.is) (c.in_err-take.ensures c.args.count g.said g.keeps))

pub loop-rest-preserved-in_ok-take : goal.loop-rest-preserved-in_ok-take
loop-rest-preserved-in_ok-take c =
    let g = c.loop-rest.invariant in
    going_on c.args.count c.loop-rest.line c.args.bytes.now c.loop-rest.rest.now c.next_line.result.1.now c.next_line.result.0.now c.loop-rest.draft c.take.new.self c.in-Some.said g c.next_line.ensures.lines
    (answer_at c.read_line.result _ c.in_ok-said.field-0 _ c.read_line.ensures.value c.in_ok-said.was c.in-Some.is) (c.in_ok-take.ensures c.args.count g.said g.keeps) c.next_line.ensures.shorter

pub loop-rest-preserved : goal.loop-rest-preserved
loop-rest-preserved c =
    going_past c.args.count c.loop-rest.line c.args.bytes.now c.loop-rest.rest.now c.next_line.result.1.now c.next_line.result.0.now c.loop-rest.draft c.loop-rest.invariant c.next_line.ensures.lines
    (answer_at c.read_line.result _ c.in_ok-said.field-0 _ c.read_line.ensures.value c.in_ok-said.was c.in_default.is) c.next_line.ensures.shorter

pub returns : goal.returns
returns c = going_done c.args.count c.loop-rest.line c.args.bytes.now c.loop-rest.rest.now c.loop-rest.draft c.loop-rest.invariant (sym c.is_empty.ensures ∙ c.loop-rest-test.false) c.requires.bytes
