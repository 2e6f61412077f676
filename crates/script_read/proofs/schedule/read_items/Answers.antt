use Rattle.std.proofs.Common.{sym, ◌∙◌}
use Rattle.std.proofs.lemmas.Result.{err_from_is_err_and}
use Rattle.script_read.proofs.ItemsGoing.{going_from, word_fails, word_taken, going_done}
use Rattle.script_read.proofs.schedule.read_items.Goals as goal

pub loop-rest-init : goal.loop-rest-init
loop-rest-init c = rw c.new-items.ensures (going_from c.args.cores c.args.bytes.now c.from-rest.result.now c.from-rest.ensures)

pub returns-in_err-item : goal.returns-in_err-item
returns-in_err-item c =
    let p = err_from_is_err_and c.from_residual.result c.from_residual.ensures.1 in
    rw (p.1, p.2) (word_fails c.args.cores c.args.bytes.now c.loop-rest.rest.now c.split.result.0.now c.split.result.1.now c.loop-rest.items c.read_item.result c.in_err-item.field-0.0 c.loop-rest.invariant
    (sym c.is_empty.ensures ∙ c.loop-rest-test.true) c.split.ensures.before c.split.ensures.from c.read_item.ensures c.in_err-item.ensures.value)

pub loop-rest-preserved : goal.loop-rest-preserved
loop-rest-preserved c =
    word_taken c.args.cores c.args.bytes.now c.loop-rest.rest.now c.split.result.0.now c.split.result.1.now c.from-rest-in-loop-rest.result.now c.loop-rest.items c.push.new.self c.read_item.result c.in_ok-item.item c.loop-rest.invariant
    (sym c.is_empty.ensures ∙ c.loop-rest-test.true) c.split.ensures.before c.split.ensures.from c.from-rest-in-loop-rest.ensures c.read_item.ensures c.in_ok-item.ensures.value c.in_ok-push.ensures.ok

pub returns : goal.returns
returns c = going_done c.args.cores c.args.bytes.now c.loop-rest.rest.now c.loop-rest.items c.loop-rest.invariant (sym c.is_empty.ensures ∙ c.loop-rest-test.false)
