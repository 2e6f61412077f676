use Rattle.std.proofs.Common.{refl, arith}
use Rattle.std.proofs.lemmas.Result.{err_from_is_err_and}
use Rattle.report_check.proofs.Ending.{all_left, size_at, some_cores, one_log_more, one_log_wrong, all_logs}
use Rattle.report_check.proofs.logs.check_logs.Goals as goal

pub loop-core-init : goal.loop-core-init
loop-core-init c = record { left = all_left c.args.known.now.calls c.args.logs.now c.args.first _ refl; few = omega arith }

pub take_log-requires-clause-size : goal.take_log-requires-clause-size
take_log-requires-clause-size c = size_at c.args.logs.now c.loop-core.core c.text_of-text.result c.requires.laid.sizes c.text_of-text.ensures

pub loop-core-preserved : goal.loop-core-preserved
loop-core-preserved c =
    let texts = c.args.logs.now in
    let text = c.text_of-text.result in
    let size = size_at texts c.loop-core.core text c.requires.laid.sizes c.text_of-text.ensures in record {
      left = one_log_more c.args.known.now.calls texts c.args.first c.loop-core.core text c.loop-core.ended _ c.text_of-text.ensures c.in_ok-ended.ensures.right c.loop-core.invariant.left;
      few = omega (arith, c.in_ok-ended.ensures.few, c.loop-core.invariant.few, size);
    }

pub returns-in_err-ended-clause-wrong : goal.returns-in_err-ended-clause-wrong
returns-in_err-ended-clause-wrong c =
    let p = err_from_is_err_and c.from_residual.result c.from_residual.ensures.1 in
    rw (p.1, p.2)
    (one_log_wrong c.args.known.now.calls c.args.logs.now c.args.first c.loop-core.core c.text_of-text.result c.loop-core.ended _ c.text_of-text.ensures c.in_err-ended.ensures.wrong c.loop-core.invariant.left)

pub returns-clause-right : goal.returns-clause-right
returns-clause-right c =
    all_logs c.args.known.now.calls c.args.logs.now c.args.first c.loop-core.core c.loop-core.ended c.requires.laid.count (some_cores c.args.known.now.calls.config.now c.cores-core-end.ensures.valid) (omega arith) c.loop-core.invariant.left
