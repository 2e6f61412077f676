use Rattle.std.proofs.Common.{refl, rules}
use Rattle.std.proofs.lemmas.Result.{err_from_is_err_and}
use Rattle.report_check.proofs.Ending.{fails_behind, log_passes}
use Rattle.report_check.proofs.logs.take_log.Goals as goal

pub returns-in_err-passed-clause-wrong : goal.returns-in_err-passed-clause-wrong
returns-in_err-passed-clause-wrong c =
    let p = err_from_is_err_and c.from_residual.result c.from_residual.ensures.1 in
    rw (p.1, p.2) (fails_behind c.args.known.now.calls c.args.core c.args.text.now c.args.before _ (search rules) c.in_err-passed.ensures.wrong)

pub returns-clause-right : goal.returns-clause-right
returns-clause-right c =
    log_passes c.args.known.now.calls c.args.core c.args.text.now c.args.before _ c.in_ok-passed.passed c.is_over.result (search rules) c.in_ok-passed.ensures.right c.in_ok-passed.ensures.counts refl c.is_over.ensures
