use Rattle.std.proofs.Common.{sym, ◌∙◌}
use Rattle.report_lines.proofs.Objects.{tried_fails, tried_more, tried_done}
use Rattle.report_lines.proofs.object.tried_of.Goals as goal

pub returns-in_err-tried : goal.returns-in_err-tried
returns-in_err-tried c =
    rw c.from_residual.ensures
    (tried_fails c.args.config.now c.loop-word.tried c.in-Some.word.now _ _ _ c.in-Some.ensures.0 (sym c.with_word.ensures ∙ c.in_err-tried.was) c.loop-word.invariant)

pub loop-word-preserved : goal.loop-word-preserved
loop-word-preserved c =
    tried_more c.args.config.now c.loop-word.tried c.in_ok-tried.tried c.in-Some.word.now _ _ _ c.in-Some.ensures.0 (sym c.with_word.ensures ∙ c.in_ok-tried.was) c.loop-word.invariant

pub returns : goal.returns
returns c = tried_done c.args.config.now c.loop-word.tried _ _ c.in_default.ensures c.loop-word.invariant
