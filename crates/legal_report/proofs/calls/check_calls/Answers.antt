use Rattle.std.proofs.Common.{sym, ◌∙◌}
use Rattle.std.proofs.lemmas.Bool.{true≢false}
use Rattle.legal_report.specs.Kept.{calls_told}
use Rattle.legal_report.proofs.Firsts.{goes_further, goes_wrong}
use Rattle.legal_report.proofs.calls.check_calls.Goals as goal

pub returns-then-not-take_call-clause-wrong : goal.returns-then-not-take_call-clause-wrong
returns-then-not-take_call-clause-wrong c =
    let call = c.take_call.ensures.right in
    goes_wrong c.args.calls.now.config.now (calls_told c.args.calls.now) c.loop-k.k call.entry call.there (λ right. true≢false (sym (call.decided.1 right) ∙ c.if-not-take_call.true)) c.loop-k.invariant.goes

pub loop-k-preserved : goal.loop-k-preserved
loop-k-preserved c =
    let call = c.take_call.ensures.right in record {
      goes = goes_further c.args.calls.now.config.now (calls_told c.args.calls.now) c.loop-k.k call.entry call.there (call.decided.0 c.if-not-take_call.false) c.loop-k.invariant.goes;
      state = c.take_call.ensures.after c.if-not-take_call.false;
    }
