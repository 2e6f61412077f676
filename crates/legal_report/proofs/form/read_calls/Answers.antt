use Rattle.std.proofs.Common.{◌≡◌, ◌≤◌, ◌+◌, [], ◌∷◌, ◌++◌, Ok, length, drop, sym, ap, ◌∙◌, arith}
use Rattle.std.proofs.lemmas.List.{length-append}
use Rattle.std.proofs.lemmas.Result.{err_from_is_err_and}
use Rattle.report_lines.specs.Lines.{ended_lines}
use Rattle.legal_report.specs.Laid.{calls_at}
use Rattle.legal_report.proofs.Walk.{log_met, neither_met, all_over, is_log_line, call_added, are_more, line_within, at_end, is_call_line}
use Rattle.legal_report.proofs.form.read_calls.Goals as goal

pub returns-in_err-over-clause-fails : goal.returns-in_err-over-clause-fails
returns-in_err-over-clause-fails c =
    let p = err_from_is_err_and c.from_residual.result c.from_residual.ensures.1 in
    rw (p.1, p.2)
    (neither_met c.args.config.now c.loop-at.line (calls_at c.args.config.now c.args.bytes.now c.loop-at.places) c.next_line.result.0.now _ _ _ _ (ap ended_lines (sym c.split_at.ensures.back) ∙ c.next_line.ensures.lines)
    (sym c.is_log.ensures ∙ c.in_err-over.was) c.loop-at.invariant.read)

pub returns-then-over-clause-calls : goal.returns-then-over-clause-calls
returns-then-over-clause-calls c =
    log_met c.args.config.now c.loop-at.line (calls_at c.args.config.now c.args.bytes.now c.loop-at.places) c.next_line.result.0.now _ _ _ (ap ended_lines (sym c.split_at.ensures.back) ∙ c.next_line.ensures.lines)
    (is_log_line c.args.config.now c.loop-at.line c.next_line.result.0.now (sym c.is_log.ensures ∙ c.in_ok-over.was ∙ ap Ok c.if-over.true)) c.loop-at.invariant.read

pub loop-at-preserved : goal.loop-at-preserved
loop-at-preserved c =
    let here : ended_lines (drop c.loop-at.at c.args.bytes.now) ≡ c.next_line.result.0.now ∷ ended_lines c.next_line.result.1.now = ap ended_lines (sym c.split_at.ensures.back) ∙ c.next_line.ensures.lines in
    let joined : drop c.loop-at.at c.args.bytes.now ≡ c.next_line.result.0.now ++ c.next_line.result.1.now = sym c.split_at.ensures.back ∙ c.next_line.ensures.joined in
    let call = is_call_line c.args.config.now c.loop-at.line c.next_line.result.0.now (sym c.is_log.ensures ∙ c.in_ok-over.was ∙ ap Ok c.if-over.false) in
    let grown : c.push.new.self ≡ c.loop-at.places ++ c.loop-at.at ∷ [] = c.in_ok-push.ensures.ok in
    let within : c.loop-at.at + length c.next_line.result.0.now ≤ length c.args.bytes.now = line_within c.args.bytes.now c.next_line.result.0.now c.next_line.result.1.now c.loop-at.at c.loop-at.invariant.within joined in record {
      read =
          call_added c.args.config.now c.args.bytes.now c.loop-at.line c.loop-at.at c.loop-at.places c.push.new.self c.next_line.result.0.now c.next_line.result.1.now _ grown here
          joined call.0 call.1 c.loop-at.invariant.read;
      are = rw grown (are_more c.args.config.now c.args.bytes.now c.loop-at.places c.loop-at.at c.next_line.result.0.now _ c.loop-at.invariant.are c.loop-at-test.true here call.1);
      within = within;
      lines = omega (arith, c.next_line.ensures.some);
      count = omega (arith, c.next_line.ensures.some, ap length grown, length-append c.loop-at.places (c.loop-at.at ∷ []));
    }

pub returns-clause-fails : goal.returns-clause-fails
returns-clause-fails c =
    all_over c.args.config.now c.loop-at.line (calls_at c.args.config.now c.args.bytes.now c.loop-at.places) _ _ (at_end c.args.bytes.now c.loop-at.at c.loop-at-test.false) c.loop-at.invariant.read
