use Rattle.std.proofs.Common.{◌+◌, ℕ, Option, refl, ap, sym, subst, ◌∙◌}
use Rattle.std.proofs.lemmas.Result.{err_from_is_err_and}
use Rattle.mon_types.specs.Shape.{Shape}
use Rattle.report_lines.specs.Lines.{ended_lines}
use Rattle.legal_report.specs.Checks.{closing_text}
use Rattle.legal_report.specs.Differs.{TablesAre}
use Rattle.legal_report.specs.Laid.{LogsLaid, parsed_at}
use Rattle.report_check.proofs.Judged.{fails_by, holds_by, stands_by, as_many, call_wrong, log_wrong, end_wrong, table_wrong, all_right}
use Rattle.report_check.proofs.check.check_lines.Goals as goal

pub check_logs-requires-clause-laid : goal.check_logs-requires-clause-laid
check_logs-requires-clause-laid c =
    let form = c.args.form.now in
    let calls = c.calls_of-calls.result in
    subst (LogsLaid calls.config.now.cores) (sym c.as_slice-logs.ensures.value)
    (subst (λ (s : Shape). LogsLaid s.cores form.logs.items) (sym c.calls_of-calls.ensures.places.config) c.requires.laid)

pub returns-in_err-called-clause-illegal : goal.returns-in_err-called-clause-illegal
returns-in_err-called-clause-illegal c =
    let bytes = c.args.bytes.now in
    let form = c.args.form.now in
    let calls = c.calls_of-calls.result in
    let p = err_from_is_err_and c.from_residual.result c.from_residual.ensures.1 in
    rw (p.1, p.2)
    (call_wrong bytes calls form.logs.items form.rest.now (parsed_at bytes form.config form.calls form.logs.items form.rest.now) (stands_by bytes form calls form.logs.items c.calls_of-calls.ensures.places refl c.requires.form) _ c.in_err-called.ensures.wrong)

pub returns-in_err-ended-clause-illegal : goal.returns-in_err-ended-clause-illegal
returns-in_err-ended-clause-illegal c =
    let bytes = c.args.bytes.now in
    let form = c.args.form.now in
    let calls = c.calls_of-calls.result in
    let first = ap (λ (n : ℕ). 3 + n) (c.len-count.ensures ∙ as_many bytes form calls c.calls_of-calls.ensures.places) in
    let p = err_from_is_err_and c.from_residual-in_err-ended.result c.from_residual-in_err-ended.ensures.1 in
    rw (p.1, p.2)
    (log_wrong bytes calls c.as_slice-logs.result.now form.rest.now (parsed_at bytes form.config form.calls form.logs.items form.rest.now) (stands_by bytes form calls c.as_slice-logs.result.now c.calls_of-calls.ensures.places c.as_slice-logs.ensures.value c.requires.form)
    (3 + c.len-count.result) _ first c.in_ok-called.ensures.right c.in_err-ended.ensures.wrong)

pub returns-then-not-ended-clause-illegal : goal.returns-then-not-ended-clause-illegal
returns-then-not-ended-clause-illegal c =
    let bytes = c.args.bytes.now in
    let form = c.args.form.now in
    let calls = c.calls_of-calls.result in
    let first = ap (λ (n : ℕ). 3 + n) (c.len-count.ensures ∙ as_many bytes form calls c.calls_of-calls.ensures.places) in
    end_wrong bytes calls c.as_slice-logs.result.now form.rest.now (parsed_at bytes form.config form.calls form.logs.items form.rest.now) (stands_by bytes form calls c.as_slice-logs.result.now c.calls_of-calls.ensures.places c.as_slice-logs.ensures.value c.requires.form)
    (3 + c.len-count.result) c.in_ok-ended.ended first c.in_ok-called.ensures.right c.in_ok-ended.ensures.right (fails_by c.in_ok-ended.ended.over c.if-not-ended.true)

pub returns-in-Some-clause-illegal : goal.returns-in-Some-clause-illegal
returns-in-Some-clause-illegal c =
    let bytes = c.args.bytes.now in
    let form = c.args.form.now in
    let calls = c.calls_of-calls.result in
    let state = c.in_ok-called.called.monitor.state in
    let first = ap (λ (n : ℕ). 3 + n) (c.len-count.ensures ∙ as_many bytes form calls c.calls_of-calls.ensures.places) in
    table_wrong bytes calls c.as_slice-logs.result.now form.rest.now (parsed_at bytes form.config form.calls form.logs.items form.rest.now) (stands_by bytes form calls c.as_slice-logs.result.now c.calls_of-calls.ensures.places c.as_slice-logs.ensures.value c.requires.form)
    (3 + c.len-count.result) c.in-Some.line c.in_ok-ended.ended state first c.in_ok-called.ensures.right c.in_ok-ended.ensures.right (holds_by c.in_ok-ended.ended.over c.if-not-ended.false) c.in_ok-called.ensures.state
    (subst (λ (o : Option ℕ). TablesAre c.in_ok-ended.ended.line (ended_lines (closing_text state)) (ended_lines form.rest.now) o) c.in-Some.is c.in_ok-wrong.ensures)

pub returns-clause-legal : goal.returns-clause-legal
returns-clause-legal c =
    let bytes = c.args.bytes.now in
    let form = c.args.form.now in
    let calls = c.calls_of-calls.result in
    let state = c.in_ok-called.called.monitor.state in
    all_right bytes calls c.as_slice-logs.result.now form.rest.now (parsed_at bytes form.config form.calls form.logs.items form.rest.now) (stands_by bytes form calls c.as_slice-logs.result.now c.calls_of-calls.ensures.places c.as_slice-logs.ensures.value c.requires.form)
    (3 + c.len-count.result) c.len-count.result c.in_ok-ended.ended state c.in_ok-called.ensures.right c.in_ok-ended.ensures.right (holds_by c.in_ok-ended.ended.over c.if-not-ended.false) c.in_ok-called.ensures.state
    (subst (λ (o : Option ℕ). TablesAre c.in_ok-ended.ended.line (ended_lines (closing_text state)) (ended_lines form.rest.now) o) c.in-None.is c.in_ok-wrong.ensures)
    (c.len-count.ensures ∙ as_many bytes form calls c.calls_of-calls.ensures.places)
