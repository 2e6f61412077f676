use Rattle.std.proofs.Common.{ℕ, ◌+◌, ap}
use Rattle.std.proofs.lemmas.Result.{err_from_is_err_and}
use Rattle.report_lines.specs.Lines.{ended_lines}
use Rattle.legal_report.specs.Laid.{logs_at}
use Rattle.legal_report.proofs.Walk.{form_by, logs_fail_by}
use Rattle.legal_report.proofs.form.read_form.Goals as goal

pub returns-in_err-logs-clause-fails : goal.returns-in_err-logs-clause-fails
returns-in_err-logs-clause-fails c =
    let p = err_from_is_err_and c.from_residual-in_err-logs.result c.from_residual-in_err-logs.ensures.1 in
    rw (p.1, p.2)
    (logs_fail_by c.args.bytes.now c.split_at.result.1.now c.in_ok-config.config c.in_ok-config.first c.in_ok-calls.at _ c.in_ok-calls.calls _ c.in_ok-config.ensures.head c.in_ok-calls.ensures.calls c.in_err-logs.ensures.fails
    (ap (λ (n : ℕ). 3 + n) c.len.ensures) c.split_at.ensures.back)

pub returns-clause-form : goal.returns-clause-form
returns-clause-form c =
    form_by c.args.bytes.now c.split_at.result.1.now c.in_ok-config.config c.in_ok-config.first c.in_ok-calls.at _ c.in_ok-calls.calls (logs_at c.in_ok-config.config c.in_ok-logs.logs.items) (ended_lines c.in_ok-logs.rest.now)
    c.in_ok-config.ensures.head c.in_ok-calls.ensures.calls c.in_ok-logs.ensures.logs
    (ap (λ (n : ℕ). 3 + n) c.len.ensures) c.split_at.ensures.back
