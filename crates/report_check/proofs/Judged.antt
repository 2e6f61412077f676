-- The verdict on a report, from the checks of its parts.
use Rattle.std.proofs.Common.{◌≡◌, ℕ, ◌+◌, ◌-◌, ◌<◌, ◌≤◌, Bool, true, false, List, [], ◌∷◌, ◌++◌, length, take, Option, Some, None, Result, Ok, Err, refl, sym, ap, subst, ◌∙◌, arith, append_assoc, inl}
use Rattle.std.specs.Prelude.{IfSome, not}
use Rattle.std.specs.Borrow.{Bor}
use Rattle.std.specs.List.{AllByRecursion}
use Rattle.std.proofs.lemmas.Bool.{true≢false}
use Rattle.std.proofs.lemmas.List.{length-append, length-take}
use Rattle.mon_types.specs.Shape.{Shape}
use Rattle.hist.specs.declared.event.Entry.{Entry}
use Rattle.mon_model.specs.State.{State}
use Rattle.sm_ports.specs.Contents.{IsFile}
use Rattle.reader_answers.specs.Answers.{FileGives}
use Rattle.reader_answers.specs.declared.errors.FileError.{FileError}
use Rattle.reader_answers.specs.declared.errors.FileError.TheVariants as outer
use Rattle.reader_answers.proofs.Cut.{whole_file}
use Rattle.report.specs.Objects.{numbered}
use Rattle.report.specs.Tables.{region_line, enclave_text, thread_text, core_lines}
use Rattle.report.specs.Report.{end_line}
use Rattle.report_lines.specs.Lines.{ended_lines}
use Rattle.legal_report.specs.Form.{Parsed, form_of}
use Rattle.legal_report.specs.Counted.{state_behind}
use Rattle.legal_report.specs.Checks.{Check, HasEnded, Passes, call_checks, log_checks, table_checks, checks_of, closing_text}
use Rattle.legal_report.specs.LegalReport.{FailsFirst, FailsFormOrCheck, IsLegalReport, ReportFailsAt}
use Rattle.legal_report.specs.FirstFailing.{FirstFailing, FirstWrongCall, FailsByCall}
use Rattle.legal_report.specs.Differs.{TablesFail, TablesAre}
use Rattle.legal_report.specs.Kept.{CallsLaid, calls_told}
use Rattle.legal_report.specs.Laid.{limit, AreCalls, calls_at, logs_at, parsed_at, FailsWith}
use Rattle.legal_report.specs.declared.form.Form.{Form}
use Rattle.legal_report.specs.declared.tickets.Calls.{Calls}
use Rattle.legal_report.specs.declared.fault.ReportFault.{ReportFault}
use Rattle.legal_report.specs.declared.fault.ReportFault.TheVariants as faults
use Rattle.legal_report.specs.declared.fault.CheckError.{CheckError}
use Rattle.legal_report.specs.declared.fault.CheckError.TheVariants as errors
use Rattle.legal_report.proofs.Differing.{HasFirst, some_lines}
use Rattle.legal_report.proofs.OneVerdict.{apart, one_line, one_count}
use Rattle.legal_report.proofs.Placed.{all_calls}
use Rattle.report_check.specs.Known.{AreCallsOf}
use Rattle.report_check.specs.Logs.{HasLogs, LogsPassOf, LogsPass, FailsByLogs}
use Rattle.report_check.specs.Verdict.{IsVerdict, FailsAt, IsAnswer}
use Rattle.report_check.specs.declared.logs.Ended.{Ended}
use Rattle.report_check.proofs.Finding.{found_behind, found_among, call_count}

-- ---- tests

pub fails_by : (b : Bool) → not b ≡ true → b ≡ false
fails_by true is = absurd (true≢false (sym is))
fails_by false is = refl

pub holds_by : (b : Bool) → not b ≡ false → b ≡ true
holds_by true is = refl
holds_by false is = absurd (true≢false is)

-- ---- a report of which all lines have their form

-- these parts are what the lines of the report tell
pub record Stands (bytes : List ℕ) (calls : Calls) (texts : List (Bor (List ℕ))) (rest : List ℕ) (p : Parsed) : Type 0 where
  pub form : form_of (ended_lines bytes) ≡ Ok p
  pub has : HasLogs calls texts p
  pub behind : p.rest ≡ ended_lines rest

pub stands_by : (bytes : List ℕ) (form : Form) (calls : Calls) (texts : List (Bor (List ℕ))) → AreCallsOf bytes form calls → texts ≡ form.logs.items
    → form_of (ended_lines bytes) ≡ Ok (parsed_at bytes form.config form.calls form.logs.items form.rest.now) → Stands bytes calls texts form.rest.now (parsed_at bytes form.config form.calls form.logs.items form.rest.now)
stands_by bytes form calls texts are same told = record {
  form = told;
  has = record {
    calls = record {
      shape = sym are.config;
      calls =
          ap (λ (s : Shape). calls_at s bytes form.calls) (sym are.config)
          ∙ ap (λ (b : List ℕ). calls_at calls.config.now b form.calls) (sym are.text)
          ∙ ap (calls_at calls.config.now calls.bytes.now) (sym are.places);
    };
    logs = ap (logs_at form.config) (sym same) ∙ ap (λ (s : Shape). logs_at s texts) (sym are.config);
  };
  behind = refl;
}

-- the calls are laid in the bytes
pub laid_by : (bytes : List ℕ) (form : Form) (calls : Calls) → AreCallsOf bytes form calls → length bytes ≤ limit → AreCalls form.config bytes form.calls → length form.calls ≤ length bytes → CallsLaid calls
laid_by bytes form calls are size told count = record {
  told =
      subst (λ (s : Shape). AreCalls s calls.bytes.now calls.places.now) (sym are.config)
      (subst (λ (b : List ℕ). AreCalls form.config b calls.places.now) (sym are.text)
      (subst (λ (ps : List ℕ). AreCalls form.config bytes ps) (sym are.places) told));
  size = subst (λ (b : List ℕ). length b ≤ limit) (sym are.text) size;
  count = omega (arith, ap length are.text, ap length are.places, count);
}

-- there are as many calls as places
pub as_many : (bytes : List ℕ) (form : Form) (calls : Calls) → AreCallsOf bytes form calls → length form.calls ≡ length (calls_told calls)
as_many bytes form calls are = ap length (sym are.places) ∙ sym (all_calls calls.config.now calls.bytes.now calls.places.now)

some_end : 0 < length end_line
unfolding end_line
some_end = omega arith

some_behind : (a b c d : List ℕ) → 0 < length (a ++ b ++ c ++ d ++ end_line)
some_behind a b c d =
    omega (arith, length-append (a ++ b ++ c ++ d) end_line, some_end)

-- what is wanted behind the logs is never nothing
pub some_wanted : (s : State) → 0 < length (closing_text s)
some_wanted s = some_behind (numbered region_line 0 s.regions) (numbered enclave_text 0 s.enclaves) (numbered thread_text 0 s.threads) (core_lines 0 s.modes s.flushed)

-- a log that has not ended fails the first of these lines
not_ended : (p : Parsed) (n : ℕ) (ended : Option ℕ) (line : List ℕ) (wanted rest : List (List ℕ)) → (HasEnded p ended → ⊥) → FailsFirst p n (table_checks ended (line ∷ wanted) rest) n
not_ended p n ended line wanted [] fails = inl (refl, λ passes. fails passes.0)
not_ended p n ended line wanted (have ∷ rest) fails = inl (refl, λ passes. fails passes.0)

module _ (bytes : List ℕ) (calls : Calls) (texts : List (Bor (List ℕ))) (rest : List ℕ) (p : Parsed) (stands : Stands bytes calls texts rest p) where
  abbrev Tables : List Check
  Tables = table_checks (Some (p.shape.cores - 1)) (ended_lines (closing_text (state_behind p.shape p.calls))) p.rest

  -- the checks of the calls, and behind them the others
  abbrev All : List Check
  All = call_checks [] p.calls ++ (log_checks None 0 p.logs ++ Tables)

  all_checks : checks_of p ≡ All
  all_checks = append_assoc (call_checks [] p.calls) (log_checks None 0 p.logs) Tables

  fails_at : (line : ℕ) → FailsFirst p 3 All line → ReportFailsAt bytes line
  fails_at line fails =
      subst (λ (r : Result Parsed ℕ). FailsFormOrCheck r line) (sym stands.form)
      (subst (λ (checks : List Check). FailsFirst p 3 checks line) (sym all_checks) fails)

  of_calls : (found : Option ℕ) → FirstWrongCall calls.config.now (calls_told calls) found → FirstFailing p 3 (call_checks [] p.calls) found
  of_calls found first =
      subst (λ (es : List Entry). FirstFailing p 3 (call_checks [] es) found) (sym stands.has.calls.calls) (first p stands.has.calls.shape stands.has.calls.calls)

  pub call_wrong : (e : CheckError) → FailsByCall calls.config.now (calls_told calls) e → FailsAt bytes e
  call_wrong errors.Memory fails = tt
  call_wrong (errors.Fault faults.TooLong) fails = fails
  call_wrong (errors.Fault (faults.Illegal line)) fails =
      fails_at line (found_among p 3 (call_checks [] p.calls) (log_checks None 0 p.logs ++ Tables) line (of_calls (Some line) fails))

  behind_calls : (line : ℕ) → FirstWrongCall calls.config.now (calls_told calls) None → FirstFailing p (3 + length (calls_told calls)) (log_checks None 0 p.logs ++ Tables) (Some line) → FailsFirst p 3 All line
  behind_calls line right fails =
      found_behind p 3 (call_checks [] p.calls) (log_checks None 0 p.logs ++ Tables) (Some line) (of_calls None right)
      (subst (λ (n : ℕ). FirstFailing p n (log_checks None 0 p.logs ++ Tables) (Some line)) (omega (arith, call_count [] p.calls, ap length stands.has.calls.calls)) fails)

  pub log_wrong : (first : ℕ) (e : CheckError) → first ≡ 3 + length (calls_told calls) → FirstWrongCall calls.config.now (calls_told calls) None → FailsByLogs calls texts first e → FailsAt bytes e
  log_wrong first errors.Memory is right fails = tt
  log_wrong first (errors.Fault faults.TooLong) is right fails = fails
  log_wrong first (errors.Fault (faults.Illegal line)) is right fails =
      fails_at line (behind_calls line right (found_among p (3 + length (calls_told calls)) (log_checks None 0 p.logs) Tables line
      (subst (λ (n : ℕ). FirstFailing p n (log_checks None 0 p.logs) (Some line)) is (fails p stands.has))))

  behind_logs : (first line : ℕ) (ended : Ended) → first ≡ 3 + length (calls_told calls) → FirstWrongCall calls.config.now (calls_told calls) None → LogsPass calls texts first ended → FailsFirst p ended.line Tables line → ReportFailsAt bytes line
  behind_logs first line ended is right pass fails =
      let logs : LogsPassOf p first ended = pass p stands.has in
      fails_at line (behind_calls line right (found_behind p (3 + length (calls_told calls)) (log_checks None 0 p.logs) Tables (Some line) logs.passes
      (subst (λ (n : ℕ). FirstFailing p n Tables (Some line)) (logs.line ∙ ap (λ (n : ℕ). n + length (log_checks None 0 p.logs)) is) fails)))

  pub end_wrong : (first : ℕ) (ended : Ended) → first ≡ 3 + length (calls_told calls) → FirstWrongCall calls.config.now (calls_told calls) None → LogsPass calls texts first ended → ended.over ≡ false → ReportFailsAt bytes ended.line
  end_wrong first ended is right pass unfinished =
      let logs : LogsPassOf p first ended = pass p stands.has in
      let wanted : HasFirst (ended_lines (closing_text (state_behind p.shape p.calls))) = some_lines (closing_text (state_behind p.shape p.calls)) (some_wanted (state_behind p.shape p.calls)) in
      behind_logs first ended.line ended is right pass
      (subst (λ (ls : List (List ℕ)). FailsFirst p ended.line (table_checks (Some (p.shape.cores - 1)) ls p.rest) ended.line) (sym wanted.is)
      (not_ended p ended.line (Some (p.shape.cores - 1)) wanted.line wanted.more p.rest (λ over. true≢false (sym (logs.over.1 over) ∙ unfinished))))

  -- what was found of the lines behind the logs
  tables_found : (first : ℕ) (ended : Ended) (s : State) (found : Option ℕ) → LogsPass calls texts first ended → ended.over ≡ true → s ≡ state_behind calls.config.now (calls_told calls) → TablesAre ended.line (ended_lines (closing_text s)) (ended_lines rest) found
      → TablesFail p (Some (p.shape.cores - 1)) ended.line (ended_lines (closing_text (state_behind p.shape p.calls))) p.rest found
  tables_found first ended s found pass over is are =
      let logs : LogsPassOf p first ended = pass p stands.has in
      let same : s ≡ state_behind p.shape p.calls = is ∙ ap (λ (x : Shape). state_behind x (calls_told calls)) (sym stands.has.calls.shape) ∙ ap (state_behind p.shape) (sym stands.has.calls.calls) in
      subst (λ (x : State). TablesFail p (Some (p.shape.cores - 1)) ended.line (ended_lines (closing_text x)) p.rest found) same
      (subst (λ (ls : List (List ℕ)). TablesFail p (Some (p.shape.cores - 1)) ended.line (ended_lines (closing_text s)) ls found) (sym stands.behind)
      (are p (Some (p.shape.cores - 1)) (logs.over.0 over)))

  pub table_wrong : (first line : ℕ) (ended : Ended) (s : State) → first ≡ 3 + length (calls_told calls) → FirstWrongCall calls.config.now (calls_told calls) None → LogsPass calls texts first ended → ended.over ≡ true
      → s ≡ state_behind calls.config.now (calls_told calls) → TablesAre ended.line (ended_lines (closing_text s)) (ended_lines rest) (Some line) → ReportFailsAt bytes line
  table_wrong first line ended s is right pass over same are = behind_logs first line ended is right pass (tables_found first ended s (Some line) pass over same are)

  all_and : (xs ys : List Check) → AllByRecursion (Passes p) xs → AllByRecursion (Passes p) ys → AllByRecursion (Passes p) (xs ++ ys)
  all_and [] ys a b = b
  all_and (x ∷ xs) ys a b = (a.0, all_and xs ys a.1 b)

  pub all_right : (first count : ℕ) (ended : Ended) (s : State) → FirstWrongCall calls.config.now (calls_told calls) None → LogsPass calls texts first ended → ended.over ≡ true
      → s ≡ state_behind calls.config.now (calls_told calls) → TablesAre ended.line (ended_lines (closing_text s)) (ended_lines rest) None → count ≡ length (calls_told calls) → IsLegalReport bytes count
  all_right first count ended s right pass over same are is =
      let logs : LogsPassOf p first ended = pass p stands.has in
      record {
        parsed = p;
        form = stands.form;
        passes =
            subst (AllByRecursion (Passes p)) (sym all_checks)
            (all_and (call_checks [] p.calls) (log_checks None 0 p.logs ++ Tables) (of_calls None right)
            (all_and (log_checks None 0 p.logs) Tables logs.passes (tables_found first ended s None pass over same are)));
        calls = is ∙ ap length (sym stands.has.calls.calls);
      }

-- ---- the form

pub form_wrong : (bytes : List ℕ) (e : CheckError) → FailsWith e (form_of (ended_lines bytes)) → FailsAt bytes e
form_wrong bytes errors.Memory fails = tt
form_wrong bytes (errors.Fault faults.TooLong) fails = fails
form_wrong bytes (errors.Fault (faults.Illegal n)) fails = subst (λ (r : Result Parsed ℕ). FailsFormOrCheck r n) (sym fails) refl

-- ---- the file

pub judged_fault : (bytes : List ℕ) (fault : ReportFault) → length bytes ≤ limit → FailsAt bytes (errors.Fault fault) → IsVerdict bytes (Err fault)
judged_fault bytes faults.TooLong le fails = absurd fails
judged_fault bytes (faults.Illegal line) le fails = (le, fails)

-- what is said of the bytes up to one past the limit holds of the whole file
cut_verdict : (bytes : List ℕ) (v : Result ℕ ReportFault) → IsVerdict (take (limit + 1) bytes) v → IsVerdict bytes v
cut_verdict bytes (Ok count) v =
    let same : take (limit + 1) bytes ≡ bytes = whole_file limit bytes v.0 in
    subst (λ (b : List ℕ). IsVerdict b (Ok count)) same v
cut_verdict bytes (Err faults.TooLong) v = omega (arith, v, length-take (limit + 1) bytes)
cut_verdict bytes (Err (faults.Illegal line)) v =
    let same : take (limit + 1) bytes ≡ bytes = whole_file limit bytes v.0 in
    subst (λ (b : List ℕ). IsVerdict b (Err (faults.Illegal line))) same v

cut_answer : (bytes : List ℕ) (r : Result ℕ (FileError ReportFault)) → IsAnswer (take (limit + 1) bytes) r → IsAnswer bytes r
cut_answer bytes (Ok count) a = cut_verdict bytes (Ok count) a
cut_answer bytes (Err (outer.Fault fault)) a = cut_verdict bytes (Err fault) a
cut_answer bytes (Err (outer.Read failed)) a = tt
cut_answer bytes (Err outer.Memory) a = tt

pub file_answer : (told : Option (List ℕ)) (read : List ℕ) (r : Result ℕ (FileError ReportFault)) → IsFile told (limit + 1) read → IsAnswer read r → IfSome told (λ bytes. IsAnswer bytes r)
file_answer None read r is a = tt
file_answer (Some bytes) read r is a = cut_answer bytes r (subst (λ (b : List ℕ). IsAnswer b r) is a)

-- ---- there is one verdict

pub same_verdict : (bytes : List ℕ) (v w : Result ℕ ReportFault) → IsVerdict bytes v → IsVerdict bytes w → v ≡ w
same_verdict bytes (Ok m) (Ok n) v w = ap Ok (one_count bytes m n v.1 w.1)
same_verdict bytes (Ok m) (Err faults.TooLong) v w = absurd (omega (arith, v.0, w))
same_verdict bytes (Ok m) (Err (faults.Illegal line)) v w = absurd (apart bytes m line v.1 w.1)
same_verdict bytes (Err faults.TooLong) (Ok n) v w = absurd (omega (arith, v, w.0))
same_verdict bytes (Err faults.TooLong) (Err faults.TooLong) v w = refl
same_verdict bytes (Err faults.TooLong) (Err (faults.Illegal line)) v w = absurd (omega (arith, v, w.0))
same_verdict bytes (Err (faults.Illegal line)) (Ok n) v w = absurd (apart bytes n line w.1 v.1)
same_verdict bytes (Err (faults.Illegal line)) (Err faults.TooLong) v w = absurd (omega (arith, v.0, w))
same_verdict bytes (Err (faults.Illegal line)) (Err (faults.Illegal other)) v w = ap (λ (n : ℕ). Err (faults.Illegal n)) (one_line bytes line other v.1 w.1)

answer_given : (bytes : List ℕ) (r : Result ℕ (FileError ReportFault)) (v : Result ℕ ReportFault) → IsAnswer bytes r → IsVerdict bytes v → FileGives (λ (n : ℕ). n) r v
answer_given bytes (Ok count) v a is = same_verdict bytes v (Ok count) is a
answer_given bytes (Err (outer.Fault fault)) v a is = same_verdict bytes v (Err fault) is a
answer_given bytes (Err (outer.Read failed)) v a is = tt
answer_given bytes (Err outer.Memory) v a is = tt

pub verdict_given : (told : Option (List ℕ)) (r : Result ℕ (FileError ReportFault)) → IfSome told (λ bytes. IsAnswer bytes r) → IfSome told (λ bytes. (v : Result ℕ ReportFault) → IsVerdict bytes v → FileGives (λ (n : ℕ). n) r v)
verdict_given None r a = tt
verdict_given (Some bytes) r a = λ v is. answer_given bytes r v a is
