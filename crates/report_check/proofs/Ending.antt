-- The check of all logs, one after the other.
use Rattle.std.proofs.Common.{◌≡◌, ℕ, zero, suc, ◌+◌, ◌-◌, ◌<◌, ◌≤◌, Bool, true, false, List, [], ◌∷◌, ◌++◌, length, map, drop, get_or, slice_get, Option, Some, None, refl, sym, ap, subst, ◌∙◌, arith, inl, inr}
use Rattle.std.specs.Bool.{Decides}
use Rattle.std.specs.Borrow.{Bor}
use Rattle.std.specs.List.{AllByRecursion}
use Rattle.std.proofs.lemmas.Bool.{true≢false}
use Rattle.std.proofs.lemmas.List.{length-append, drop_all}
use Rattle.mon_types.specs.Shape.{Shape, is_shape}
use Rattle.std.proofs.lemmas.Bool.Decides.{nat_tests}
use Rattle.hist.specs.declared.event.Entry.{Entry}
use Rattle.report_lines.specs.declared.event.EventLine.{EventLine}
use Rattle.legal_report.specs.Form.{Parsed}
use Rattle.legal_report.specs.Counted.{tickets_of, next_ticket}
use Rattle.legal_report.specs.Checks.{Check, OfLog, HasEnded, event_checks, log_checks}
use Rattle.legal_report.specs.FirstFailing.{FirstFailing}
use Rattle.legal_report.specs.Kept.{calls_told}
use Rattle.legal_report.specs.Laid.{limit}
use Rattle.legal_report.specs.declared.tickets.Calls.{Calls}
use Rattle.legal_report.specs.declared.fault.ReportFault.TheVariants as faults
use Rattle.legal_report.specs.declared.fault.CheckError.{CheckError}
use Rattle.legal_report.specs.declared.fault.CheckError.TheVariants as errors
use Rattle.legal_report.proofs.Firsts.{left_from}
use Rattle.report_check.specs.Log.{events_in, FirstWrongEvent, FailsByEvent, IsCounted}
use Rattle.report_check.specs.Logs.{LogPasses, FailsByLog, HasLogs, LogsPass, FailsByLogs}
use Rattle.report_check.specs.declared.log.Passed.{Passed}
use Rattle.report_check.specs.declared.logs.Ended.{Ended}
use Rattle.report_check.proofs.Finding.{found_next, found_here, found_behind, found_among, event_count}

-- ---- one log

pub fails_behind : (calls : Calls) (core : ℕ) (text : List ℕ) (before : Ended) (e : CheckError) → before.over ≡ true → FailsByEvent calls core (before.line + 1) (events_in calls.config.now text) e → FailsByLog calls core text before e
fails_behind calls core text before errors.Memory over fails = tt
fails_behind calls core text before (errors.Fault faults.TooLong) over fails = fails
fails_behind calls core text before (errors.Fault (faults.Illegal line)) over fails = inr (over, fails)

pub log_passes : (calls : Calls) (core : ℕ) (text : List ℕ) (before after : Ended) (passed : Passed) (over : Bool) → before.over ≡ true → FirstWrongEvent calls core (before.line + 1) (events_in calls.config.now text) None
    → IsCounted (events_in calls.config.now text) passed → after ≡ record { line = before.line + 1 + passed.events; over = over }
    → Decides over (slice_get (tickets_of (calls_told calls) core) passed.entries ≡ None) → LogPasses calls core text before after
log_passes calls core text before after passed over was passes counted is d = record {
  was_over = was;
  passes = passes;
  line = ap (λ (e : Ended). e.line) is ∙ ap (λ (n : ℕ). before.line + 1 + n) counted.events;
  over =
      subst (λ (b : Bool). Decides b (next_ticket (calls_told calls) core (events_in calls.config.now text) ≡ None)) (sym (ap (λ (e : Ended). e.over) is))
      (subst (λ (n : ℕ). Decides over (slice_get (tickets_of (calls_told calls) core) n ≡ None)) counted.entries d);
}

-- ---- a log's text

pub text_at : (texts : List (Bor (List ℕ))) (k : ℕ) (text : Bor (List ℕ)) → k < length texts → text ≡ get_or texts k text → slice_get texts k ≡ Some text
text_at [] k text lt is = absurd (omega (arith, lt))
text_at (t ∷ texts) zero text lt is = ap Some (sym is)
text_at (t ∷ texts) (suc k) text lt is = text_at texts k text (omega arith) is

pub size_at : (texts : List (Bor (List ℕ))) (k : ℕ) (text : Bor (List ℕ)) → AllByRecursion (λ t. length t.now ≤ limit) texts → slice_get texts k ≡ Some text → length text.now ≤ limit
size_at [] k text all is = absurd cc
size_at (t ∷ texts) zero text all is = let same : t ≡ text = cc in subst (λ (x : Bor (List ℕ)). length x.now ≤ limit) same all.0
size_at (t ∷ texts) (suc k) text all is = size_at texts k text all.1 is

pub some_cores : (shape : Shape) → is_shape shape ≡ true → 0 < shape.cores
some_cores shape is = grind (arith, nat_tests)

-- ---- log by log

-- the core before this one, if there is one
abbrev pub core_before : ℕ → Option ℕ
core_before zero = None
core_before (suc core) = Some core

-- the logs of the cores from this one on are left
pub record LogsLeft (p : Parsed) (first core : ℕ) (ended : Ended) : Type 0 where
  pub goes : (found : Option ℕ) → FirstFailing p ended.line (log_checks (core_before core) core (drop core p.logs)) found → FirstFailing p first (log_checks None 0 p.logs) found
  pub line : ended.line + length (log_checks (core_before core) core (drop core p.logs)) ≡ first + length (log_checks None 0 p.logs)
  pub over : Decides ended.over (HasEnded p (core_before core))

-- the same of each report with these logs
abbrev pub LogsLeftOf : Calls → List (Bor (List ℕ)) → ℕ → ℕ → Ended → Type 0
LogsLeftOf calls texts first core ended = (p : Parsed) → HasLogs calls texts p → LogsLeft p first core ended

pub all_left : (calls : Calls) (texts : List (Bor (List ℕ))) (first : ℕ) (ended : Ended) → ended ≡ record { line = first; over = true } → LogsLeftOf calls texts first 0 ended
all_left calls texts first ended is p has = subst (LogsLeft p first 0) (sym is) (record {
  goes = λ found here. here;
  line = refl;
  over = (λ yes. tt, λ any. refl);
})

get_mapped : {A B : Type 0} (f : A → B) (xs : List A) (k : ℕ) (x : A) → slice_get xs k ≡ Some x → slice_get (map f xs) k ≡ Some (f x)
get_mapped {A = A} f [] k x is = absurd cc
get_mapped {A = A} f (y ∷ ys) zero x is = let same : y ≡ x = cc in ap (λ (z : A). Some (f z)) same
get_mapped {A = A} f (y ∷ ys) (suc k) x is = get_mapped f ys k x is

or_there : {A : Type 0} (xs : List A) (k : ℕ) (x d : A) → slice_get xs k ≡ Some x → get_or xs k d ≡ x
or_there [] k x d is = absurd cc
or_there (y ∷ ys) zero x d is = let same : y ≡ x = cc in same
or_there (y ∷ ys) (suc k) x d is = or_there ys k x d is

map_length : {A B : Type 0} (f : A → B) (xs : List A) → length (map f xs) ≡ length xs
map_length f [] = refl
map_length f (x ∷ xs) = ap suc (map_length f xs)

module _ (calls : Calls) (texts : List (Bor (List ℕ))) (first core : ℕ) (text : Bor (List ℕ)) (there : slice_get texts core ≡ Some text) (p : Parsed) (has : HasLogs calls texts p) where
  abbrev Log : List EventLine
  Log = events_in calls.config.now text.now

  abbrev More : List Check
  More = log_checks (Some core) (core + 1) (drop (core + 1) p.logs)

  log_there : slice_get p.logs core ≡ Some Log
  log_there =
      ap (λ (ls : List (List EventLine)). slice_get ls core) has.logs
      ∙ get_mapped (λ (t : Bor (List ℕ)). events_in calls.config.now t.now) texts core text there

  dropped : drop core p.logs ≡ Log ∷ drop (core + 1) p.logs
  dropped = left_from p.logs core Log log_there

  behind_it : core_before (core + 1) ≡ Some core
  behind_it = let up : core + 1 ≡ suc core = omega arith in ap core_before up

  goes_behind : (before after : Ended) → LogsLeft p first core before → LogPasses calls core text.now before after → (found : Option ℕ) → FirstFailing p after.line (log_checks (core_before (core + 1)) (core + 1) (drop (core + 1) p.logs)) found → FirstFailing p first (log_checks None 0 p.logs) found
  goes_behind before after left pass found later =
      let moved : FirstFailing p after.line More found = subst (λ (o : Option ℕ). FirstFailing p after.line (log_checks o (core + 1) (drop (core + 1) p.logs)) found) behind_it later in
      let place : after.line ≡ before.line + 1 + length (event_checks core [] Log) = omega (arith, pass.line, event_count core [] Log) in
      left.goes found
      (subst (λ (ls : List (List EventLine)). FirstFailing p before.line (log_checks (core_before core) core ls) found) (sym dropped)
      (found_next p before.line (OfLog (core_before core)) (event_checks core [] Log ++ More) found (left.over.0 pass.was_over)
      (found_behind p (before.line + 1) (event_checks core [] Log) More found (pass.passes p has.calls)
      (subst (λ (n : ℕ). FirstFailing p n More found) place moved))))

  lines_behind : (before after : Ended) → LogsLeft p first core before → LogPasses calls core text.now before after → after.line + length (log_checks (core_before (core + 1)) (core + 1) (drop (core + 1) p.logs)) ≡ first + length (log_checks None 0 p.logs)
  lines_behind before after left pass =
      let same : length (log_checks (core_before (core + 1)) (core + 1) (drop (core + 1) p.logs)) ≡ length More = ap (λ (o : Option ℕ). length (log_checks o (core + 1) (drop (core + 1) p.logs))) behind_it in
      let all : length (log_checks (core_before core) core (drop core p.logs)) ≡ suc (length (event_checks core [] Log ++ More)) = ap (λ (ls : List (List EventLine)). length (log_checks (core_before core) core ls)) dropped in
      omega (arith, pass.line, event_count core [] Log, same, all, length-append (event_checks core [] Log) More, left.line)

  over_behind : (before after : Ended) → LogPasses calls core text.now before after → Decides after.over (HasEnded p (core_before (core + 1)))
  over_behind before after pass =
      subst (λ (o : Option ℕ). Decides after.over (HasEnded p o)) (sym behind_it)
      (subst (λ (log : List EventLine). Decides after.over (next_ticket p.calls core log ≡ None)) (sym (or_there p.logs core Log [] log_there))
      (subst (λ (es : List Entry). Decides after.over (next_ticket es core Log ≡ None)) (sym has.calls.calls) pass.over))

  wrong_here : (before : Ended) (line : ℕ) → LogsLeft p first core before → before.over ≡ false → line ≡ before.line → FirstFailing p first (log_checks None 0 p.logs) (Some line)
  wrong_here before line left ended is =
      left.goes (Some line)
      (subst (λ (ls : List (List EventLine)). FirstFailing p before.line (log_checks (core_before core) core ls) (Some line)) (sym dropped)
      (subst (λ (n : ℕ). FirstFailing p before.line (OfLog (core_before core) ∷ (event_checks core [] Log ++ More)) (Some n)) (sym is)
      (found_here p before.line (OfLog (core_before core)) (event_checks core [] Log ++ More) (λ over. true≢false (sym (left.over.1 over) ∙ ended)))))

  wrong_inside : (before : Ended) (line : ℕ) → LogsLeft p first core before → before.over ≡ true → FirstWrongEvent calls core (before.line + 1) Log (Some line) → FirstFailing p first (log_checks None 0 p.logs) (Some line)
  wrong_inside before line left over wrong =
      left.goes (Some line)
      (subst (λ (ls : List (List EventLine)). FirstFailing p before.line (log_checks (core_before core) core ls) (Some line)) (sym dropped)
      (found_next p before.line (OfLog (core_before core)) (event_checks core [] Log ++ More) (Some line) (left.over.0 over)
      (found_among p (before.line + 1) (event_checks core [] Log) More line (wrong p has.calls))))

pub one_log_more : (calls : Calls) (texts : List (Bor (List ℕ))) (first core : ℕ) (text : Bor (List ℕ)) (before after : Ended) → slice_get texts core ≡ Some text → LogPasses calls core text.now before after → LogsLeftOf calls texts first core before
    → LogsLeftOf calls texts first (core + 1) after
one_log_more calls texts first core text before after there pass left p has = record {
  goes = goes_behind calls texts first core text there p has before after (left p has) pass;
  line = lines_behind calls texts first core text there p has before after (left p has) pass;
  over = over_behind calls texts first core text there p has before after pass;
}

pub one_log_wrong : (calls : Calls) (texts : List (Bor (List ℕ))) (first core : ℕ) (text : Bor (List ℕ)) (before : Ended) (e : CheckError) → slice_get texts core ≡ Some text → FailsByLog calls core text.now before e → LogsLeftOf calls texts first core before
    → FailsByLogs calls texts first e
one_log_wrong calls texts first core text before errors.Memory there fails left = tt
one_log_wrong calls texts first core text before (errors.Fault faults.TooLong) there fails left = fails
one_log_wrong calls texts first core text before (errors.Fault (faults.Illegal line)) there (inl here) left =
    λ p has. wrong_here calls texts first core text there p has before line (left p has) here.0 here.1
one_log_wrong calls texts first core text before (errors.Fault (faults.Illegal line)) there (inr inside) left =
    λ p has. wrong_inside calls texts first core text there p has before line (left p has) inside.0 inside.1

pub all_logs : (calls : Calls) (texts : List (Bor (List ℕ))) (first core : ℕ) (ended : Ended) → length texts ≡ calls.config.now.cores → 0 < calls.config.now.cores → core ≡ calls.config.now.cores → LogsLeftOf calls texts first core ended
    → LogsPass calls texts first ended
all_logs calls texts first core ended count some at left p has =
    let so : LogsLeft p first core ended = left p has in
    let size : length p.logs ≡ length texts = ap length has.logs ∙ map_length (λ (t : Bor (List ℕ)). events_in calls.config.now t.now) texts in
    let none : drop core p.logs ≡ [] = drop_all core p.logs (omega (arith, size, count, at)) in
    let up : core ≡ suc (p.shape.cores - 1) = omega (arith, at, some, ap (λ (s : Shape). s.cores) has.calls.shape) in
    let last : core_before core ≡ Some (p.shape.cores - 1) = ap core_before up in
    record {
      passes = so.goes None (subst (λ (ls : List (List EventLine)). FirstFailing p ended.line (log_checks (core_before core) core ls) None) (sym none) tt);
      line = omega (arith, so.line, ap (λ (ls : List (List EventLine)). length (log_checks (core_before core) core ls)) none);
      over = subst (λ (o : Option ℕ). Decides ended.over (HasEnded p o)) last so.over;
    }
