-- A walk over the lines of a report.
use Rattle.std.proofs.Common.{◌≡◌, ℕ, zero, suc, ◌+◌, ◌-◌, ◌<◌, ◌≤◌, Bool, true, false, cond, List, [], ◌∷◌, ◌++◌, length, drop, Option, Some, None, Result, Ok, Err, refl, sym, ap, subst, ◌∙◌, arith, append_assoc}
use Rattle.std.specs.Prelude.{is_some, is_none, not}
use Rattle.std.specs.Borrow.{Bor}
use Rattle.std.specs.Option.{unwrap_or}
use Rattle.std.specs.List.{AllByRecursion}
use Rattle.std.specs.Str.{bytes_eq}
use Rattle.std.proofs.lemmas.Slice.Eq.{bytes_eq-Decides}
use Rattle.std.proofs.lemmas.List.{append-nil, length-append, length-drop, nil_from_length}
use Rattle.mon_types.specs.Shape.{Shape}
use Rattle.hist.specs.declared.event.Entry.{Entry}
use Rattle.report.specs.Events.{log_line}
use Rattle.report_lines.specs.Lines.{ended_lines}
use Rattle.report_lines.specs.Reading.{call_in, event_in, machine_in}
use Rattle.report_lines.specs.declared.event.EventLine.{EventLine}
use Rattle.report.specs.Report.{title_line}
use Rattle.legal_report.specs.Form.{◌>>=◌, calls_from, events_at, with_event, with_log, logs_from, form_of}
use Rattle.legal_report.specs.Counted.{nothing_done}
use Rattle.legal_report.specs.declared.fault.ReportFault.{ReportFault}
use Rattle.legal_report.specs.declared.fault.ReportFault.TheVariants as faults
use Rattle.legal_report.specs.declared.fault.CheckError.{CheckError}
use Rattle.legal_report.specs.declared.fault.CheckError.TheVariants as errors
use Rattle.legal_report.specs.Laid.{first_line, call_at, calls_at, AreCalls, log_or_call, FailsWith, FailsLine, BeginsNoLog, HasHead, logs_at, limit, LogsLaid}

-- ---- calls

-- these calls before those that are read
abbrev pub behind : List Entry → Result (List Entry × List (List ℕ)) ℕ → Result (List Entry × List (List ℕ)) ℕ
behind front (Ok found) = Ok (front ++ found.0, found.1)
behind front (Err n) = Err n

-- one call before those that are read
abbrev one_before : Entry → Result (List Entry × List (List ℕ)) ℕ → Result (List Entry × List (List ℕ)) ℕ
one_before e (Ok found) = Ok (e ∷ found.0, found.1)
one_before e (Err n) = Err n

pub nothing_yet : (read : Result (List Entry × List (List ℕ)) ℕ) → behind [] read ≡ read
nothing_yet (Ok found) = refl
nothing_yet (Err n) = refl

one_more : (front : List Entry) (e : Entry) (read : Result (List Entry × List (List ℕ)) ℕ) → behind front (one_before e read) ≡ behind (front ++ e ∷ []) read
one_more front e (Ok found) = ap (λ (es : List Entry). Ok (es, found.1)) (sym (append_assoc front (e ∷ []) found.0))
one_more front e (Err n) = refl

as_one : (e : Entry) (read : Result (List Entry × List (List ℕ)) ℕ) → (read >>= λ later. Ok (e ∷ later.0, later.1)) ≡ one_before e read
as_one e (Ok found) = refl
as_one e (Err n) = refl

log_here : (shape : Shape) (n : ℕ) (line : List ℕ) (more : List (List ℕ)) → bytes_eq line (log_line 0) ≡ true → calls_from shape n (line ∷ more) ≡ Ok ([], line ∷ more)
unfolding calls_from
log_here shape n line more h = rw h refl

call_here : (shape : Shape) (n : ℕ) (line : List ℕ) (more : List (List ℕ)) (e : Entry) → bytes_eq line (log_line 0) ≡ false → call_in shape line ≡ Some e → calls_from shape n (line ∷ more) ≡ one_before e (calls_from shape (n + 1) more)
unfolding calls_from
call_here shape n line more e h is = rw (h, is) (as_one e (calls_from shape (n + 1) more))

none_here : (shape : Shape) (n : ℕ) (line : List ℕ) (more : List (List ℕ)) → bytes_eq line (log_line 0) ≡ false → call_in shape line ≡ None → calls_from shape n (line ∷ more) ≡ Err n
unfolding calls_from
none_here shape n line more h is = rw (h, is) refl

nothing_left : (shape : Shape) (n : ℕ) → calls_from shape n [] ≡ Err n
unfolding calls_from
nothing_left shape n = refl

pub log_met : (shape : Shape) (n : ℕ) (front : List Entry) (line : List ℕ) (left more : List (List ℕ)) (total : Result (List Entry × List (List ℕ)) ℕ) → left ≡ line ∷ more → bytes_eq line (log_line 0) ≡ true
    → behind front (calls_from shape n left) ≡ total → total ≡ Ok (front, left)
log_met shape n front line left more total l h so_far =
    sym so_far ∙ ap (λ (ls : List (List ℕ)). behind front (calls_from shape n ls)) l ∙ ap (behind front) (log_here shape n line more h)
    ∙ ap (λ (es : List Entry). Ok (es, line ∷ more)) (append-nil front) ∙ ap (λ (ls : List (List ℕ)). Ok (front, ls)) (sym l)

pub call_met : (shape : Shape) (n : ℕ) (front : List Entry) (line : List ℕ) (left more : List (List ℕ)) (e : Entry) (total : Result (List Entry × List (List ℕ)) ℕ) → left ≡ line ∷ more → bytes_eq line (log_line 0) ≡ false
    → call_in shape line ≡ Some e → behind front (calls_from shape n left) ≡ total → behind (front ++ e ∷ []) (calls_from shape (n + 1) more) ≡ total
call_met shape n front line left more e total l h is so_far =
    sym (one_more front e (calls_from shape (n + 1) more)) ∙ ap (behind front) (sym (call_here shape n line more e h is))
    ∙ ap (λ (ls : List (List ℕ)). behind front (calls_from shape n ls)) (sym l) ∙ so_far

pub none_met : (shape : Shape) (n : ℕ) (front : List Entry) (line : List ℕ) (left more : List (List ℕ)) (total : Result (List Entry × List (List ℕ)) ℕ) → left ≡ line ∷ more → bytes_eq line (log_line 0) ≡ false
    → call_in shape line ≡ None → behind front (calls_from shape n left) ≡ total → total ≡ Err n
none_met shape n front line left more total l h is so_far =
    sym so_far ∙ ap (λ (ls : List (List ℕ)). behind front (calls_from shape n ls)) l ∙ ap (behind front) (none_here shape n line more h is)

pub all_over : (shape : Shape) (n : ℕ) (front : List Entry) (left : List (List ℕ)) (total : Result (List Entry × List (List ℕ)) ℕ) → left ≡ [] → behind front (calls_from shape n left) ≡ total → total ≡ Err n
all_over shape n front left total l so_far =
    sym so_far ∙ ap (λ (ls : List (List ℕ)). behind front (calls_from shape n ls)) l ∙ ap (behind front) (nothing_left shape n)

-- ---- which line it is

-- what two tests answer
abbrev answer_of : Bool → Bool → ℕ → Result Bool ReportFault
answer_of a b n = cond a (Ok true) (cond b (Ok false) (Err (faults.Illegal n)))

log_by : (a b : Bool) (n : ℕ) → answer_of a b n ≡ Ok true → a ≡ true
log_by true b n e = refl
log_by false true n e = absurd cc
log_by false false n e = absurd cc

call_by : (a b : Bool) (n : ℕ) → answer_of a b n ≡ Ok false → (a ≡ false) × (b ≡ true)
call_by true b n e = absurd cc
call_by false true n e = (refl, refl)
call_by false false n e = absurd cc

pub is_log_line : (shape : Shape) (n : ℕ) (line : List ℕ) → log_or_call shape n line ≡ Ok true → bytes_eq line (log_line 0) ≡ true
is_log_line shape n line e = log_by (bytes_eq line (log_line 0)) (is_some (call_in shape line)) n e

pub is_call_line : (shape : Shape) (n : ℕ) (line : List ℕ) → log_or_call shape n line ≡ Ok false → (bytes_eq line (log_line 0) ≡ false) × (is_some (call_in shape line) ≡ true)
is_call_line shape n line e = call_by (bytes_eq line (log_line 0)) (is_some (call_in shape line)) n e

none_of : (o : Option Entry) → is_some o ≡ false → o ≡ None
none_of None h = refl
none_of (Some e) h = absurd cc

pub record IsNeither (shape : Shape) (n : ℕ) (line : List ℕ) (fault : ReportFault) : Type 0 where
  pub is_fault : fault ≡ faults.Illegal n
  pub no_log : bytes_eq line (log_line 0) ≡ false
  pub no_call : call_in shape line ≡ None

err_same : (f g : ReportFault) → ◌≡◌ {A = Result Bool ReportFault} (Err f) (Err g) → f ≡ g
err_same f g e = cc

neither_by : (a b : Bool) (n : ℕ) (fault : ReportFault) → answer_of a b n ≡ Err fault → (fault ≡ faults.Illegal n) × (a ≡ false) × (b ≡ false)
neither_by true b n fault e = absurd cc
neither_by false true n fault e = absurd cc
neither_by false false n fault e = (sym (err_same (faults.Illegal n) fault e), refl, refl)

pub is_neither : (shape : Shape) (n : ℕ) (line : List ℕ) (fault : ReportFault) → log_or_call shape n line ≡ Err fault → IsNeither shape n line fault
is_neither shape n line fault e =
    let h = neither_by (bytes_eq line (log_line 0)) (is_some (call_in shape line)) n fault e in
    record { is_fault = h.0; no_log = h.1; no_call = none_of (call_in shape line) h.2 }

-- ---- places

some_of : {A : Type 0} (o : Option A) (d : A) → is_some o ≡ true → o ≡ Some (unwrap_or o d)
some_of None d h = absurd cc
some_of (Some x) d h = refl

-- the line at a place is the first of what stands there
pub here : (shape : Shape) (bytes : List ℕ) (at : ℕ) (line : List ℕ) (more : List (List ℕ)) → ended_lines (drop at bytes) ≡ line ∷ more → call_at shape bytes at ≡ call_in shape line
here shape bytes at line more l = ap (λ (ls : List (List ℕ)). call_in shape (first_line ls)) l

pub call_there : (shape : Shape) (bytes : List ℕ) (at : ℕ) (line : List ℕ) (more : List (List ℕ)) → ended_lines (drop at bytes) ≡ line ∷ more → is_some (call_in shape line) ≡ true → call_in shape line ≡ Some (unwrap_or (call_at shape bytes at) (nothing_done 0 0))
call_there shape bytes at line more l h =
    some_of (call_in shape line) (nothing_done 0 0) h ∙ ap (λ (o : Option Entry). Some (unwrap_or o (nothing_done 0 0))) (sym (here shape bytes at line more l))

pub calls_more : (shape : Shape) (bytes : List ℕ) (places : List ℕ) (at : ℕ) → calls_at shape bytes (places ++ at ∷ []) ≡ calls_at shape bytes places ++ unwrap_or (call_at shape bytes at) (nothing_done 0 0) ∷ []
calls_more shape bytes [] at = refl
calls_more shape bytes (p ∷ places) at = ap (λ (es : List Entry). unwrap_or (call_at shape bytes p) (nothing_done 0 0) ∷ es) (calls_more shape bytes places at)

pub are_more : (shape : Shape) (bytes : List ℕ) (places : List ℕ) (at : ℕ) (line : List ℕ) (more : List (List ℕ)) → AreCalls shape bytes places → at < length bytes → ended_lines (drop at bytes) ≡ line ∷ more
    → is_some (call_in shape line) ≡ true → AreCalls shape bytes (places ++ at ∷ [])
are_more shape bytes [] at line more all lt l h = ((lt, ap is_some (here shape bytes at line more l) ∙ h), tt)
are_more shape bytes (p ∷ places) at line more all lt l h = (all.0, are_more shape bytes places at line more all.1 lt l h)

-- ---- what stands behind a line

dropped_none : (n : ℕ) → ◌≡◌ {A = List ℕ} (drop n []) []
dropped_none zero = refl
dropped_none (suc n) = refl

drop_drop : (m n : ℕ) (xs : List ℕ) → drop n (drop m xs) ≡ drop (m + n) xs
drop_drop zero n xs = ap (λ (k : ℕ). drop k xs) {x = n} {y = zero + n} (omega arith)
drop_drop (suc m) n [] = dropped_none n ∙ sym (dropped_none (suc m + n))
drop_drop (suc m) n (x ∷ xs) = drop_drop m n xs ∙ ap (λ (k : ℕ). drop k (x ∷ xs)) {x = suc (m + n)} {y = suc m + n} (omega arith)

drop_front : (xs ys : List ℕ) → drop (length xs) (xs ++ ys) ≡ ys
drop_front [] ys = refl
drop_front (x ∷ xs) ys = drop_front xs ys

pub behind_line : (bytes line rest : List ℕ) (at : ℕ) → drop at bytes ≡ line ++ rest → drop (at + length line) bytes ≡ rest
behind_line bytes line rest at joined = sym (drop_drop at (length line) bytes) ∙ ap (drop (length line)) joined ∙ drop_front line rest

-- a line is no longer than what is left of the bytes
pub line_within : (bytes line rest : List ℕ) (at : ℕ) → at ≤ length bytes → drop at bytes ≡ line ++ rest → at + length line ≤ length bytes
line_within bytes line rest at le joined = omega (arith, length-drop at bytes, ap length joined, length-append line rest)

pub at_end : (bytes : List ℕ) (at : ℕ) → length bytes ≤ at → ended_lines (drop at bytes) ≡ []
unfolding ended_lines
at_end bytes at le = ap ended_lines (nil_from_length (drop at bytes) (omega (arith, length-drop at bytes)))

-- ---- events

-- so many events, and what comes behind them
pub record Skipped (total : List EventLine × List (List ℕ)) (count : ℕ) (read : List EventLine × List (List ℕ)) : Type 0 where
  pub counted : count + length read.0 ≡ length total.0
  pub rest : read.1 ≡ total.1

event_here : (shape : Shape) (line : List ℕ) (more : List (List ℕ)) → events_at shape (line ∷ more) ≡ with_event (event_in shape line) (line ∷ more) (events_at shape more)
unfolding events_at
event_here shape line more = refl

some_event : (o : Option EventLine) (lines : List (List ℕ)) (later total : List EventLine × List (List ℕ)) (count : ℕ) → is_none o ≡ false → Skipped total count (with_event o lines later) → Skipped total (count + 1) later
some_event None lines later total count h s = absurd cc
some_event (Some event) lines later total count h s = record { counted = omega (arith, s.counted); rest = s.rest }

no_event : (o : Option EventLine) (lines : List (List ℕ)) (later total : List EventLine × List (List ℕ)) (count : ℕ) → is_none o ≡ true → Skipped total count (with_event o lines later) → (count ≡ length total.0) × (lines ≡ total.1)
no_event None lines later total count h s = (omega (arith, s.counted), s.rest)
no_event (Some event) lines later total count h s = absurd cc

pub event_met : (shape : Shape) (line : List ℕ) (left more : List (List ℕ)) (total : List EventLine × List (List ℕ)) (count : ℕ) → left ≡ line ∷ more → is_none (event_in shape line) ≡ false → Skipped total count (events_at shape left)
    → Skipped total (count + 1) (events_at shape more)
event_met shape line left more total count l h s =
    some_event (event_in shape line) (line ∷ more) (events_at shape more) total count h (subst (λ (r : List EventLine × List (List ℕ)). Skipped total count r) (ap (events_at shape) l ∙ event_here shape line more) s)

pub event_ends : (shape : Shape) (line : List ℕ) (left more : List (List ℕ)) (total : List EventLine × List (List ℕ)) (count : ℕ) → left ≡ line ∷ more → is_none (event_in shape line) ≡ true → Skipped total count (events_at shape left)
    → (count ≡ length total.0) × (left ≡ total.1)
event_ends shape line left more total count l h s =
    let e = no_event (event_in shape line) (line ∷ more) (events_at shape more) total count h (subst (λ (r : List EventLine × List (List ℕ)). Skipped total count r) (ap (events_at shape) l ∙ event_here shape line more) s) in
    (e.0, l ∙ e.1)

events_over : (shape : Shape) → events_at shape [] ≡ ([], [])
unfolding events_at
events_over shape = refl

pub no_more_events : (shape : Shape) (left : List (List ℕ)) (total : List EventLine × List (List ℕ)) (count : ℕ) → left ≡ [] → Skipped total count (events_at shape left) → (count ≡ length total.0) × (left ≡ total.1)
no_more_events shape left total count l s =
    let e : Skipped total count ([], []) = subst (λ (r : List EventLine × List (List ℕ)). Skipped total count r) (ap (events_at shape) l ∙ events_over shape) s in
    (omega (arith, e.counted), l ∙ e.rest)

pub skipped_none : (read : List EventLine × List (List ℕ)) → Skipped read 0 read
skipped_none read = record { counted = omega arith; rest = refl }

-- ---- faults

pub fault_told : {A : Type 0} (read : Result A ℕ) (n : ℕ) (fault : ReportFault) → fault ≡ faults.Illegal n → read ≡ Err n → FailsWith (errors.Fault fault) read
fault_told read n fault is e = subst (λ (f : ReportFault). FailsWith (errors.Fault f) read) (sym is) e

-- ---- logs

-- these logs before those that are read
abbrev pub behind_logs : List (List EventLine) → Result (List (List EventLine) × List (List ℕ)) ℕ → Result (List (List EventLine) × List (List ℕ)) ℕ
behind_logs front (Ok found) = Ok (front ++ found.0, found.1)
behind_logs front (Err n) = Err n

pub no_logs_yet : (read : Result (List (List EventLine) × List (List ℕ)) ℕ) → behind_logs [] read ≡ read
no_logs_yet (Ok found) = refl
no_logs_yet (Err n) = refl

log_more : (front : List (List EventLine)) (log : List EventLine) (read : Result (List (List EventLine) × List (List ℕ)) ℕ) → behind_logs front (with_log log read) ≡ behind_logs (front ++ log ∷ []) read
log_more front log (Ok found) = ap (λ (ls : List (List EventLine)). Ok (ls, found.1)) (sym (append_assoc front (log ∷ []) found.0))
log_more front log (Err n) = refl

log_begins : (shape : Shape) (left core n : ℕ) (more : List (List ℕ)) → logs_from shape (suc left) core n (log_line core ∷ more)
    ≡ with_log (events_at shape more).0 (logs_from shape left (core + 1) (n + 1 + length (events_at shape more).0) (events_at shape more).1)
unfolding logs_from
log_begins shape left core n more = rw ((bytes_eq-Decides (log_line core) (log_line core)).1 refl) refl

no_log_begins : (shape : Shape) (left core n : ℕ) (lines : List (List ℕ)) → BeginsNoLog core lines → logs_from shape (suc left) core n lines ≡ Err n
unfolding logs_from
no_log_begins shape left core n [] h = refl
no_log_begins shape left core n (line ∷ lines) h = rw h refl

no_cores_left : (shape : Shape) (core n : ℕ) (lines : List (List ℕ)) → logs_from shape 0 core n lines ≡ Ok ([], lines)
unfolding logs_from
no_cores_left shape core n lines = refl

pub next_log_met : (shape : Shape) (cores core n count : ℕ) (front : List (List EventLine)) (lines more after : List (List ℕ)) (total : Result (List (List EventLine) × List (List ℕ)) ℕ) → core < cores → lines ≡ log_line core ∷ more
    → count ≡ length (events_at shape more).0 → after ≡ (events_at shape more).1 → behind_logs front (logs_from shape (cores - core) core n lines) ≡ total
    → behind_logs (front ++ (events_at shape more).0 ∷ []) (logs_from shape (cores - (core + 1)) (core + 1) (n + (1 + count)) after) ≡ total
next_log_met shape cores core n count front lines more after total lt l c a so_far =
    let up : cores - core ≡ suc (cores - (core + 1)) = omega arith in
    let line : n + (1 + count) ≡ n + 1 + length (events_at shape more).0 = omega (arith, c) in
    ap (λ (k : ℕ). behind_logs (front ++ (events_at shape more).0 ∷ []) (logs_from shape (cores - (core + 1)) (core + 1) k after)) line
    ∙ ap (λ (ls : List (List ℕ)). behind_logs (front ++ (events_at shape more).0 ∷ []) (logs_from shape (cores - (core + 1)) (core + 1) (n + 1 + length (events_at shape more).0) ls)) a
    ∙ sym (log_more front (events_at shape more).0 (logs_from shape (cores - (core + 1)) (core + 1) (n + 1 + length (events_at shape more).0) (events_at shape more).1))
    ∙ ap (behind_logs front) (sym (log_begins shape (cores - (core + 1)) core n more))
    ∙ ap (λ (k : ℕ). behind_logs front (logs_from shape k core n (log_line core ∷ more))) (sym up)
    ∙ ap (λ (ls : List (List ℕ)). behind_logs front (logs_from shape (cores - core) core n ls)) (sym l)
    ∙ so_far

pub no_log_met : (shape : Shape) (cores core n : ℕ) (front : List (List EventLine)) (lines : List (List ℕ)) (total : Result (List (List EventLine) × List (List ℕ)) ℕ) → core < cores → BeginsNoLog core lines
    → behind_logs front (logs_from shape (cores - core) core n lines) ≡ total → total ≡ Err n
no_log_met shape cores core n front lines total lt none so_far =
    let up : cores - core ≡ suc (cores - (core + 1)) = omega arith in
    sym so_far ∙ ap (λ (k : ℕ). behind_logs front (logs_from shape k core n lines)) up ∙ ap (behind_logs front) (no_log_begins shape (cores - (core + 1)) core n lines none)

pub logs_done : (shape : Shape) (cores core n : ℕ) (front : List (List EventLine)) (lines : List (List ℕ)) (total : Result (List (List EventLine) × List (List ℕ)) ℕ) → cores ≤ core
    → behind_logs front (logs_from shape (cores - core) core n lines) ≡ total → total ≡ Ok (front, lines)
logs_done shape cores core n front lines total le so_far =
    let none : cores - core ≡ 0 = omega arith in
    sym so_far ∙ ap (λ (k : ℕ). behind_logs front (logs_from shape k core n lines)) none ∙ ap (behind_logs front) (no_cores_left shape core n lines)
    ∙ ap (λ (ls : List (List EventLine)). Ok (ls, lines)) (append-nil front)

-- ---- the whole form

places_count : (shape : Shape) (bytes places : List ℕ) → length (calls_at shape bytes places) ≡ length places
places_count shape bytes [] = refl
places_count shape bytes (p ∷ places) = omega (arith, places_count shape bytes places)

pub form_is : (bytes : List ℕ) (shape : Shape) (first at : ℕ) (places : List ℕ) (logs : List (List EventLine)) (rest : List (List ℕ)) → HasHead bytes shape first
    → calls_from shape 3 (ended_lines (drop first bytes)) ≡ Ok (calls_at shape bytes places, ended_lines (drop at bytes))
    → logs_from shape shape.cores 0 (3 + length places) (ended_lines (drop at bytes)) ≡ Ok (logs, rest)
    → form_of (ended_lines bytes) ≡ Ok (record { shape = shape; calls = calls_at shape bytes places; logs = logs; rest = rest })
form_is bytes shape first at places logs rest h c l =
    let count : 3 + length (calls_at shape bytes places) ≡ 3 + length places = omega (arith, places_count shape bytes places) in
    let behind_them : logs_from shape shape.cores 0 (3 + length (calls_at shape bytes places)) (ended_lines (drop at bytes)) ≡ Ok (logs, rest) = ap (λ (k : ℕ). logs_from shape shape.cores 0 k (ended_lines (drop at bytes))) count ∙ l in
    ap form_of h.lines ∙ rw ((bytes_eq-Decides title_line title_line).1 refl, h.machine, c, behind_them) refl

pub calls_fail : (bytes : List ℕ) (shape : Shape) (first n : ℕ) → HasHead bytes shape first → calls_from shape 3 (ended_lines (drop first bytes)) ≡ Err n → form_of (ended_lines bytes) ≡ Err n
calls_fail bytes shape first n h c = ap form_of h.lines ∙ rw ((bytes_eq-Decides title_line title_line).1 refl, h.machine, c) refl

pub logs_fail : (bytes : List ℕ) (shape : Shape) (first at n : ℕ) (places : List ℕ) → HasHead bytes shape first
    → calls_from shape 3 (ended_lines (drop first bytes)) ≡ Ok (calls_at shape bytes places, ended_lines (drop at bytes))
    → logs_from shape shape.cores 0 (3 + length places) (ended_lines (drop at bytes)) ≡ Err n → form_of (ended_lines bytes) ≡ Err n
logs_fail bytes shape first at n places h c l =
    let count : 3 + length (calls_at shape bytes places) ≡ 3 + length places = omega (arith, places_count shape bytes places) in
    let behind_them : logs_from shape shape.cores 0 (3 + length (calls_at shape bytes places)) (ended_lines (drop at bytes)) ≡ Err n = ap (λ (k : ℕ). logs_from shape shape.cores 0 k (ended_lines (drop at bytes))) count ∙ l in
    ap form_of h.lines ∙ rw ((bytes_eq-Decides title_line title_line).1 refl, h.machine, c, behind_them) refl

-- the same of any error
pub calls_fail_with : (bytes : List ℕ) (shape : Shape) (first : ℕ) (e : CheckError) → HasHead bytes shape first → FailsWith e (calls_from shape 3 (ended_lines (drop first bytes))) → FailsWith e (form_of (ended_lines bytes))
calls_fail_with bytes shape first errors.Memory h f = tt
calls_fail_with bytes shape first (errors.Fault faults.TooLong) h f = f
calls_fail_with bytes shape first (errors.Fault (faults.Illegal n)) h f = calls_fail bytes shape first n h f

pub logs_fail_with : (bytes : List ℕ) (shape : Shape) (first at : ℕ) (places : List ℕ) (e : CheckError) → HasHead bytes shape first
    → calls_from shape 3 (ended_lines (drop first bytes)) ≡ Ok (calls_at shape bytes places, ended_lines (drop at bytes))
    → FailsWith e (logs_from shape shape.cores 0 (3 + length places) (ended_lines (drop at bytes))) → FailsWith e (form_of (ended_lines bytes))
logs_fail_with bytes shape first at places errors.Memory h c f = tt
logs_fail_with bytes shape first at places (errors.Fault faults.TooLong) h c f = f
logs_fail_with bytes shape first at places (errors.Fault (faults.Illegal n)) h c f = logs_fail bytes shape first at n places h c f

pub head_fails_with : (bytes : List ℕ) (fault : ReportFault) → FailsLine fault (form_of (ended_lines bytes)) → FailsWith (errors.Fault fault) (form_of (ended_lines bytes))
head_fails_with bytes faults.TooLong f = f
head_fails_with bytes (faults.Illegal n) f = f

-- ---- the head

pub no_title : (bytes line : List ℕ) (more : List (List ℕ)) → ended_lines bytes ≡ line ∷ more → bytes_eq line title_line ≡ false → form_of (ended_lines bytes) ≡ Err 1
no_title bytes line more l h = ap form_of l ∙ rw h refl

pub no_lines_at_all : (bytes : List ℕ) → length bytes ≡ 0 → form_of (ended_lines bytes) ≡ Err 1
unfolding ended_lines
no_lines_at_all bytes none = ap (λ (b : List ℕ). form_of (ended_lines b)) (nil_from_length bytes none)

title_there : (bytes first : List ℕ) (more : List (List ℕ)) → ended_lines bytes ≡ first ∷ more → bytes_eq first title_line ≡ true → ended_lines bytes ≡ title_line ∷ more
title_there bytes first more l h = l ∙ ap (λ (line : List ℕ). line ∷ more) ((bytes_eq-Decides first title_line).0 h)

pub no_machine : (bytes first : List ℕ) (more : List (List ℕ)) → ended_lines bytes ≡ first ∷ more → bytes_eq first title_line ≡ true → more ≡ [] → form_of (ended_lines bytes) ≡ Err 2
no_machine bytes first more l h none =
    ap form_of (title_there bytes first more l h ∙ ap (λ (ls : List (List ℕ)). title_line ∷ ls) none) ∙ rw ((bytes_eq-Decides title_line title_line).1 refl) refl

pub other_machine : (bytes first second : List ℕ) (more others : List (List ℕ)) → ended_lines bytes ≡ first ∷ more → bytes_eq first title_line ≡ true → more ≡ second ∷ others → machine_in second ≡ None → form_of (ended_lines bytes) ≡ Err 2
other_machine bytes first second more others l h m none =
    ap form_of (title_there bytes first more l h ∙ ap (λ (ls : List (List ℕ)). title_line ∷ ls) m) ∙ rw ((bytes_eq-Decides title_line title_line).1 refl, none) refl

pub head_there : (bytes first rest second behind_it : List ℕ) (shape : Shape) → ended_lines bytes ≡ first ∷ ended_lines rest → bytes_eq first title_line ≡ true → ended_lines rest ≡ second ∷ ended_lines behind_it → bytes ≡ first ++ rest → rest ≡ second ++ behind_it
    → machine_in second ≡ Some shape → HasHead bytes shape (length first + length second)
head_there bytes first rest second behind_it shape l h m joined more is =
    let place : drop (length first + length second) bytes ≡ behind_it = sym (drop_drop (length first) (length second) bytes) ∙ ap (λ (b : List ℕ). drop (length second) (drop (length first) b)) joined ∙ ap (drop (length second)) (drop_front first rest) ∙ ap (drop (length second)) more ∙ drop_front second behind_it in
    record {
      line = second;
      lines = title_there bytes first (ended_lines rest) l h ∙ ap (λ (ls : List (List ℕ)). title_line ∷ ls) m ∙ ap (λ (b : List ℕ). title_line ∷ second ∷ ended_lines b) (sym place);
      machine = is;
    }

pub no_lines_in : (text : List ℕ) → length text ≡ 0 → ended_lines text ≡ []
unfolding ended_lines
no_lines_in text none = ap ended_lines (nil_from_length text none)

pub none_begins : (core : ℕ) (text : List ℕ) → length text ≡ 0 → BeginsNoLog core (ended_lines text)
none_begins core text none = subst (BeginsNoLog core) (sym (no_lines_in text none)) tt

-- one more call, and its place
pub call_added : (shape : Shape) (bytes : List ℕ) (n at : ℕ) (places grown line rest : List ℕ) (total : Result (List Entry × List (List ℕ)) ℕ) → grown ≡ places ++ at ∷ [] → ended_lines (drop at bytes) ≡ line ∷ ended_lines rest → drop at bytes ≡ line ++ rest
    → bytes_eq line (log_line 0) ≡ false → is_some (call_in shape line) ≡ true → behind (calls_at shape bytes places) (calls_from shape n (ended_lines (drop at bytes))) ≡ total
    → behind (calls_at shape bytes grown) (calls_from shape (n + 1) (ended_lines (drop (at + length line) bytes))) ≡ total
call_added shape bytes n at places grown line rest total g l joined no_log_line some so_far =
    ap (λ (front : List Entry). behind front (calls_from shape (n + 1) (ended_lines (drop (at + length line) bytes)))) (ap (calls_at shape bytes) g ∙ calls_more shape bytes places at)
    ∙ ap (λ (text : List ℕ). behind (calls_at shape bytes places ++ unwrap_or (call_at shape bytes at) (nothing_done 0 0) ∷ []) (calls_from shape (n + 1) (ended_lines text))) (behind_line bytes line rest at joined)
    ∙ call_met shape n (calls_at shape bytes places) line (ended_lines (drop at bytes)) (ended_lines rest) (unwrap_or (call_at shape bytes at) (nothing_done 0 0)) total l no_log_line
    (call_there shape bytes at line (ended_lines rest) l some) so_far

-- a line that is neither
pub neither_met : (shape : Shape) (n : ℕ) (front : List Entry) (line : List ℕ) (left more : List (List ℕ)) (fault : ReportFault) (total : Result (List Entry × List (List ℕ)) ℕ) → left ≡ line ∷ more → log_or_call shape n line ≡ Err fault
    → behind front (calls_from shape n left) ≡ total → FailsWith (errors.Fault fault) total
neither_met shape n front line left more fault total l h so_far =
    let e : IsNeither shape n line fault = is_neither shape n line fault h in
    fault_told total n fault e.is_fault (none_met shape n front line left more total l e.no_log e.no_call so_far)

by_not : (b : Bool) → not b ≡ false → b ≡ true
by_not true h = refl
by_not false h = absurd cc

pub was_title : (first title : List ℕ) (other : Bool) → title ≡ title_line → other ≡ not (bytes_eq first title) → other ≡ false → bytes_eq first title_line ≡ true
was_title first title other is o h = ap (bytes_eq first) (sym is) ∙ by_not (bytes_eq first title) (sym o ∙ h)

logs_more : (shape : Shape) (texts : List (Bor (List ℕ))) (text : Bor (List ℕ)) → logs_at shape (texts ++ text ∷ []) ≡ logs_at shape texts ++ (events_at shape (ended_lines text.now)).0 ∷ []
logs_more shape [] text = refl
logs_more shape (t ∷ texts) text = ap (λ (logs : List (List EventLine)). (events_at shape (ended_lines t.now)).0 ∷ logs) (logs_more shape texts text)

-- one more log
pub log_added : (shape : Shape) (cores core n count : ℕ) (texts grown : List (Bor (List ℕ))) (text : Bor (List ℕ)) (lines after : List (List ℕ)) (total : Result (List (List EventLine) × List (List ℕ)) ℕ) → core < cores → grown ≡ texts ++ text ∷ []
    → lines ≡ log_line core ∷ ended_lines text.now → count ≡ length (events_at shape (ended_lines text.now)).0 → after ≡ (events_at shape (ended_lines text.now)).1 → behind_logs (logs_at shape texts) (logs_from shape (cores - core) core n lines) ≡ total
    → behind_logs (logs_at shape grown) (logs_from shape (cores - (core + 1)) (core + 1) (n + (1 + count)) after) ≡ total
log_added shape cores core n count texts grown text lines after total lt g l c a so_far =
    ap (λ (front : List (List EventLine)). behind_logs front (logs_from shape (cores - (core + 1)) (core + 1) (n + (1 + count)) after)) (ap (logs_at shape) g ∙ logs_more shape texts text)
    ∙ next_log_met shape cores core n count (logs_at shape texts) lines (ended_lines text.now) after total lt l c a so_far

-- ---- the texts of the logs

sizes_more : (texts : List (Bor (List ℕ))) (text : Bor (List ℕ)) → AllByRecursion (λ t. length t.now ≤ limit) texts → length text.now ≤ limit → AllByRecursion (λ t. length t.now ≤ limit) (texts ++ text ∷ [])
sizes_more [] text all one = (one, tt)
sizes_more (t ∷ texts) text all one = (all.0, sizes_more texts text all.1 one)

pub one_more_laid : (core : ℕ) (texts grown : List (Bor (List ℕ))) (text : Bor (List ℕ)) → grown ≡ texts ++ text ∷ [] → length text.now ≤ limit → LogsLaid core texts → LogsLaid (core + 1) grown
one_more_laid core texts grown text g le laid = record {
  count = omega (arith, ap length g, length-append texts (text ∷ []), laid.count);
  sizes = subst (AllByRecursion (λ (t : Bor (List ℕ)). length t.now ≤ limit)) (sym g) (sizes_more texts text laid.sizes le);
}

-- ---- the whole form, by places

-- the same, where the text behind the calls and the number of its first line are given
pub form_by : (bytes left : List ℕ) (shape : Shape) (first at line : ℕ) (places : List ℕ) (logs : List (List EventLine)) (rest : List (List ℕ)) → HasHead bytes shape first
    → calls_from shape 3 (ended_lines (drop first bytes)) ≡ Ok (calls_at shape bytes places, ended_lines (drop at bytes))
    → logs_from shape shape.cores 0 line (ended_lines left) ≡ Ok (logs, rest) → line ≡ 3 + length places → left ≡ drop at bytes
    → form_of (ended_lines bytes) ≡ Ok (record { shape = shape; calls = calls_at shape bytes places; logs = logs; rest = rest })
form_by bytes left shape first at line places logs rest h c l count back =
    form_is bytes shape first at places logs rest h c
    (ap (λ (k : ℕ). logs_from shape shape.cores 0 k (ended_lines (drop at bytes))) (sym count) ∙ ap (λ (text : List ℕ). logs_from shape shape.cores 0 line (ended_lines text)) (sym back) ∙ l)

pub logs_fail_by : (bytes left : List ℕ) (shape : Shape) (first at line : ℕ) (places : List ℕ) (e : CheckError) → HasHead bytes shape first
    → calls_from shape 3 (ended_lines (drop first bytes)) ≡ Ok (calls_at shape bytes places, ended_lines (drop at bytes))
    → FailsWith e (logs_from shape shape.cores 0 line (ended_lines left)) → line ≡ 3 + length places → left ≡ drop at bytes → FailsWith e (form_of (ended_lines bytes))
logs_fail_by bytes left shape first at line places e h c f count back =
    logs_fail_with bytes shape first at places e h c
    (subst (λ (text : List ℕ). FailsWith e (logs_from shape shape.cores 0 (3 + length places) (ended_lines text))) back
    (subst (λ (k : ℕ). FailsWith e (logs_from shape shape.cores 0 k (ended_lines left))) count f))
