-- A report that is printed has the form of a report.
use Rattle.std.proofs.Common.{◌≡◌, ℕ, suc, ◌+◌, ◌<◌, ◌≤◌, ◌^◌, true, false, cond, List, [], ◌∷◌, ◌++◌, length, Option, Some, None, Ok, refl, sym, ap, subst, ◌∙◌, arith, append_assoc}
use Rattle.std.specs.Prelude.{map, slice_index, codes}
use Rattle.std.specs.List.{flat_map, AllByRecursion}
use Rattle.std.specs.Str.{bytes_eq}
use Rattle.std.proofs.lemmas.Bool.Decides.{nat_tests}
use Rattle.std.proofs.lemmas.Slice.Eq.{bytes_eq-Decides}
use Rattle.mon_types.specs.Shape.{Shape, is_shape}
use Rattle.mon_types.specs.LimitLaws.{few_cores, few_regions}
use Rattle.mon_types.specs.declared.region.Region.{Region}
use Rattle.mon_types.specs.declared.region.Region.TheVariants as regions
use Rattle.hist.specs.declared.event.PageInput.{PageInput}
use Rattle.hist.specs.declared.event.Entry.{Entry}
use Rattle.hist.specs.declared.event.Event.{Event}
use Rattle.hist.specs.declared.event.Event.TheVariants as events
use Rattle.hist.specs.declared.event.Why.TheVariants as whys
use Rattle.hist.specs.Logged.{Logged, events_of}
use Rattle.hist.specs.History.{history, digest_of}
use Rattle.hist.specs.Legal.{has_its_page}
use Rattle.text_out.specs.Texts.{hex_text}
use Rattle.text_in.specs.Bytes.{is_line_feed}
use Rattle.text_in.specs.Lines.{onto}
use Rattle.report.specs.Objects.{numbered}
use Rattle.report.specs.Calls.{page_text, call_head, call_line}
use Rattle.report.specs.Events.{entry_line, trap_line, limit_line, event_line, log_line, log_text}
use Rattle.report.specs.Tables.{region_line, core_lines}
use Rattle.report.specs.Report.{title_line, machine_line, end_line, calls_text, logs_text, slots_text, tables_text}
use Rattle.report_lines.specs.declared.event.EventLine.{EventLine}
use Rattle.report_lines.specs.declared.event.EventLine.TheVariants as lines
use Rattle.report_lines.specs.Fits.{FitsEntry, FitsEvent}
use Rattle.report_lines.specs.Forms.{event_text}
use Rattle.report_lines.specs.Lines.{ended_lines}
use Rattle.report_lines.specs.Reading.{call_in, event_in, machine_in}
use Rattle.report_lines.proofs.Again.{call_is}
use Rattle.report_lines.proofs.Events.{event_in_is, event_in_found, machine_in_is, small_shape}
use Rattle.report_lines.proofs.Lined.{in_line}
use Rattle.legal_report.specs.Form.{calls_from, events_at, logs_from, form_of}
use Rattle.legal_report.specs.Printed.{page_told, entry_told, event_told, log_told, PrintedHaveForm}
use Rattle.legal_report.proofs.Plain.{IsLine, line_first, call_is_line, event_is_line, log_is_line, title_is_line, machine_is_line}

-- ---- calls

same_digest : (page : Option PageInput) → digest_of (page_told page) ≡ digest_of page
same_digest None = refl
same_digest (Some page) = refl

same_page : (e : Entry) → page_text (entry_told e) ≡ page_text e
unfolding page_text
same_page e = ap (λ (digest : List ℕ). cond (has_its_page e) (codes " page " ++ hex_text digest) []) (same_digest e.page)

same_line : (e : Entry) → call_line (entry_told e) ≡ call_line e
unfolding call_line call_head
same_line e = rw (same_page e) refl

no_log : (e : Entry) → bytes_eq (call_line e) (log_line 0) ≡ false
unfolding call_line call_head log_line
no_log e = refl

calls_end : (shape : Shape) (n : ℕ) (lines : List (List ℕ)) → calls_from shape n (log_line 0 ∷ lines) ≡ Ok ([], log_line 0 ∷ lines)
unfolding calls_from
calls_end shape n lines = rw ((bytes_eq-Decides (log_line 0) (log_line 0)).1 refl) refl

calls_step : (shape : Shape) (n : ℕ) (line : List ℕ) (lines : List (List ℕ)) (e : Entry) (later : List Entry × List (List ℕ)) → bytes_eq line (log_line 0) ≡ false → call_in shape line ≡ Some e
    → calls_from shape (n + 1) lines ≡ Ok later → calls_from shape n (line ∷ lines) ≡ Ok (e ∷ later.0, later.1)
unfolding calls_from
calls_step shape n line lines e later a b c = rw (a, b, c) refl

calls_read : (shape : Shape) (es : List Entry) (n : ℕ) (rest : List ℕ) (lines : List (List ℕ)) → is_shape shape ≡ true → AllByRecursion (λ e. FitsEntry shape (entry_told e)) es
    → ended_lines rest ≡ log_line 0 ∷ lines → calls_from shape n (ended_lines (flat_map call_line es ++ rest)) ≡ Ok (map entry_told es, log_line 0 ∷ lines)
calls_read shape [] n rest lines valid h e = ap (calls_from shape n) e ∙ calls_end shape n lines
calls_read shape (x ∷ es) n rest lines valid h e =
    let told : IsLine (call_line x) = subst IsLine (same_line x) (call_is_line shape (entry_told x) (few_regions shape valid) (few_cores shape valid) h.0) in
    let read : call_in shape (call_line x) ≡ Some (entry_told x) = call_is shape (call_line x) (entry_told x) valid (record { fits = h.0; printed = sym (same_line x) }) in
    ap (λ (text : List ℕ). calls_from shape n (ended_lines text)) (append_assoc (call_line x) (flat_map call_line es) rest)
    ∙ ap (calls_from shape n) (line_first (call_line x) (flat_map call_line es ++ rest) told)
    ∙ calls_step shape n (call_line x) _ (entry_told x) (map entry_told es, log_line 0 ∷ lines) (no_log x) read (calls_read shape es (n + 1) rest lines valid h.1 e)

-- ---- events

same_event : (event : Event) → event_line event ≡ event_text (event_told event)
unfolding event_line
same_event (events.Entry e) = refl
same_event (events.Touch region since) = refl
same_event (events.Stop line (whys.Trap cause value)) = refl
same_event (events.Stop line whys.Limit) = refl

events_step : (shape : Shape) (line : List ℕ) (lines : List (List ℕ)) (event : EventLine) (later : List EventLine × List (List ℕ)) → event_in shape line ≡ Some event → events_at shape lines ≡ later
    → events_at shape (line ∷ lines) ≡ (event ∷ later.0, later.1)
unfolding events_at
events_step shape line lines event later a b = rw (a, b) refl

events_end : (shape : Shape) (line : List ℕ) (lines : List (List ℕ)) → event_in shape line ≡ None → events_at shape (line ∷ lines) ≡ ([], line ∷ lines)
unfolding events_at
events_end shape line lines a = rw a refl

events_read : (shape : Shape) (log : List Event) (rest : List ℕ) → is_shape shape ≡ true → AllByRecursion (λ event. FitsEvent shape (event_told event)) log → events_at shape (ended_lines rest) ≡ ([], ended_lines rest)
    → events_at shape (ended_lines (flat_map event_line log ++ rest)) ≡ (map event_told log, ended_lines rest)
events_read shape [] rest valid h e = e
events_read shape (x ∷ log) rest valid h e =
    let told : IsLine (event_line x) = subst IsLine (sym (same_event x)) (event_is_line shape (event_told x) (few_regions shape valid) h.0) in
    let read : event_in shape (event_line x) ≡ Some (event_told x) = event_in_is shape (event_line x) (event_told x) valid (record { fits = h.0; printed = same_event x }) in
    ap (λ (text : List ℕ). events_at shape (ended_lines text)) (append_assoc (event_line x) (flat_map event_line log) rest)
    ∙ ap (events_at shape) (line_first (event_line x) (flat_map event_line log ++ rest) told)
    ∙ events_step shape (event_line x) _ (event_told x) (map event_told log, ended_lines rest) read (events_read shape log rest valid h.1 e)

-- ---- lines that are no events

none_by : (shape : Shape) (line : List ℕ) → ((event : EventLine) → line ≡ event_text event → ⊥) → (o : Option EventLine) → event_in shape line ≡ o → o ≡ None
none_by shape line differs None is = refl
none_by shape line differs (Some event) is = absurd (differs event (event_in_found shape line event is).printed)

none_unless : (shape : Shape) (line : List ℕ) → ((event : EventLine) → line ≡ event_text event → ⊥) → event_in shape line ≡ None
none_unless shape line differs = none_by shape line differs (event_in shape line) refl

no_log_event : (core : ℕ) (event : EventLine) → log_line core ≡ event_text event → ⊥
unfolding log_line entry_line event_line trap_line limit_line
no_log_event core (lines.Entry ticket) e = let wrong : 108 ≡ 101 = ap (λ (l : List ℕ). slice_index l 0) e in omega (arith, wrong)
no_log_event core (lines.Touch region since) e = let wrong : 108 ≡ 116 = ap (λ (l : List ℕ). slice_index l 0) e in omega (arith, wrong)
no_log_event core (lines.Stop line (whys.Trap cause value)) e = let wrong : 108 ≡ 116 = ap (λ (l : List ℕ). slice_index l 0) e in omega (arith, wrong)
no_log_event core (lines.Stop line whys.Limit) e = let wrong : 111 ≡ 105 = ap (λ (l : List ℕ). slice_index l 1) e in omega (arith, wrong)

no_region_event : (tail : List ℕ) (event : EventLine) → 114 ∷ tail ≡ event_text event → ⊥
unfolding entry_line event_line trap_line limit_line
no_region_event tail (lines.Entry ticket) e = let wrong : 114 ≡ 101 = ap (λ (l : List ℕ). slice_index l 0) e in omega (arith, wrong)
no_region_event tail (lines.Touch region since) e = let wrong : 114 ≡ 116 = ap (λ (l : List ℕ). slice_index l 0) e in omega (arith, wrong)
no_region_event tail (lines.Stop line (whys.Trap cause value)) e = let wrong : 114 ≡ 116 = ap (λ (l : List ℕ). slice_index l 0) e in omega (arith, wrong)
no_region_event tail (lines.Stop line whys.Limit) e = let wrong : 114 ≡ 108 = ap (λ (l : List ℕ). slice_index l 0) e in omega (arith, wrong)

-- no events, and these lines
abbrev nothing_before : List (List ℕ) → List EventLine × List (List ℕ)
nothing_before lines = ([], lines)

-- a text that begins with a byte
record StartsWith (b : ℕ) (text : List ℕ) : Type 0 where
  more : List ℕ
  is : text ≡ b ∷ more

-- lines of which the first begins with a byte
record BeginWith (b : ℕ) (lines : List (List ℕ)) : Type 0 where
  tail : List ℕ
  others : List (List ℕ)
  is : lines ≡ (b ∷ tail) ∷ others

put_onto : (b : ℕ) (lines : List (List ℕ)) → BeginWith b (onto b lines)
put_onto b [] = record { tail = []; others = []; is = refl }
put_onto b (line ∷ lines) = record { tail = line; others = lines; is = refl }

first_begins : (b : ℕ) (bs : List ℕ) → is_line_feed b ≡ false → BeginWith b (ended_lines (b ∷ bs))
first_begins b bs h = subst (BeginWith b) (sym (in_line b bs h)) (put_onto b (ended_lines bs))

starts : (rs : List Region) (a b c : List ℕ) → 0 < length rs → StartsWith 114 (((numbered region_line 0 rs ++ a) ++ b) ++ c)
unfolding region_line
starts [] a b c some = absurd (omega arith)
starts (regions.Free ∷ rs) a b c some = record { more = _; is = refl }
starts (regions.Owned owner since ∷ rs) a b c some = record { more = _; is = refl }
starts (regions.Blocked owner since at ∷ rs) a b c some = record { more = _; is = refl }
starts (regions.Offered to at ∷ rs) a b c some = record { more = _; is = refl }

-- no event comes first in a text that begins as the tables do
tables_no_event : (shape : Shape) (rest : List ℕ) → StartsWith 114 rest → events_at shape (ended_lines rest) ≡ ([], ended_lines rest)
tables_no_event shape rest h =
    let first = first_begins 114 h.more refl in
    let all : ended_lines rest ≡ (114 ∷ first.tail) ∷ first.others = ap ended_lines h.is ∙ first.is in
    ap (events_at shape) all ∙ events_end shape (114 ∷ first.tail) first.others (none_unless shape (114 ∷ first.tail) (no_region_event first.tail)) ∙ ap nothing_before (sym all)

-- ---- logs

grouped : (a b c d : List ℕ) → ((a ++ b) ++ c) ++ d ≡ a ++ (b ++ (c ++ d))
grouped a b c d = simp append_assoc

log_first : (core : ℕ) (log : Logged) (logs : List Logged) (rest : List ℕ) → core < 2 ^ 64
    → ended_lines (numbered log_text core (log ∷ logs) ++ rest) ≡ log_line core ∷ ended_lines (flat_map event_line log.events ++ (numbered log_text (core + 1) logs ++ rest))
log_first core log logs rest lt =
    ap ended_lines (grouped (log_line core) (flat_map event_line log.events) (numbered log_text (core + 1) logs) rest)
    ∙ line_first (log_line core) (flat_map event_line log.events ++ (numbered log_text (core + 1) logs ++ rest)) (log_is_line core lt)

logs_no_event : (shape : Shape) (core : ℕ) (logs : List Logged) (rest : List ℕ) → core < 2 ^ 64 → StartsWith 114 rest
    → events_at shape (ended_lines (numbered log_text core logs ++ rest)) ≡ ([], ended_lines (numbered log_text core logs ++ rest))
logs_no_event shape core [] rest lt h = tables_no_event shape rest h
logs_no_event shape core (log ∷ logs) rest lt h =
    let all = log_first core log logs rest lt in
    ap (events_at shape) all
    ∙ events_end shape (log_line core) (ended_lines (flat_map event_line log.events ++ (numbered log_text (core + 1) logs ++ rest))) (none_unless shape (log_line core) (no_log_event core))
    ∙ ap nothing_before (sym all)

logs_none : (shape : Shape) (core n : ℕ) (lines : List (List ℕ)) → logs_from shape 0 core n lines ≡ Ok ([], lines)
unfolding logs_from
logs_none shape core n lines = refl

logs_step : (shape : Shape) (left core n : ℕ) (lines : List (List ℕ)) (found : List EventLine × List (List ℕ)) (later : List (List EventLine) × List (List ℕ)) → events_at shape lines ≡ found
    → logs_from shape left (core + 1) (n + 1 + length found.0) found.1 ≡ Ok later → logs_from shape (suc left) core n (log_line core ∷ lines) ≡ Ok (found.0 ∷ later.0, later.1)
unfolding logs_from
logs_step shape left core n lines found later a b = rw ((bytes_eq-Decides (log_line core) (log_line core)).1 refl, a, b) refl

logs_read : (shape : Shape) (logs : List Logged) (core n : ℕ) (rest : List ℕ) → is_shape shape ≡ true → core + length logs ≤ 16 → AllByRecursion (λ log. AllByRecursion (λ event. FitsEvent shape (event_told event)) log.events) logs
    → StartsWith 114 rest → logs_from shape (length logs) core n (ended_lines (numbered log_text core logs ++ rest)) ≡ Ok (map log_told logs, ended_lines rest)
logs_read shape [] core n rest valid few h s = logs_none shape core n (ended_lines rest)
logs_read shape (log ∷ logs) core n rest valid few h s =
    let small : core < 2 ^ 64 = omega arith in
    let next : core + 1 < 2 ^ 64 = omega arith in
    let behind = numbered log_text (core + 1) logs ++ rest in
    let read : events_at shape (ended_lines (flat_map event_line log.events ++ behind)) ≡ (log_told log, ended_lines behind) = events_read shape log.events behind valid h.0 (logs_no_event shape (core + 1) logs rest next s) in
    ap (logs_from shape (suc (length logs)) core n) (log_first core log logs rest small)
    ∙ logs_step shape (length logs) core n (ended_lines (flat_map event_line log.events ++ behind)) (log_told log, ended_lines behind) (map log_told logs, ended_lines rest) read
    (logs_read shape logs (core + 1) (n + 1 + length (log_told log)) rest valid (omega arith) h.1 s)

-- ---- the whole report

regrouped : (t m c l b e : List ℕ) → (((t ++ m) ++ c) ++ (l ++ b)) ++ e ≡ t ++ (m ++ (c ++ (l ++ (b ++ e))))
regrouped t m c l b e = simp append_assoc

form_step : (shape : Shape) (line : List ℕ) (lines : List (List ℕ)) (calls : List Entry × List (List ℕ)) (logs : List (List EventLine) × List (List ℕ)) → machine_in line ≡ Some shape → calls_from shape 3 lines ≡ Ok calls
    → logs_from shape shape.cores 0 (3 + length calls.0) calls.1 ≡ Ok logs → form_of (title_line ∷ line ∷ lines) ≡ Ok (record { shape = shape; calls = calls.0; logs = logs.0; rest = logs.1 })
form_step shape line lines calls logs a b c = rw ((bytes_eq-Decides title_line title_line).1 refl, a, b, c) refl

-- the lines of the logs begin with that of core 0
first_log : (logs : List Logged) (rest : List ℕ) → 0 < length logs → (lines : List (List ℕ)) × (ended_lines (numbered log_text 0 logs ++ rest) ≡ log_line 0 ∷ lines)
first_log [] rest some = absurd (omega arith)
first_log (log ∷ logs) rest some = (ended_lines (flat_map event_line log.events ++ (numbered log_text 1 logs ++ rest)), log_first 0 log logs rest (omega arith))

some_core : (shape : Shape) → is_shape shape ≡ true → 0 < shape.cores
some_core shape h = grind (arith, nat_tests)

pub printed_have_form : PrintedHaveForm
printed_have_form f h =
    let behind = tables_text f ++ end_line in
    let begins = starts f.regions (slots_text f) (core_lines 0 f.modes f.flushed) end_line h.regions in
    let first = first_log f.logs behind (omega (arith, h.cores, some_core f.config h.shape)) in
    let calls : calls_from f.config 3 (ended_lines (calls_text f.logs ++ (logs_text f.logs ++ behind))) ≡ Ok (map entry_told (history (events_of f.logs)), log_line 0 ∷ first.0) = calls_read f.config (history (events_of f.logs)) 3 (logs_text f.logs ++ behind) first.0 h.shape h.calls first.1 in
    let logs : logs_from f.config f.config.cores 0 (3 + length (map entry_told (history (events_of f.logs)))) (log_line 0 ∷ first.0) ≡ Ok (map log_told f.logs, ended_lines behind) =
    ap (logs_from f.config f.config.cores 0 (3 + length (map entry_told (history (events_of f.logs))))) (sym first.1)
    ∙ ap (λ (k : ℕ). logs_from f.config k 0 (3 + length (map entry_told (history (events_of f.logs)))) (ended_lines (logs_text f.logs ++ behind))) (sym h.cores)
    ∙ logs_read f.config f.logs 0 (3 + length (map entry_told (history (events_of f.logs)))) behind h.shape (omega (arith, h.cores, few_cores f.config h.shape)) h.events begins in
    let machine_rest : List ℕ = calls_text f.logs ++ (logs_text f.logs ++ behind) in
    ap (λ (text : List ℕ). form_of (ended_lines text)) (regrouped title_line (machine_line f.config) (calls_text f.logs) (logs_text f.logs) (tables_text f) end_line)
    ∙ ap form_of (line_first title_line (machine_line f.config ++ machine_rest) title_is_line ∙ ap (λ (lines : List (List ℕ)). title_line ∷ lines) (line_first (machine_line f.config) machine_rest (machine_is_line f.config (small_shape f.config h.shape))))
    ∙ form_step f.config (machine_line f.config) (ended_lines machine_rest) (map entry_told (history (events_of f.logs)), log_line 0 ∷ first.0) (map log_told f.logs, ended_lines behind)
    (machine_in_is (machine_line f.config) f.config (record { fits = h.shape; printed = refl })) calls logs
