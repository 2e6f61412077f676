-- Small reports, by hand.
use Rattle.std.proofs.Common.{◌≡◌, ℕ, List, [], ◌∷◌, Option, Some, None, Result, Ok, Err, refl, sym, ap, subst, arith, inl, inr}
use Rattle.std.specs.Prelude.{codes, Any, slice_index}
use Rattle.std.specs.Option.{unwrap_or}
use Rattle.std.specs.List.{AllByRecursion}
use Rattle.std.specs.Fmt.{digits}
use Rattle.mon_types.specs.Shape.{Shape, shape_of}
use Rattle.mon_types.specs.Bits.{members}
use Rattle.mon_types.specs.Calls.{call_name, call_of}
use Rattle.mon_types.specs.Replies.{done}
use Rattle.mon_types.specs.declared.call.Call.TheVariants as calls
use Rattle.mon_types.specs.declared.reply.Reply.{Reply}
use Rattle.mon_types.specs.declared.reply.Reply.TheVariants as replies
use Rattle.mon_types.specs.declared.object.ObjectId.TheVariants as objects
use Rattle.mon_types.specs.declared.object.Tried.{Tried}
use Rattle.mon_model.specs.Tries.{tried_set}
use Rattle.hist.specs.declared.event.Entry.{Entry}
use Rattle.hist.specs.declared.event.Why.TheVariants as whys
use Rattle.hist.specs.SafeLog.{IsClearing}
use Rattle.text_in.specs.Words.{words_of}
use Rattle.text_in.specs.Numbers.{with_bytes}
use Rattle.report.specs.Objects.{object_text, enclave_letter, thread_letter, region_letter, cell_letter}
use Rattle.report.specs.Calls.{ok_text, concurrent_text, reply_text, page_text, call_head, call_line}
use Rattle.report.specs.Events.{entry_line, trap_line, limit_line, event_line, log_line}
use Rattle.report.specs.Report.{title_line, machine_line, end_line}
use Rattle.report.specs.Tables.{region_line, state_line, core_line}
use Rattle.report.specs.Objects.{owner_text}
use Rattle.report_lines.specs.Lines.{ended_lines}
use Rattle.report_lines.specs.declared.event.EventLine.{EventLine}
use Rattle.report_lines.specs.declared.event.EventLine.TheVariants as lines
use Rattle.report_lines.specs.Reading.{numbers_at, call_named, page_at, tried_from, refusal_named, reply_at, entry_at, call_in, event_at, event_in, shape_at, machine_in}
use Rattle.legal_report.specs.Form.{Parsed, calls_from, events_at, logs_from, form_of}
use Rattle.legal_report.specs.Checks.{Passes, checks_of}
use Rattle.legal_report.specs.LegalReport.{IsLegalReport, FailsFormOrCheck, ReportFailsAt}
use Rattle.legal_report.specs.Runs.{head, flush, log, entry, regions, never_flushed, flushed_once, end, nothing_happened, one_flush, with_call, with_entry, with_events, with_end, forged_reply, late_ticket, late_serial, untried, own_lock, leading_zero, other_entry, no_period, twice, no_line, behind_limit, other_table, no_end, line_more}

abbrev small : Shape
small = shape_of 1 2 1 0

-- what the lines of a report of this machine tell
abbrev parsed_of : List Entry → List EventLine → List (List ℕ) → Parsed
parsed_of calls events rest = record { shape = small; calls = calls; logs = events ∷ []; rest = rest }

abbrev region_0 : List ℕ
region_0 = codes "region 0 owned os since 0\n"

abbrev region_1 : List ℕ
region_1 = codes "region 1 owned os since 0\n"

abbrev core_never : List ℕ
core_never = codes "core 0 os flushed 0\n"

abbrev core_once : List ℕ
core_once = codes "core 0 os flushed 1\n"

abbrev last : List ℕ
last = codes "end\n"

-- the lines behind the log where nothing happened, and after a flush
abbrev rest_never : List (List ℕ)
rest_never = region_0 ∷ region_1 ∷ core_never ∷ last ∷ []

abbrev rest_once : List (List ℕ)
rest_once = region_0 ∷ region_1 ∷ core_once ∷ last ∷ []

-- a flush with this ticket, serial, reply and tried objects
abbrev flush_with : ℕ → ℕ → Reply → Tried → Entry
flush_with ticket serial reply tried =
    record { ticket = ticket; core = 0; serial = serial; call = calls.Flush; page = None; reply = reply; tried = tried }

abbrev own_cell : Tried
own_cell = tried_set (objects.Cell 0 ∷ [])

-- ---- what the lines tell

nothing_form : form_of (ended_lines nothing_happened) ≡ Ok (parsed_of [] [] rest_never)
unfolding head flush log entry regions never_flushed flushed_once end forged_reply late_ticket late_serial untried own_lock leading_zero other_entry no_period twice no_line behind_limit other_table no_end line_more ended_lines words_of with_bytes numbers_at call_named page_at tried_from refusal_named reply_at entry_at call_in event_at event_in shape_at machine_in calls_from events_at logs_from call_line call_head call_name call_of page_text ok_text concurrent_text reply_text entry_line event_line trap_line limit_line log_line title_line machine_line members enclave_letter thread_letter region_letter cell_letter object_text digits
nothing_form = refl

flush_form : form_of (ended_lines one_flush) ≡ Ok (parsed_of (flush_with 1 0 done own_cell ∷ []) (lines.Entry 1 ∷ []) rest_once)
unfolding head flush log entry regions never_flushed flushed_once end forged_reply late_ticket late_serial untried own_lock leading_zero other_entry no_period twice no_line behind_limit other_table no_end line_more ended_lines words_of with_bytes numbers_at call_named page_at tried_from refusal_named reply_at entry_at call_in event_at event_in shape_at machine_in calls_from events_at logs_from call_line call_head call_name call_of page_text ok_text concurrent_text reply_text entry_line event_line trap_line limit_line log_line title_line machine_line members enclave_letter thread_letter region_letter cell_letter object_text digits
flush_form = refl

zero_form : form_of (ended_lines (with_call leading_zero)) ≡ Err 3
unfolding head flush log entry regions never_flushed flushed_once end forged_reply late_ticket late_serial untried own_lock leading_zero other_entry no_period twice no_line behind_limit other_table no_end line_more ended_lines words_of with_bytes numbers_at call_named page_at tried_from refusal_named reply_at entry_at call_in event_at event_in shape_at machine_in calls_from events_at logs_from call_line call_head call_name call_of page_text ok_text concurrent_text reply_text entry_line event_line trap_line limit_line log_line title_line machine_line members enclave_letter thread_letter region_letter cell_letter object_text digits
zero_form = refl

ticket_form : form_of (ended_lines (with_call late_ticket)) ≡ Ok (parsed_of (flush_with 2 0 done own_cell ∷ []) (lines.Entry 1 ∷ []) rest_once)
unfolding head flush log entry regions never_flushed flushed_once end forged_reply late_ticket late_serial untried own_lock leading_zero other_entry no_period twice no_line behind_limit other_table no_end line_more ended_lines words_of with_bytes numbers_at call_named page_at tried_from refusal_named reply_at entry_at call_in event_at event_in shape_at machine_in calls_from events_at logs_from call_line call_head call_name call_of page_text ok_text concurrent_text reply_text entry_line event_line trap_line limit_line log_line title_line machine_line members enclave_letter thread_letter region_letter cell_letter object_text digits
ticket_form = refl

serial_form : form_of (ended_lines (with_call late_serial)) ≡ Ok (parsed_of (flush_with 1 1 done own_cell ∷ []) (lines.Entry 1 ∷ []) rest_once)
unfolding head flush log entry regions never_flushed flushed_once end forged_reply late_ticket late_serial untried own_lock leading_zero other_entry no_period twice no_line behind_limit other_table no_end line_more ended_lines words_of with_bytes numbers_at call_named page_at tried_from refusal_named reply_at entry_at call_in event_at event_in shape_at machine_in calls_from events_at logs_from call_line call_head call_name call_of page_text ok_text concurrent_text reply_text entry_line event_line trap_line limit_line log_line title_line machine_line members enclave_letter thread_letter region_letter cell_letter object_text digits
serial_form = refl

reply_form : form_of (ended_lines (with_call forged_reply)) ≡ Ok (parsed_of (flush_with 1 0 replies.InvalidState own_cell ∷ []) (lines.Entry 1 ∷ []) rest_once)
unfolding head flush log entry regions never_flushed flushed_once end forged_reply late_ticket late_serial untried own_lock leading_zero other_entry no_period twice no_line behind_limit other_table no_end line_more ended_lines words_of with_bytes numbers_at call_named page_at tried_from refusal_named reply_at entry_at call_in event_at event_in shape_at machine_in calls_from events_at logs_from call_line call_head call_name call_of page_text ok_text concurrent_text reply_text entry_line event_line trap_line limit_line log_line title_line machine_line members enclave_letter thread_letter region_letter cell_letter object_text digits
reply_form = refl

untried_form : form_of (ended_lines (with_call untried)) ≡ Ok (parsed_of (flush_with 1 0 done (tried_set []) ∷ []) (lines.Entry 1 ∷ []) rest_once)
unfolding head flush log entry regions never_flushed flushed_once end forged_reply late_ticket late_serial untried own_lock leading_zero other_entry no_period twice no_line behind_limit other_table no_end line_more ended_lines words_of with_bytes numbers_at call_named page_at tried_from refusal_named reply_at entry_at call_in event_at event_in shape_at machine_in calls_from events_at logs_from call_line call_head call_name call_of page_text ok_text concurrent_text reply_text entry_line event_line trap_line limit_line log_line title_line machine_line members enclave_letter thread_letter region_letter cell_letter object_text digits
untried_form = refl

own_form : form_of (ended_lines (with_call own_lock)) ≡ Ok (parsed_of (flush_with 1 0 (replies.ConcurrentCall (objects.Cell 0) 0 0) own_cell ∷ []) (lines.Entry 1 ∷ []) rest_once)
unfolding head flush log entry regions never_flushed flushed_once end forged_reply late_ticket late_serial untried own_lock leading_zero other_entry no_period twice no_line behind_limit other_table no_end line_more ended_lines words_of with_bytes numbers_at call_named page_at tried_from refusal_named reply_at entry_at call_in event_at event_in shape_at machine_in calls_from events_at logs_from call_line call_head call_name call_of page_text ok_text concurrent_text reply_text entry_line event_line trap_line limit_line log_line title_line machine_line members enclave_letter thread_letter region_letter cell_letter object_text digits
own_form = refl

other_form : form_of (ended_lines (with_entry other_entry)) ≡ Ok (parsed_of (flush_with 1 0 done own_cell ∷ []) (lines.Entry 2 ∷ []) rest_once)
unfolding head flush log entry regions never_flushed flushed_once end forged_reply late_ticket late_serial untried own_lock leading_zero other_entry no_period twice no_line behind_limit other_table no_end line_more ended_lines words_of with_bytes numbers_at call_named page_at tried_from refusal_named reply_at entry_at call_in event_at event_in shape_at machine_in calls_from events_at logs_from call_line call_head call_name call_of page_text ok_text concurrent_text reply_text entry_line event_line trap_line limit_line log_line title_line machine_line members enclave_letter thread_letter region_letter cell_letter object_text digits
other_form = refl

left_form : form_of (ended_lines (with_entry [])) ≡ Ok (parsed_of (flush_with 1 0 done own_cell ∷ []) [] rest_once)
unfolding head flush log entry regions never_flushed flushed_once end forged_reply late_ticket late_serial untried own_lock leading_zero other_entry no_period twice no_line behind_limit other_table no_end line_more ended_lines words_of with_bytes numbers_at call_named page_at tried_from refusal_named reply_at entry_at call_in event_at event_in shape_at machine_in calls_from events_at logs_from call_line call_head call_name call_of page_text ok_text concurrent_text reply_text entry_line event_line trap_line limit_line log_line title_line machine_line members enclave_letter thread_letter region_letter cell_letter object_text digits
left_form = refl

period_form : form_of (ended_lines (with_events no_period)) ≡ Ok (parsed_of [] (lines.Touch 1 7 ∷ []) rest_never)
unfolding head flush log entry regions never_flushed flushed_once end forged_reply late_ticket late_serial untried own_lock leading_zero other_entry no_period twice no_line behind_limit other_table no_end line_more ended_lines words_of with_bytes numbers_at call_named page_at tried_from refusal_named reply_at entry_at call_in event_at event_in shape_at machine_in calls_from events_at logs_from call_line call_head call_name call_of page_text ok_text concurrent_text reply_text entry_line event_line trap_line limit_line log_line title_line machine_line members enclave_letter thread_letter region_letter cell_letter object_text digits
period_form = refl

twice_form : form_of (ended_lines (with_events twice)) ≡ Ok (parsed_of [] (lines.Touch 1 0 ∷ lines.Touch 1 0 ∷ []) rest_never)
unfolding head flush log entry regions never_flushed flushed_once end forged_reply late_ticket late_serial untried own_lock leading_zero other_entry no_period twice no_line behind_limit other_table no_end line_more ended_lines words_of with_bytes numbers_at call_named page_at tried_from refusal_named reply_at entry_at call_in event_at event_in shape_at machine_in calls_from events_at logs_from call_line call_head call_name call_of page_text ok_text concurrent_text reply_text entry_line event_line trap_line limit_line log_line title_line machine_line members enclave_letter thread_letter region_letter cell_letter object_text digits
twice_form = refl

stop_form : form_of (ended_lines (with_events no_line)) ≡ Ok (parsed_of [] (lines.Stop 0 whys.Limit ∷ []) rest_never)
unfolding head flush log entry regions never_flushed flushed_once end forged_reply late_ticket late_serial untried own_lock leading_zero other_entry no_period twice no_line behind_limit other_table no_end line_more ended_lines words_of with_bytes numbers_at call_named page_at tried_from refusal_named reply_at entry_at call_in event_at event_in shape_at machine_in calls_from events_at logs_from call_line call_head call_name call_of page_text ok_text concurrent_text reply_text entry_line event_line trap_line limit_line log_line title_line machine_line members enclave_letter thread_letter region_letter cell_letter object_text digits
stop_form = refl

limit_form : form_of (ended_lines (with_events behind_limit)) ≡ Ok (parsed_of [] (lines.Stop 3 whys.Limit ∷ lines.Stop 3 (whys.Trap 2 0) ∷ []) rest_never)
unfolding head flush log entry regions never_flushed flushed_once end forged_reply late_ticket late_serial untried own_lock leading_zero other_entry no_period twice no_line behind_limit other_table no_end line_more ended_lines words_of with_bytes numbers_at call_named page_at tried_from refusal_named reply_at entry_at call_in event_at event_in shape_at machine_in calls_from events_at logs_from call_line call_head call_name call_of page_text ok_text concurrent_text reply_text entry_line event_line trap_line limit_line log_line title_line machine_line members enclave_letter thread_letter region_letter cell_letter object_text digits
limit_form = refl

table_form : form_of (ended_lines (with_end other_table)) ≡ Ok (parsed_of [] [] (region_0 ∷ region_1 ∷ core_once ∷ last ∷ []))
unfolding head flush log entry regions never_flushed flushed_once end forged_reply late_ticket late_serial untried own_lock leading_zero other_entry no_period twice no_line behind_limit other_table no_end line_more ended_lines words_of with_bytes numbers_at call_named page_at tried_from refusal_named reply_at entry_at call_in event_at event_in shape_at machine_in calls_from events_at logs_from call_line call_head call_name call_of page_text ok_text concurrent_text reply_text entry_line event_line trap_line limit_line log_line title_line machine_line members enclave_letter thread_letter region_letter cell_letter object_text digits
table_form = refl

missing_form : form_of (ended_lines (with_end no_end)) ≡ Ok (parsed_of [] [] (region_0 ∷ region_1 ∷ core_never ∷ []))
unfolding head flush log entry regions never_flushed flushed_once end forged_reply late_ticket late_serial untried own_lock leading_zero other_entry no_period twice no_line behind_limit other_table no_end line_more ended_lines words_of with_bytes numbers_at call_named page_at tried_from refusal_named reply_at entry_at call_in event_at event_in shape_at machine_in calls_from events_at logs_from call_line call_head call_name call_of page_text ok_text concurrent_text reply_text entry_line event_line trap_line limit_line log_line title_line machine_line members enclave_letter thread_letter region_letter cell_letter object_text digits
missing_form = refl

more_form : form_of (ended_lines (with_end line_more)) ≡ Ok (parsed_of [] [] (region_0 ∷ region_1 ∷ core_never ∷ last ∷ last ∷ []))
unfolding head flush log entry regions never_flushed flushed_once end forged_reply late_ticket late_serial untried own_lock leading_zero other_entry no_period twice no_line behind_limit other_table no_end line_more ended_lines words_of with_bytes numbers_at call_named page_at tried_from refusal_named reply_at entry_at call_in event_at event_in shape_at machine_in calls_from events_at logs_from call_line call_head call_name call_of page_text ok_text concurrent_text reply_text entry_line event_line trap_line limit_line log_line title_line machine_line members enclave_letter thread_letter region_letter cell_letter object_text digits
more_form = refl

log_form : form_of (ended_lines head) ≡ Err 3
unfolding head flush log entry regions never_flushed flushed_once end forged_reply late_ticket late_serial untried own_lock leading_zero other_entry no_period twice no_line behind_limit other_table no_end line_more ended_lines words_of with_bytes numbers_at call_named page_at tried_from refusal_named reply_at entry_at call_in event_at event_in shape_at machine_in calls_from events_at logs_from call_line call_head call_name call_of page_text ok_text concurrent_text reply_text entry_line event_line trap_line limit_line log_line title_line machine_line members enclave_letter thread_letter region_letter cell_letter object_text digits
log_form = refl

-- ---- what they are found to be

fails_by : (bytes : List ℕ) (found : Result Parsed ℕ) (line : ℕ) → form_of (ended_lines bytes) ≡ found → FailsFormOrCheck found line → ReportFailsAt bytes line
fails_by bytes found line form fails = subst (λ (r : Result Parsed ℕ). FailsFormOrCheck r line) (sym form) fails

nothing_passes : AllByRecursion (Passes (parsed_of [] [] rest_never)) (checks_of (parsed_of [] [] rest_never))
unfolding ended_lines region_line owner_text state_line core_line end_line digits members
nothing_passes = (tt, ((refl, refl), ((tt, refl), ((tt, refl), ((tt, refl), tt)))))

pub nothing_legal : IsLegalReport nothing_happened 0
nothing_legal = record { parsed = parsed_of [] [] rest_never; form = nothing_form; passes = nothing_passes; calls = refl }

flush_passes : AllByRecursion (Passes (parsed_of (flush_with 1 0 done own_cell ∷ []) (lines.Entry 1 ∷ []) rest_once)) (checks_of (parsed_of (flush_with 1 0 done own_cell ∷ []) (lines.Entry 1 ∷ []) rest_once))
unfolding ended_lines region_line owner_text state_line core_line end_line digits members
flush_passes = (
  record { ticket = refl; serial = refl; legal = record { reply = λ _. refl; tried = λ _. refl; page = refl }; busy = tt },
  (tt, (refl, ((refl, refl), ((tt, refl), ((tt, refl), ((tt, refl), tt)))))),
)

pub flush_legal : IsLegalReport one_flush 1
flush_legal = record { parsed = parsed_of (flush_with 1 0 done own_cell ∷ []) (lines.Entry 1 ∷ []) rest_once; form = flush_form; passes = flush_passes; calls = refl }

pub zero_fails : ReportFailsAt (with_call leading_zero) 3
zero_fails = fails_by (with_call leading_zero) (Err 3) 3 zero_form refl

pub ticket_fails : ReportFailsAt (with_call late_ticket) 3
ticket_fails = fails_by (with_call late_ticket) _ 3 ticket_form (inl (refl, λ h. let wrong : 2 ≡ 1 = h.ticket in absurd (omega (arith, wrong))))

pub serial_fails : ReportFailsAt (with_call late_serial) 3
serial_fails = fails_by (with_call late_serial) _ 3 serial_form (inl (refl, λ h. let wrong : 1 ≡ 0 = h.serial in absurd (omega (arith, wrong))))

pub reply_fails : ReportFailsAt (with_call forged_reply) 3
reply_fails = fails_by (with_call forged_reply) _ 3 reply_form (inl (refl, λ h. let wrong : replies.InvalidState ≡ done = h.legal.reply refl in absurd cc))

pub untried_fails : ReportFailsAt (with_call untried) 3
untried_fails = fails_by (with_call untried) _ 3 untried_form (inl (refl, λ h. let wrong : 0 ≡ 1 = ap (λ (t : Tried). t.cells) (h.legal.tried refl) in absurd (omega (arith, wrong))))

pub own_fails : ReportFailsAt (with_call own_lock) 3
own_fails = fails_by (with_call own_lock) _ 3 own_form (inl (refl, λ h. h.busy.other refl))

-- the call line of the flush passes
pub other_fails : ReportFailsAt (with_entry other_entry) 5
other_fails =
    fails_by (with_entry other_entry) _ 5 other_form
    (inr (
      record { ticket = refl; serial = refl; legal = record { reply = λ _. refl; tried = λ _. refl; page = refl }; busy = tt },
      inr (tt, inl (refl, λ h. let wrong : ◌≡◌ {A = Option ℕ} (Some 1) (Some 2) = h in absurd cc)),
    ))

pub left_fails : ReportFailsAt (with_entry []) 5
unfolding ended_lines region_line owner_text state_line core_line end_line digits members
left_fails =
    fails_by (with_entry []) _ 5 left_form
    (inr (
      record { ticket = refl; serial = refl; legal = record { reply = λ _. refl; tried = λ _. refl; page = refl }; busy = tt },
      inr (tt, inl (refl, λ h. let wrong : ◌≡◌ {A = Option ℕ} (Some 1) None = h.0 in absurd cc)),
    ))

pub period_fails : ReportFailsAt (with_events no_period) 4
period_fails = fails_by (with_events no_period) _ 4 period_form (inr (tt, inl (refl, λ h. h.period)))

no_entries : (P : Entry → Type 0) → Any P [] → ⊥
no_entries P any = absurd (omega (arith, any.2))

pub twice_fails : ReportFailsAt (with_events twice) 5
twice_fails =
    fails_by (with_events twice) _ 5 twice_form
    (inr (
      tt,
      inr (
        record { region = omega arith; period = record { before_block = tt; after_beginning = tt; owner = tt; counted_flush = λ b z blocked freed. absurd cc; cleared = tt } },
        inl (refl, λ h. no_entries IsClearing (h.period.cleared.0 refl)),
      ),
    ))

pub stop_fails : ReportFailsAt (with_events no_line) 4
stop_fails = fails_by (with_events no_line) _ 4 stop_form (inr (tt, inl (refl, λ h. h.counted refl)))

pub limit_fails : ReportFailsAt (with_events behind_limit) 4
limit_fails = fails_by (with_events behind_limit) _ 4 limit_form (inr (tt, inl (refl, λ h. let wrong : ◌≡◌ {A = List EventLine} (lines.Stop 3 (whys.Trap 2 0) ∷ []) [] = h.ends in absurd cc)))

pub table_fails : ReportFailsAt (with_end other_table) 6
unfolding ended_lines region_line owner_text state_line core_line end_line digits members
table_fails =
    fails_by (with_end other_table) _ 6 table_form
    (inr (tt, inr ((refl, refl), inr ((tt, refl), inl (refl, λ h. let wrong : 48 ≡ 49 = ap (λ (o : Option (List ℕ)). slice_index (unwrap_or o []) 18) h.1 in absurd (omega (arith, wrong)))))))

pub missing_fails : ReportFailsAt (with_end no_end) 7
unfolding ended_lines region_line owner_text state_line core_line end_line digits members
missing_fails =
    fails_by (with_end no_end) _ 7 missing_form
    (inr (tt, inr ((refl, refl), inr ((tt, refl), inr ((tt, refl), inl (refl, λ h. let wrong : ◌≡◌ {A = Option (List ℕ)} (Some last) None = h.1 in absurd cc))))))

pub more_fails : ReportFailsAt (with_end line_more) 8
unfolding ended_lines region_line owner_text state_line core_line end_line digits members
more_fails =
    fails_by (with_end line_more) _ 8 more_form
    (inr (tt, inr ((refl, refl), inr ((tt, refl), inr ((tt, refl), inr ((tt, refl), inl (refl, λ h. let wrong : ◌≡◌ {A = Option (List ℕ)} None (Some last) = h.1 in absurd cc)))))))

pub log_fails : ReportFailsAt head 3
log_fails = fails_by head (Err 3) 3 log_form refl
