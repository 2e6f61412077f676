-- The machine of one core, said directly: what a script makes of an image, line by line and turn by turn, with the
-- sequential monitor for calls, one list of words for DRAM, and two counts for the budget. It has no moves and no
-- locks. This project's own.
use Rattle.std.specs.Prelude.{ℕ, zero, suc, ◌+◌, ◌-◌, Bool, true, false, if◌then◌else◌, List, [], ◌∷◌, length, Result, Ok, Err}
use Rattle.mon_types.specs.declared.image.Image.{Image}
use Rattle.mon_types.specs.declared.thread.Mode.{Mode}
use Rattle.mon_types.specs.declared.script.Line.{Line}
use Rattle.mon_types.specs.declared.script.Line.TheVariants as lines
use Rattle.mon_types.specs.Budgets.{event_budget}
use Rattle.hist.specs.declared.event.Event.TheVariants as events
use Rattle.hist.specs.declared.event.Why.TheVariants as whys
use Rattle.hist.specs.declared.finished.Finished.{Finished}
use Rattle.report.specs.Report.{report_text}
use Rattle.dram_map.specs.Words.{word_at}
use Rattle.sv39_pte.specs.declared.pte.Access.TheVariants as accesses
use Rattle.core_access.specs.Causes.{misaligned, is_aligned}
use Rattle.core_access.specs.Words.{place_in}
use Rattle.core_context.specs.declared.origin.Origin.TheVariants as origins
use Rattle.core_context.specs.Budgets.{is_spent_by}
use Rattle.core_context.specs.Lines.{pc_by, reg_by}
use Rattle.solo.specs.Core.{Core, core_start, mode_now, chosen, logged, given, with_current, set_register}
use Rattle.solo.specs.Calls.{called, ticked}
use Rattle.solo.specs.Translation.{accessed}
use Rattle.solo.specs.Turns.{Turned, trapped, put, turned}

-- the core after a line, or a part of one, and whether its script is over
pub record Lined : Type 0 where
  pub core : Core
  pub over : Bool

-- the script goes on
abbrev pub continues : Core → Lined
continues c = record { core = c; over = false }

-- ---- budgets

-- whether too little is left of a budget for one more line or turn
abbrev pub is_spent : Core → Bool
is_spent c = is_spent_by (length c.log) (length c.answers)

-- a Limit at line n ends the script
abbrev pub limited : ℕ → Core → Lined
limited n c = record { core = logged c (events.Stop n whys.Limit); over = true }

-- ---- the lines `load` and `store`: one access of 8 bytes in the present mode

-- the word is put in x10; a fault is a trap
abbrev pub word_loaded_on : ℕ → ℕ → Core → Result ℕ ℕ → Core
word_loaded_on n va c (Ok page) =
    let word = word_at c.words (place_in page va) in
    set_register (given c word) 10 word
word_loaded_on n va c (Err cause) = (trapped n c cause va).core

-- the line `load`: misaligned, or translated
abbrev pub word_loaded : ℕ → Core → ℕ → Core
word_loaded n c va =
    if is_aligned va 8
    then word_loaded_on n va (accessed c va accesses.Load).core (accessed c va accesses.Load).page
    else (trapped n c (misaligned accesses.Load) va).core

-- the word is stored; a fault is a trap
abbrev pub word_stored_on : ℕ → ℕ → ℕ → Core → Result ℕ ℕ → Core
word_stored_on n va value c (Ok page) = put c (place_in page va) value
word_stored_on n va value c (Err cause) = (trapped n c cause va).core

-- the line `store`: misaligned, or translated
abbrev pub word_stored : ℕ → Core → ℕ → ℕ → Core
word_stored n c va value =
    if is_aligned va 8
    then word_stored_on n va value (accessed c va accesses.Store).core (accessed c va accesses.Store).page
    else (trapped n c (misaligned accesses.Store) va).core

-- ---- the lines `pc` and `reg`

-- the pc is set, for the OS alone
abbrev pub pc_set : Mode → Core → ℕ → Core
pc_set mode c pc = with_current c (pc_by mode c.contexts.current pc)

-- and a register
abbrev pub reg_set : Mode → Core → ℕ → ℕ → Core
reg_set mode c x value = with_current c (reg_by mode c.contexts.current x value)

-- ---- the line `run`

-- what follows a turn: nothing, where the line ends with it, and else the turns that are left
abbrev pub turns_after : (Core → Lined) → Turned → Lined
turns_after more t = chosen t.ends (λ u. continues t.core) (λ u. more t.core)

-- up to so many turns of line n, before each of which the budget is looked at
unfoldable pub turns : ℕ → ℕ → Core → Lined
turns n zero c = continues c
turns n (suc count) c = chosen (is_spent c) (λ u. limited n c) (λ u. turns_after (turns n count) (turned n c))

-- ---- a script

-- the core after line n
abbrev pub core_after : ℕ → Core → Line → Lined
core_after n c (lines.Make call) = continues (called origins.Line c call)
core_after n c (lines.Run count) = turns n count c
core_after n c lines.Tick = continues (ticked (mode_now c) c)
core_after n c (lines.LoadWord va) = continues (word_loaded n c va)
core_after n c (lines.StoreWord va value) = continues (word_stored n c va value)
core_after n c (lines.SetPc pc) = continues (pc_set (mode_now c) c pc)
core_after n c (lines.SetReg x value) = continues (reg_set (mode_now c) c x value)

-- what follows a line: nothing, where the script is over with it, and else the lines that are left
abbrev pub lines_after : (Core → Core) → Lined → Core
lines_after more l = chosen l.over (λ u. l.core) (λ u. more l.core)

-- the core after these lines, the first of which has number n; before each the budget is looked at
unfoldable pub core_from : Core → ℕ → List Line → Core
core_from c n [] = c
core_from c n (line ∷ rest) =
    chosen (is_spent c) (λ u. (limited n c).core)
    (λ u. lines_after (λ d. core_from d (n + 1) rest) (core_after n c line))

-- what the core leaves
abbrev pub finished_run : Core → Finished
finished_run c = record {
  config = c.state.shape;
  logs = record { events = c.log; spare = event_budget - length c.log } ∷ [];
  answers = c.answers ∷ [];
  regions = c.state.regions;
  enclaves = c.state.enclaves;
  threads = c.state.threads;
  flushed = c.state.flushed;
  modes = c.state.modes;
  words = c.words;
}

-- the finished run of these lines on the machine of an image with one core
abbrev pub solo_run : Image → List Line → Finished
solo_run image script = finished_run (core_from (core_start image) 1 script)

-- its report
abbrev pub solo_report : Image → List Line → List ℕ
solo_report image script = report_text (solo_run image script)
