-- Ends of runs in which guest code makes a monitor call. This project's own.
use Rattle.std.specs.Prelude.{ℕ, true, List, [], ◌∷◌, ◌++◌, replicate, slice_set}
use Rattle.mon_types.specs.declared.thread.Thread.{Thread}
use Rattle.mon_types.specs.declared.thread.ThreadState.TheVariants as states
use Rattle.mon_types.specs.declared.script.Line.{Line}
use Rattle.mon_types.specs.declared.script.Line.TheVariants as lines
use Rattle.mon_model.specs.State.{with_thread}
use Rattle.solo.specs.Core.{Core}
use Rattle.solo_runs.specs.Machines.{at, two, back, ecall, os_core, ready_state, tables_satp, own_tables, thread_0, inside_state, inside_core, after_lines}

-- these registers are set, and then there is one turn
abbrev pub then_turn : List Line → List Line
then_turn settings = settings ++ lines.Run 1 ∷ []

-- the OS's code asks for the call of this number, with this in x10, 8 in x14 and 99 in x15
abbrev pub asked : ℕ → ℕ → Core
asked number first =
    after_lines (os_core (at 0 (two ecall back) ∷ []))
    (then_turn
    (lines.SetReg 17 number ∷ lines.SetReg 10 first ∷ lines.SetReg 11 55 ∷ lines.SetReg 14 8
    ∷ lines.SetReg 15 99
    ∷ []))

-- it asks for region_info of region 3
abbrev pub region_info_asked : Core
region_info_asked = asked 5 3

-- for set_satp
abbrev pub satp_asked : Core
satp_asked = asked 21 tables_satp

-- it enters the enclave
abbrev pub entered_by_guest : Core
entered_by_guest =
    after_lines (record (os_core (at 0 (two ecall back) ∷ own_tables)) { state = ready_state })
    (then_turn (lines.SetReg 17 13 ∷ []))

-- the enclave's thread with a pc of 0x10008 and 3 in x5 saved
abbrev pub saved_thread : Thread
saved_thread = record (thread_0 (states.Running 0)) {
  saved_at = 9;
  saved = 0x10008 ∷ replicate 4 0 ++ 3 ∷ replicate 26 0 ++ 13 ∷ [];
}

-- the enclave restores it
abbrev pub restored_by_guest : Core
restored_by_guest =
    after_lines
    (record (inside_core true ecall) {
      state = with_thread inside_state 0 saved_thread;
      contexts = record (inside_core true ecall).contexts {
        current = record { pc = 0x10000; regs = slice_set (replicate 32 0) 17 16 };
      };
    })
    (lines.Run 1 ∷ [])
