-- What the readers of traces answer, beside what reading gives. All of it is this project's own.
use Rattle.std.specs.Prelude.{◌≡◌, ◌≤◌, ℕ, true, All, List, Option, Some, None, Result, Ok, Err}
use Rattle.std.specs.Borrow.{Bor}
use Rattle.dram_map.specs.Addresses.{is_in_dram}
use Rattle.text_in.specs.Lines.{lines_of}
use Rattle.text_in.specs.Words.{words_of}
use Rattle.llc.specs.Reading.{first_number, trace_behind}
use Rattle.llc.specs.declared.fault.TraceFault.{TraceFault}
use Rattle.llc.specs.declared.line.Head.{Head}
use Rattle.llc.specs.declared.trace.Trace.{Trace}

-- the first word is no number of 8 bits, or it is this one and these words stand behind it
abbrev pub IsNextNumber : List (List ℕ) → Option (ℕ × Bor (List ℕ)) → Type 0
IsNextNumber words None = first_number words ≡ None
IsNextNumber words (Some found) = first_number words ≡ Some (found.0, words_of found.1.now)

-- what is read is the trace with this head and the lines from this number on, or this fault
abbrev pub FindsHead : Result Trace TraceFault → Result (Head × ℕ × Bor (List ℕ)) TraceFault → Type 0
FindsHead read (Ok found) = read ≡ trace_behind found.0 found.1 (lines_of found.2.now)
FindsHead read (Err fault) = read ≡ Err fault

-- the ways are 1 to 16, and each address is in DRAM, so the hits of the trace can be asked for
pub record CanRun (trace : Trace) : Type 0 where
  pub from : 1 ≤ trace.ways
  pub to : trace.ways ≤ 16
  pub dram : All (λ a. is_in_dram trace.config a ≡ true) trace.addresses
