-- Parts of scripts, from cores at some moment on: budgets, and exits that are pending. This project's own.
use Rattle.std.specs.Prelude.{ℕ, ◌+◌, true, List, [], ◌∷◌, ◌++◌, replicate, Option, Some}
use Rattle.mon_types.specs.Replies.{done}
use Rattle.mon_types.specs.Shape.{Shape}
use Rattle.mon_types.specs.declared.call.Call.TheVariants as calls
use Rattle.mon_types.specs.declared.reply.Reply.TheVariants as replies
use Rattle.mon_types.specs.declared.script.Line.{Line}
use Rattle.mon_types.specs.declared.script.Line.TheVariants as lines
use Rattle.hist.specs.declared.event.Event.TheVariants as events
use Rattle.core_context.specs.Registers.{saved_context}
use Rattle.protocol.specs.declared.action.Action.{Action}
use Rattle.protocol.specs.declared.action.Action.TheVariants as actions
use Rattle.protocol.specs.declared.action.Move.{Move}
use Rattle.protocol.specs.declared.action.Outcome.TheVariants as outcomes
use Rattle.protocol.specs.Views.{Moves, entry_of}
use Rattle.core_behaviour.specs.Course.{Course, first_of, left_of}
use Rattle.core_behaviour.specs.declared.exit.Exit.{Exit}
use Rattle.core_behaviour.specs.Core.{Core, core_start}
use Rattle.core_behaviour.specs.Lines.{lines_from}
use Rattle.core_behaviour_runs.specs.Machines.{small, in_call_with, draft, t0}

-- the machine
abbrev pub one : Shape
one = (small 1 []).config

-- its core at the start
abbrev pub begun : Core
begun = core_start (small 1 []) 0

-- the core after so many touches
abbrev pub with_events : ℕ → Core
with_events count = record begun { log = replicate count (events.Touch 0 0) }

-- the core after these answers
abbrev pub with_answers : List ℕ → Core
with_answers answers = record begun { answers = answers }

-- what comes first, where a core is to block region 1 by line 5
abbrev pub first_of_block : Core → Option Move
first_of_block c = first_of (lines_from one 5 (lines.Make (calls.Block 1) ∷ []) c)

-- inside enclave 0, by thread 0, entered by a line
abbrev pub inside : Core
inside = record begun {
  by_line = true;
  log = events.Entry (entry_of 0 (draft 0 (calls.Enter 0 0) done []) 1) ∷ [];
}

-- an exit for a cause of 13
abbrev pub an_exit : Exit
an_exit = record { cause = 13; value = 64 }

-- the same with that exit pending
abbrev pub leaving : Core
leaving = record inside { pending = Some an_exit }

-- what is left of these lines from line 1 on, after these moves, the newest first
abbrev pub left_after : Core → List Line → Moves → Course
left_after c script ms = left_of (lines_from one 1 script c) ms

-- what comes first then
abbrev pub next_after : Core → List Line → Moves → Option Move
next_after c script ms = first_of (left_after c script ms)

-- an aex finds its thread's lock held by call 3 of core 1
abbrev pub aex_finds : Moves
aex_finds = in_call_with (actions.TryLock t0) (outcomes.HeldBy 1 3) ∷ []

-- the Draw of such an aex with this serial, which saves the pc and the registers of the start and the cause 13
abbrev pub aex_refused : ℕ → Action
aex_refused serial =
    actions.Draw
    (draft serial (calls.Aex (saved_context begun.contexts.current 13)) (replies.ConcurrentCall t0 1 3) (t0 ∷ []))

-- it finds the lock, and draws its ticket, which is one above its serial
abbrev pub aex_meets : ℕ → Moves
aex_meets serial = in_call_with (aex_refused serial) (outcomes.Ticket (serial + 1)) ∷ aex_finds

-- two of them, and three
abbrev pub aex_meets_twice : Moves
aex_meets_twice = aex_meets 2 ++ aex_meets 1

-- the third behind them
abbrev pub aex_meets_thrice : Moves
aex_meets_thrice = aex_meets 3 ++ aex_meets_twice
