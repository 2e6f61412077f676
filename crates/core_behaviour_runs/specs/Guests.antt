-- Guest code that calls the monitor, clears its translations, or traps. This project's own.
use Rattle.std.specs.Prelude.{ℕ, List, [], ◌∷◌, ◌++◌}
use Rattle.mon_types.specs.Locks.{lock_word}
use Rattle.mon_types.specs.declared.call.Call.TheVariants as calls
use Rattle.mon_types.specs.declared.reply.Reply.TheVariants as replies
use Rattle.mon_types.specs.declared.script.Line.TheVariants as lines
use Rattle.hist.specs.declared.event.Why.TheVariants as whys
use Rattle.protocol.specs.declared.action.Action.TheVariants as actions
use Rattle.protocol.specs.declared.action.Move.{Move}
use Rattle.protocol.specs.declared.action.Move.TheVariants as moves
use Rattle.protocol.specs.Places.{Memory, Lock, with_word}
use Rattle.core_behaviour.specs.Core.{Core}
use Rattle.core_behaviour.specs.Turns.{set_register}
use Rattle.core_behaviour.specs.Lines.{lined}
use Rattle.core_behaviour_runs.specs.Machines.{draft, r1}
use Rattle.core_behaviour_runs.specs.Parts.{one, begun, inside}
use Rattle.core_behaviour_runs.specs.Alone.{alone, running_words, exits, loads_there}
use Rattle.core_behaviour_runs.specs.Shown.{with_placed, words_with, ecall, sfence, told_on, shown, four_shown}

-- ---- a lock that another core holds

-- the core asks for a block of region 1, with 8 in x14
abbrev pub asking : Core
asking = set_register (set_register (set_register begun 17 1) 10 1) 14 8

-- call 3 of core 1 holds the lock of region 1
abbrev pub locked : Memory
locked = with_word (words_with ((0, ecall) ∷ [])) (Lock r1) (lock_word 1 3)

-- one turn
abbrev pub lock_met : List Move
lock_met = alone 40 locked (lined one 1 (lines.Run 1) (shown (14 ∷ 10 ∷ 11 ∷ 12 ∷ 13 ∷ [])) asking)

-- the fetch, the Draw, and the registers: the code 4, the number of region 1, the core and the serial
abbrev pub lock_told : List Move
lock_told =
    loads_there
    ++ moves.InCall (actions.Draw (draft 0 (calls.Block 1) (replies.ConcurrentCall r1 1 3) (r1 ∷ [])))
    ∷ moves.Store 14 8
    ∷ four_shown 4 65 1 3 0x8000_0004

-- ---- SFENCE.VMA

-- two turns of the OS, of which the first has this instruction, and the second none
abbrev pub two_turns : ℕ → List Move
two_turns first = told_on (words_with ((0, first) ∷ [])) begun (lines.Run 2 ∷ [])

-- the second one loads its word, and traps
abbrev pub second_turn : List Move
second_turn = moves.Load 0 ∷ moves.Stop 1 (whys.Trap 2 0) ∷ []

-- one turn in the enclave, which would clear its translations
abbrev pub fenced_inside : List Move
fenced_inside =
    alone 100 (with_placed running_words ((0, sfence) ∷ []))
    (lined one 1 (lines.Run 1) (shown (10 ∷ 11 ∷ 12 ∷ 13 ∷ [])) inside)

-- it is no instruction there: an exit with the cause 2 and the word as its value
abbrev pub fence_told : List Move
fence_told = loads_there ++ exits 1 2 ∷ four_shown 0 1 2 0x1200_0073 0x8000_0000

-- ---- traps of the OS

-- a load that is misaligned, and another
abbrev pub trapped_load : List Move
trapped_load = told_on (words_with []) begun (lines.LoadWord 1 ∷ lines.LoadWord 0x8000_0000 ∷ [])

-- two turns and one more, where there is no instruction
abbrev pub trapped_turns : List Move
trapped_turns = told_on (words_with []) begun (lines.Run 2 ∷ lines.Run 1 ∷ [])

-- each line ends with its first turn, at the same pc
abbrev pub both_trapped : List Move
both_trapped =
    loads_there ++ moves.Stop 1 (whys.Trap 2 0) ∷ moves.Load 0 ∷ moves.Stop 2 (whys.Trap 2 0) ∷ []
