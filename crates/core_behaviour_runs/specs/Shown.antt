-- A core that is alone, with words of its own in DRAM, and registers that are shown at the end. This project's own.
use Rattle.std.specs.Prelude.{ℕ, ◌+◌, ◌*◌, ◌^◌, List, [], ◌∷◌, slice_index}
use Rattle.mon_types.specs.declared.script.Line.{Line}
use Rattle.mon_model.specs.State.{start}
use Rattle.protocol.specs.declared.action.Move.{Move}
use Rattle.protocol.specs.declared.action.Move.TheVariants as moves
use Rattle.protocol.specs.Places.{Memory, Dram, memory_of, with_word}
use Rattle.core_behaviour.specs.Course.{Course, Ends}
use Rattle.core_behaviour.specs.Core.{Core}
use Rattle.core_behaviour.specs.Turns.{stores}
use Rattle.core_behaviour.specs.Lines.{lines_from}
use Rattle.core_behaviour_runs.specs.Parts.{one}
use Rattle.core_behaviour_runs.specs.Alone.{alone}

-- ---- words of DRAM

-- a word and its place
abbrev pub Placed : Type 0
Placed = ℕ × ℕ

-- with these words in DRAM
abbrev pub with_placed : Memory → List Placed → Memory
with_placed memory [] = memory
with_placed memory (p ∷ ps) = with_placed (with_word memory (Dram p.0) p.1) ps

-- the words at the start, with these in DRAM
abbrev pub words_with : List Placed → Memory
words_with placed = with_placed (memory_of 0 (start one) []) placed

-- the word that holds two instructions, one behind the other
abbrev pub two : ℕ → ℕ → ℕ
two first second = first + second * 2 ^ 32

-- ---- instructions; the one behind each is 0, which is none

-- addi x5, x5, 1
abbrev pub count : ℕ
count = 0x0012_8293

-- ecall
abbrev pub ecall : ℕ
ecall = 0x0000_0073

-- sfence.vma
abbrev pub sfence : ℕ
sfence = 0x1200_0073

-- ---- what is told

-- what is told of these lines on these words, from line 1 on
abbrev pub told_on : Memory → Core → List Line → List Move
told_on memory c script = alone 400 memory (lines_from one 1 script c)

-- these registers are shown: each by a Store of its value at its number, and at last the pc at 32
abbrev pub shown : List ℕ → Core → Course
shown [] c = stores 32 c.contexts.current.pc c (λ d. Ends)
shown (x ∷ xs) c = stores x (slice_index c.contexts.current.regs x) c (λ d. shown xs d)

-- x10 to x13 with these values, and then the pc
abbrev pub four_shown : ℕ → ℕ → ℕ → ℕ → ℕ → List Move
four_shown x10 x11 x12 x13 pc =
    moves.Store 10 x10 ∷ moves.Store 11 x11 ∷ moves.Store 12 x12 ∷ moves.Store 13 x13 ∷ moves.Store 32 pc ∷ []
