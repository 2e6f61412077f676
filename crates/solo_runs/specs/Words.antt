-- Ends of runs of loads, stores and atomic instructions in DRAM. This project's own.
use Rattle.std.specs.Prelude.{ℕ, [], ◌∷◌}
use Rattle.mon_types.specs.declared.script.Line.TheVariants as lines
use Rattle.solo.specs.Core.{Core}
use Rattle.solo_runs.specs.Machines.{at, two, back, store, add_word, os_core, with_x6_x7, ready_state, after_lines}

-- one turn of this instruction, with this word at 0x8000_1000, where x6 leads, and this in x7
abbrev pub one_turn : ℕ → ℕ → ℕ → Core
one_turn instruction word x7 =
    after_lines (with_x6_x7 (os_core (at 0 (two instruction back) ∷ at 512 word ∷ [])) 0x8000_1000 x7)
    (lines.Run 1 ∷ [])

-- lb x5, 7(x6)
abbrev pub load_byte : ℕ
load_byte = 0x00730283

-- sb x7, 2(x6)
abbrev pub store_byte : ℕ
store_byte = 0x00730123

-- amoswap.d x7, x7, (x6)
abbrev pub swap : ℕ
swap = 0x087333AF

-- ld x0, 0(x6)
abbrev pub load_to_zero : ℕ
load_to_zero = 0x00033003

-- a byte is loaded
abbrev pub byte_loaded : Core
byte_loaded = one_turn load_byte 0x8877_6655_4433_2211 0

-- a byte is stored, and eight
abbrev pub byte_stored : Core
byte_stored = one_turn store_byte 0x8877_6655_4433_2211 0xAA07

abbrev pub word_stored : Core
word_stored = one_turn store 0x8877_6655_4433_2211 0xAA07

-- 2 is added to the lower half of a word
abbrev pub added : Core
added = one_turn add_word 0x0000_0001_FFFF_FFFF 2

-- nothing is added
abbrev pub nothing_added : Core
nothing_added = one_turn add_word 0x0000_0001_FFFF_FFFF 0

-- a register is exchanged with a word
abbrev pub swapped : Core
swapped = one_turn swap 0x8877_6655_4433_2211 9

-- a store that faults, in an enclave's page
abbrev pub store_faulted : Core
store_faulted =
    after_lines
    (with_x6_x7 (record (os_core (at 0 (two store back) ∷ [])) { state = ready_state }) 0x8000_2000 7)
    (lines.Run 1 ∷ [])

-- fence
abbrev pub fence : ℕ
fence = 0x0FF0000F

-- a fence
abbrev pub fenced : Core
fenced = one_turn fence 5 7
