-- Which word of DRAM an access reads or writes, and what it takes from it and makes of it. Bytes in words follow the
-- RISC-V Unprivileged ISA, "Load and Store Instructions"; that each access is of one word of 64 bits is this project's
-- own. Every access is aligned to its size, so its bytes are a lane of the word.
use Rattle.std.specs.Prelude.{◌≡◌, ℕ, ◌+◌, ◌/◌, ◌%◌, ◌<◌, Bool, Some}
use Rattle.mon_types.specs.Shape.{Shape, page_total}
use Rattle.mon_types.specs.Sizes.{page_bytes}
use Rattle.dram_map.specs.Addresses.{first_word, page_start, word_of}
use Rattle.dram_map.specs.Lanes.{taken, with_lane}
use Rattle.rv_ext.specs.declared.op.AmoOp.{AmoOp}
use Rattle.rv_ext.specs.Amo.{combined}
use Rattle.rv_exec.specs.Loads.{loaded}

-- the place, in DRAM's list of words, of the word that holds the byte at a virtual address, whose page this is
abbrev pub place_in : ℕ → ℕ → ℕ
place_in page va = first_word page + va % page_bytes / 8

-- the physical address that a virtual address on this page has
abbrev pub physical : ℕ → ℕ → ℕ
physical page va = page_start page + va % page_bytes

-- that place is the place of the word at the physical address
abbrev pub PlacesAreAddresses : Type 0
PlacesAreAddresses = (shape : Shape) (page va : ℕ) → page < page_total shape
    → word_of shape (physical page va) ≡ Some (place_in page va)

-- the byte of its word at which an address stands
abbrev pub byte_in : ℕ → ℕ
byte_in va = va % 8

-- the instruction at a pc: the lower 32 bits of the word, or the upper
abbrev pub instruction_at : ℕ → ℕ → ℕ
instruction_at pc word = taken word (byte_in pc) 4

-- what a load of an address writes to its register
abbrev pub loaded_from : ℕ → ℕ → ℕ → Bool → ℕ
loaded_from word va size signed = loaded size signed (taken word (byte_in va) size)

-- the word after a store of so many low bytes of a value
abbrev pub stored_in : ℕ → ℕ → ℕ → ℕ → ℕ
stored_in word va size value = with_lane word (byte_in va) size value

-- the word after an atomic instruction with this operand: the lane holds the new value of the old one and the operand
abbrev pub combined_in : AmoOp → ℕ → ℕ → ℕ → ℕ → ℕ
combined_in op word va size operand = stored_in word va size (combined op size (taken word (byte_in va) size) operand)
