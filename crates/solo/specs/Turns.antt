-- One turn of the one core: an instruction is fetched, decoded and carried out. What a word is and what an instruction
-- asks for is said by rv_decode and rv_exec, after the RISC-V Unprivileged ISA; how its access is translated by
-- `accessed`. The rest is this project's own.
use Rattle.std.specs.Prelude.{ℕ, Bool, true, false, ◌==◌, if◌then◌else◌, Option, Some, None, Result, Ok, Err}
use Rattle.mon_types.specs.declared.thread.Mode.{Mode}
use Rattle.mon_types.specs.declared.thread.Mode.TheVariants as modes
use Rattle.hist.specs.declared.event.Event.TheVariants as events
use Rattle.hist.specs.declared.event.Why.TheVariants as whys
use Rattle.dram_map.specs.Words.{word_at, word_put}
use Rattle.sv39_pte.specs.declared.pte.Access.TheVariants as accesses
use Rattle.rv_ext.specs.declared.op.AmoOp.{AmoOp}
use Rattle.rv_decode.specs.declared.inst.Inst.{Inst}
use Rattle.rv_decode.specs.Decoded.{decoded}
use Rattle.rv_exec.specs.declared.effect.Effect.{Effect}
use Rattle.rv_exec.specs.declared.effect.Effect.TheVariants as effects
use Rattle.rv_exec.specs.Effects.{effect_of}
use Rattle.core_access.specs.Causes.{misaligned, illegal_instruction, is_aligned}
use Rattle.core_access.specs.Words.{place_in, instruction_at, loaded_from, stored_in, combined_in}
use Rattle.solo.specs.Core.{Core, mode_now, logged, given, set_register, go_to, at_next, without_translations, came_back}
use Rattle.solo.specs.Calls.{guest_called, exited}
use Rattle.solo.specs.Translation.{accessed}

-- the core after a turn, and whether its `run` line ends there
pub record Turned : Type 0 where
  pub core : Core
  pub ends : Bool

-- the `run` line goes on
abbrev pub goes : Core → Turned
goes c = record { core = c; ends = false }

-- it ends where the core came back from an enclave that a script line entered
abbrev pub goes_unless_back : Core → Core → Turned
goes_unless_back before after = record { core = after; ends = came_back before after }

-- ---- traps

-- A trap leaves pc and registers as they were. In OS mode it is logged, at line n, and ends the line; in an enclave it
-- is an exit.
abbrev pub trapped_in : Mode → ℕ → Core → ℕ → ℕ → Turned
trapped_in modes.Os n c cause value = record { core = logged c (events.Stop n (whys.Trap cause value)); ends = true }
trapped_in (modes.Inside e t) n c cause value = goes_unless_back c (exited c cause value)

-- a trap in the mode that stands now
abbrev pub trapped : ℕ → Core → ℕ → ℕ → Turned
trapped n c cause value = trapped_in (mode_now c) n c cause value

-- ---- words of DRAM

-- a word is stored
abbrev pub put : Core → ℕ → ℕ → Core
put c place value = record c { words = word_put c.words (Some place) value }

-- the low bytes of a value are stored at an address: eight are one store; fewer are a load of the word, which is then
-- stored with these bytes changed
abbrev pub put_bytes : Core → ℕ → ℕ → ℕ → ℕ → Core
put_bytes c place va size value =
    if size == 8
    then put c place value
    else put (given c (word_at c.words place)) place (stored_in (word_at c.words place) va size value)

-- ---- loads

-- a load: the word is given, and its bytes go to the register
abbrev pub loads_on : ℕ → ℕ → ℕ → Bool → ℕ → Core → Result ℕ ℕ → Turned
loads_on n va size signed rd c (Ok page) =
    let word = word_at c.words (place_in page va) in
    goes (at_next (set_register (given c word) rd (loaded_from word va size signed)))
loads_on n va size signed rd c (Err cause) = trapped n c cause va

-- a load of so many bytes at an address, misaligned or translated
abbrev pub loads : ℕ → Core → ℕ → ℕ → Bool → ℕ → Turned
loads n c va size signed rd =
    if is_aligned va size
    then loads_on n va size signed rd (accessed c va accesses.Load).core (accessed c va accesses.Load).page
    else trapped n c (misaligned accesses.Load) va

-- ---- stores

-- a store: the bytes of the value go to the address
abbrev pub stores_on : ℕ → ℕ → ℕ → ℕ → Core → Result ℕ ℕ → Turned
stores_on n va size value c (Ok page) = goes (at_next (put_bytes c (place_in page va) va size value))
stores_on n va size value c (Err cause) = trapped n c cause va

-- a store of so many bytes at an address, misaligned or translated
abbrev pub stores : ℕ → Core → ℕ → ℕ → ℕ → Turned
stores n c va size value =
    if is_aligned va size
    then stores_on n va size value (accessed c va accesses.Store).core (accessed c va accesses.Store).page
    else trapped n c (misaligned accesses.Store) va

-- ---- atomic instructions

-- An atomic instruction translates its address as a store. Then it is a load of the word, which is stored with the new
-- value in its lane, also where nothing changes; the old value goes to the register.
abbrev pub combines_on : ℕ → ℕ → ℕ → AmoOp → ℕ → ℕ → Core → Result ℕ ℕ → Turned
combines_on n va size op value rd c (Ok page) =
    let place = place_in page va in
    let word = word_at c.words place in
    let d = put (given c word) place (combined_in op word va size value) in
    goes (at_next (set_register d rd (loaded_from word va size true)))
combines_on n va size op value rd c (Err cause) = trapped n c cause va

-- an atomic instruction of so many bytes at an address, misaligned or translated
abbrev pub combines : ℕ → Core → ℕ → ℕ → AmoOp → ℕ → ℕ → Turned
combines n c va size op value rd =
    if is_aligned va size
    then combines_on n va size op value rd (accessed c va accesses.Store).core (accessed c va accesses.Store).page
    else trapped n c (misaligned accesses.Store) va

-- ---- an instruction

-- SFENCE.VMA empties the translation cache and makes no event; in an enclave it is an illegal instruction
abbrev pub fences_in : Mode → ℕ → Core → ℕ → Turned
fences_in modes.Os n c word = goes (at_next (record c { guest = without_translations c.guest }))
fences_in (modes.Inside e t) n c word = trapped n c illegal_instruction word

-- what an instruction, whose word this is, asks for
abbrev pub carried_out : ℕ → Core → ℕ → Effect → Turned
carried_out n c word (effects.Next pc rd value) = goes (set_register (go_to c pc) rd value)
carried_out n c word (effects.Load va size signed rd) = loads n c va size signed rd
carried_out n c word (effects.Store va size value) = stores n c va size value
carried_out n c word (effects.Amo va size op value rd) = combines n c va size op value rd
carried_out n c word effects.Call = goes_unless_back c (guest_called c)
carried_out n c word effects.Fence = goes (at_next c)
carried_out n c word effects.Flush = fences_in (mode_now c) n c word
carried_out n c word (effects.Trap cause value) = trapped n c cause value

-- an instruction, or an illegal one, whose value is the word
abbrev pub executed : ℕ → Core → ℕ → Option Inst → Turned
executed n c word (Some inst) = carried_out n c word (effect_of inst c.contexts.current.pc c.contexts.current.regs)
executed n c word None = trapped n c illegal_instruction word

-- ---- a turn

-- the word that holds the instruction is loaded, and its half at the pc is decoded
abbrev pub fetched : ℕ → ℕ → Core → Result ℕ ℕ → Turned
fetched n pc c (Ok page) =
    let word = word_at c.words (place_in page pc) in
    executed n (given c word) (instruction_at pc word) (decoded (instruction_at pc word))
fetched n pc c (Err cause) = trapped n c cause pc

-- a turn at a pc
abbrev pub turned_at : ℕ → Core → ℕ → Turned
turned_at n c pc =
    if is_aligned pc 4
    then fetched n pc (accessed c pc accesses.Fetch).core (accessed c pc accesses.Fetch).page
    else trapped n c (misaligned accesses.Fetch) pc

-- a turn in a `run` line with number n
abbrev pub turned : ℕ → Core → Turned
turned n c = turned_at n c c.contexts.current.pc
