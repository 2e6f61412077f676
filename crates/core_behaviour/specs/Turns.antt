-- One turn of a core: the retry of a pending exit, and then an instruction is fetched, decoded and carried out. What a
-- word is and what an instruction asks for is said by rv_decode and rv_exec, after the RISC-V Unprivileged ISA. The
-- number of the `run` line is n. This project's own.
use Rattle.std.specs.Prelude.{ℕ, Bool, true, false, ◌==◌, [], Option, Some, None, Result, Ok, Err}
use Rattle.mon_types.specs.Shape.{Shape}
use Rattle.mon_types.specs.declared.thread.Mode.{Mode}
use Rattle.mon_types.specs.declared.thread.Mode.TheVariants as modes
use Rattle.core_context.specs.declared.origin.Origin.TheVariants as origins
use Rattle.core_context.specs.Registers.{with_register}
use Rattle.core_context.specs.GuestCalls.{asked_call, advanced}
use Rattle.sv39_pte.specs.declared.pte.Access.TheVariants as accesses
use Rattle.rv_ext.specs.declared.op.AmoOp.{AmoOp}
use Rattle.rv_decode.specs.declared.inst.Inst.{Inst}
use Rattle.rv_decode.specs.Decoded.{decoded}
use Rattle.rv_exec.specs.declared.effect.Effect.{Effect}
use Rattle.rv_exec.specs.declared.effect.Effect.TheVariants as effects
use Rattle.rv_exec.specs.Effects.{effect_of}
use Rattle.core_access.specs.Causes.{misaligned, illegal_instruction, is_aligned}
use Rattle.core_access.specs.Words.{place_in, instruction_at, loaded_from, stored_in, combined_in}
use Rattle.protocol.specs.declared.action.Move.TheVariants as moves
use Rattle.protocol.specs.declared.action.Outcome.{Outcome}
use Rattle.protocol.specs.declared.action.Outcome.TheVariants as outcomes
use Rattle.core_behaviour.specs.Course.{Course, Acts}
use Rattle.core_behaviour.specs.Core.{Core, Exit, mode_now, made, with_current}
use Rattle.core_behaviour.specs.Called.{called}
use Rattle.core_behaviour.specs.Exits.{retried}
use Rattle.core_behaviour.specs.Traps.{Turned, came_back, traps}
use Rattle.core_behaviour.specs.Accesses.{loads, accessed}

-- ---- small changes

-- one register set, but x0
abbrev pub set_register : Core → ℕ → ℕ → Core
set_register c x value = with_current c (with_register c.contexts.current x value)

-- another pc
abbrev pub go_to : Core → ℕ → Core
go_to c pc = with_current c (record c.contexts.current { pc = pc })

-- at the next instruction
abbrev pub at_next : Core → Core
at_next c = with_current c (advanced c.contexts.current)

-- ---- words of DRAM

-- a word is stored
abbrev pub stores : ℕ → ℕ → Core → (Core → Course) → Course
stores place value c next = Acts (moves.Store place value) (λ outcome. next (made c (moves.Store place value) outcome))

-- whether a Swap has stored; it has not where it found another word than the one that was loaded
abbrev pub has_stored : Outcome → Bool
has_stored outcomes.Done = true
has_stored _ = false

-- A word that was loaded is swapped for another. Where a word was found that is not the loaded one, nothing is stored,
-- the instruction is not retired and its turn is spent: the core stays as it is, but for the answer.
abbrev pub retired : (Core → Core) → Bool → Core → Core
retired done true c = done c
retired done false c = c

-- the Swap of an instruction, which does this to the core once it is retired
abbrev pub swaps : ℕ → ℕ → ℕ → (Core → Core) → Core → Turned → Course
swaps place loaded value done c next =
    Acts (moves.Swap place loaded value) (λ outcome.
    next (retired done (has_stored outcome) (made c (moves.Swap place loaded value) outcome)) false)

-- ---- loads

-- a load: the bytes of the word go to the register
abbrev pub loads_on : Shape → ℕ → ℕ → ℕ → Bool → ℕ → Turned → Core → Result ℕ ℕ → Course
loads_on shape n va size signed rd next c (Ok page) =
    loads (place_in page va) c (λ d word. next (at_next (set_register d rd (loaded_from word va size signed))) false)
loads_on shape n va size signed rd next c (Err cause) = traps shape n cause va c next

-- a load of so many bytes at an address, misaligned or translated
abbrev pub loads_bytes : Shape → ℕ → Bool → ℕ → ℕ → Bool → ℕ → Core → Turned → Course
loads_bytes shape n true va size signed rd c next =
    accessed shape va accesses.Load c (loads_on shape n va size signed rd next)
loads_bytes shape n false va size signed rd c next = traps shape n (misaligned accesses.Load) va c next

-- ---- stores

-- so many low bytes of a value are stored at an address: eight are one Store; fewer are a Load of the word, and a Swap
-- for the word with these bytes changed
abbrev pub stores_in : Bool → ℕ → ℕ → ℕ → ℕ → Core → Turned → Course
stores_in true place va size value c next = stores place value c (λ d. next (at_next d) false)
stores_in false place va size value c next =
    loads place c (λ d word. swaps place word (stored_in word va size value) at_next d next)

-- a store: the bytes of the value go to the address
abbrev pub stores_on : Shape → ℕ → ℕ → ℕ → ℕ → Turned → Core → Result ℕ ℕ → Course
stores_on shape n va size value next c (Ok page) = stores_in (size == 8) (place_in page va) va size value c next
stores_on shape n va size value next c (Err cause) = traps shape n cause va c next

-- a store of so many bytes at an address, misaligned or translated
abbrev pub stores_bytes : Shape → ℕ → Bool → ℕ → ℕ → ℕ → Core → Turned → Course
stores_bytes shape n true va size value c next =
    accessed shape va accesses.Store c (stores_on shape n va size value next)
stores_bytes shape n false va size value c next = traps shape n (misaligned accesses.Store) va c next

-- ---- atomic instructions

-- An atomic instruction is a Load of the word and a Swap for the word with the new value in its lane, also where
-- nothing changes; the old value goes to the register once it is retired.
abbrev pub combines_on : Shape → ℕ → ℕ → ℕ → AmoOp → ℕ → ℕ → Turned → Core → Result ℕ ℕ → Course
combines_on shape n va size op value rd next c (Ok page) =
    loads (place_in page va) c (λ d word.
    swaps (place_in page va) word (combined_in op word va size value)
    (λ e. at_next (set_register e rd (loaded_from word va size true))) d next)
combines_on shape n va size op value rd next c (Err cause) = traps shape n cause va c next

-- an atomic instruction of so many bytes at an address, misaligned or translated as a store
abbrev pub combines : Shape → ℕ → Bool → ℕ → ℕ → AmoOp → ℕ → ℕ → Core → Turned → Course
combines shape n true va size op value rd c next =
    accessed shape va accesses.Store c (combines_on shape n va size op value rd next)
combines shape n false va size op value rd c next = traps shape n (misaligned accesses.Store) va c next

-- ---- an instruction

-- SFENCE.VMA empties the translation cache and makes no move; in an enclave it is an illegal instruction
abbrev pub fences_in : Mode → Shape → ℕ → ℕ → Core → Turned → Course
fences_in modes.Os shape n word c next = next (at_next (record c { cache = [] })) false
fences_in (modes.Inside e t) shape n word c next = traps shape n illegal_instruction word c next

-- what an instruction, whose word this is, asks for
abbrev pub carried_out : Shape → ℕ → ℕ → Effect → Core → Turned → Course
carried_out shape n word (effects.Next pc rd value) c next = next (set_register (go_to c pc) rd value) false
carried_out shape n word (effects.Load va size signed rd) c next =
    loads_bytes shape n (is_aligned va size) va size signed rd c next
carried_out shape n word (effects.Store va size value) c next =
    stores_bytes shape n (is_aligned va size) va size value c next
carried_out shape n word (effects.Amo va size op value rd) c next =
    combines shape n (is_aligned va size) va size op value rd c next
carried_out shape n word effects.Call c next =
    called shape origins.Guest (asked_call c.contexts.current) c (λ d. next d (came_back c d))
carried_out shape n word effects.Fence c next = next (at_next c) false
carried_out shape n word effects.Flush c next = fences_in (mode_now c) shape n word c next
carried_out shape n word (effects.Trap cause value) c next = traps shape n cause value c next

-- an instruction, or an illegal one, whose value is the word
abbrev pub executed : Shape → ℕ → ℕ → Option Inst → Core → Turned → Course
executed shape n word (Some inst) c next =
    carried_out shape n word (effect_of inst c.contexts.current.pc c.contexts.current.regs) c next
executed shape n word None c next = traps shape n illegal_instruction word c next

-- the word that holds the instruction is loaded, and its half at the pc is decoded
abbrev pub fetched : Shape → ℕ → ℕ → Turned → Core → Result ℕ ℕ → Course
fetched shape n pc next c (Ok page) =
    loads (place_in page pc) c (λ d word.
    executed shape n (instruction_at pc word) (decoded (instruction_at pc word)) d next)
fetched shape n pc next c (Err cause) = traps shape n cause pc c next

-- an instruction at a pc
abbrev pub instruction : Shape → ℕ → Bool → ℕ → Core → Turned → Course
instruction shape n true pc c next = accessed shape pc accesses.Fetch c (fetched shape n pc next)
instruction shape n false pc c next = traps shape n (misaligned accesses.Fetch) pc c next

-- the instruction at the core's pc
abbrev pub instruction_now : Shape → ℕ → Core → Turned → Course
instruction_now shape n c next = instruction shape n (is_aligned c.contexts.current.pc 4) c.contexts.current.pc c next

-- ---- a turn

-- the `run` line ends, or an instruction follows
abbrev pub ends_or_goes : Bool → Shape → ℕ → Core → Turned → Course
ends_or_goes true shape n c next = next c true
ends_or_goes false shape n c next = instruction_now shape n c next

-- after the retry: where the exit is still pending the turn is spent without an instruction; where it has ended the
-- `run` line ends, if a script line had entered the enclave, and else an instruction of the OS follows
abbrev pub after_retry : Shape → ℕ → Core → Option Exit → Core → Turned → Course
after_retry shape n before (Some exit) c next = next c false
after_retry shape n before None c next = ends_or_goes (came_back before c) shape n c next

-- a turn in a `run` line with number n
abbrev pub turned : Shape → ℕ → Core → Turned → Course
turned shape n c next = retried shape c.pending c (λ d. after_retry shape n c d.pending d next)
