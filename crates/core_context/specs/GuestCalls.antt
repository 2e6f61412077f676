-- The registers of a monitor call that a guest makes by ECALL. This project's own; the registers are those of RV64I,
-- chapter 2 of the RISC-V Unprivileged ISA.
use Rattle.std.specs.Prelude.{ℕ, ◌+◌, ◌%◌, ◌^◌, List, [], ◌∷◌, take, slice_index, slice_set}
use Rattle.mon_types.specs.Calls.{call_of}
use Rattle.mon_types.specs.Objects.{object_number}
use Rattle.mon_types.specs.declared.call.Call.{Call}
use Rattle.mon_types.specs.declared.reply.Reply.{Reply}
use Rattle.mon_types.specs.declared.reply.Reply.TheVariants as replies
use Rattle.core_context.specs.declared.after.After.{After}
use Rattle.core_context.specs.declared.after.After.TheVariants as afters
use Rattle.core_context.specs.declared.context.Context.{Context}
use Rattle.core_context.specs.declared.contexts.Contexts.{Contexts}

-- the call that a guest asks for: its number is x17, its arguments are x10 to x15
abbrev pub asked_call : Context → Call
asked_call context =
    let x = slice_index context.regs in
    call_of (x 17) (x 10) (x 11) (x 12) (x 13) (x 14) (x 15)

-- at the instruction after this one: 4 bytes on, mod 2 ^ 64
abbrev pub advanced : Context → Context
advanced context = record context { pc = (context.pc + 4) % 2 ^ 64 }

-- a reply as the words that x10 and the registers above it get: its code, then the words of Ok; of ConcurrentCall the
-- number of the object, the core that held its lock, and the serial of that core's call
abbrev pub reply_words : Reply → List ℕ
reply_words (replies.Ok count words) = 0 ∷ take count words
reply_words replies.InvalidValue = 1 ∷ []
reply_words replies.InvalidState = 2 ∷ []
reply_words replies.AccessDenied = 3 ∷ []
reply_words (replies.ConcurrentCall lock holder serial) = 4 ∷ object_number lock ∷ holder ∷ serial ∷ []
reply_words replies.NotFlushed = 5 ∷ []
reply_words replies.Unsupported = 6 ∷ []

-- registers of which x and those above it got these words, in order; the others stay
abbrev pub with_words : List ℕ → ℕ → List ℕ → List ℕ
with_words regs x [] = regs
with_words regs x (word ∷ words) = with_words (slice_set regs x word) (x + 1) words

-- the reply stands in the registers, and the pc is past the ECALL
abbrev pub replied : Context → Reply → Context
replied context reply = advanced (record context { regs = with_words context.regs 10 (reply_words reply) })

-- The contexts after a guest's call, where `contexts_after` gave these for what the call did to its core. Where the
-- core stays in its context, it gets the reply. Ok of enter, exit and restore gives it another context, and no reply:
-- the OS that has entered an enclave goes on past its ECALL, once it is given back; whom exit or restore gave back goes
-- on at the pc that was kept or saved.
abbrev pub answered : Contexts → After → Reply → Contexts
answered c afters.Nothing reply = record c { current = replied c.current reply }
answered c afters.Cleared reply = record c { current = replied c.current reply }
answered c (afters.Entered entry sp base size root saved) reply = record c { os = advanced c.os }
answered c afters.Left reply = c
answered c (afters.Restored saved) reply = c
