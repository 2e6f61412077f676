use Rattle.std.proofs.Common.{◌≡◌, ◌+◌, drop}
use Rattle.core_context.specs.GuestCalls.{with_words}
use Rattle.core_context.proofs.guest.put_words.Given as goal

abbrev pub invariant-loop-i : goal.invariant-loop-i
invariant-loop-i l = with_words l.regs (11 + l.i) (drop l.i l.words) ≡ with_words l.fn.regs 11 l.words
