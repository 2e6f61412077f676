-- As many words as there are, if fewer are asked for.
use Rattle.std.proofs.Common.{ℕ, length, min, ap, ◌∙◌, rules}
use Rattle.core_context.specs.GuestCalls.{with_words}
use Rattle.core_context.proofs.Replies.{take_least}
use Rattle.core_context.proofs.guest.put_first_words.Goals as goal

pub returns : goal.returns
returns c = c.put_words.ensures ∙ ap (with_words c.args.regs.now 11) (take_least c.args.count c.min-count.result c.args.words.now (c.min-count.ensures ∙ ap (λ (n : ℕ). min n 8) c.from.ensures ∙ ap (min c.args.count) {x = 8} {y = length c.args.words.now} (search rules)))
