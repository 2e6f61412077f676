use Rattle.std.proofs.Common.{sym, ◌∙◌}
use Rattle.text_in.proofs.Words.{first_there, first_shorter, none_there}
use Rattle.text_in.proofs.text.next_word.Goals as goal

pub returns-then-is_empty : goal.returns-then-is_empty
returns-then-is_empty c = none_there c.args.text.now c.from-rest.result.now c.from-rest.ensures (sym c.is_empty.ensures ∙ c.if-is_empty.true)

pub returns-else-is_empty : goal.returns-else-is_empty
returns-else-is_empty c =
    let empty = sym c.is_empty.ensures ∙ c.if-is_empty.false in (
      first_there c.args.text.now c.from-rest.result.now c.split.result.0.now c.split.result.1.now c.from-rest.ensures empty c.split.ensures.before c.split.ensures.from,
      first_shorter c.args.text.now c.from-rest.result.now c.split.result.0.now c.split.result.1.now c.from-rest.ensures empty c.split.ensures.before c.split.ensures.from,
    )
