use Rattle.std.proofs.Common.{arith}
use Rattle.std.proofs.lemmas.List.{take_rest}
use Rattle.text_in.proofs.Lines.{first_ended, first_alone}
use Rattle.text_in.proofs.text.next_line.Goals as goal

pub returns-in_default-empty-clause-lines : goal.returns-in_default-empty-clause-lines
returns-in_default-empty-clause-lines c = first_alone c.args.text.now c.split.result.0.now c.split.result.1.now c.split.ensures.before c.split.ensures.from (omega (arith, c.in_default-empty.len_below)) c.requires

pub returns-in_default-len1-up-clause-lines : goal.returns-in_default-len1-up-clause-lines
returns-in_default-len1-up-clause-lines c = rw (take_rest, c.drop_return.ensures) (first_ended c.args.text.now c.split.result.0.now c.split.result.1.now c.split.ensures.before c.split.ensures.from (omega (arith, c.in_default-len1-up.len_at_least)))
