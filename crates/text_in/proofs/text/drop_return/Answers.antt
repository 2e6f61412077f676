use Rattle.text_in.proofs.Lines.{return_dropped_at, return_kept_at}
use Rattle.text_in.proofs.text.drop_return.Goals as goal

pub returns-in-len1-up : goal.returns-in-len1-up
returns-in-len1-up c = return_dropped_at c.args.line.now c.in-len1-up.len_at_least c.if-last-eq13.true

pub returns-in_default-2 : goal.returns-in_default-2
returns-in_default-2 c = return_kept_at c.args.line.now c.in-len1-up.len_at_least c.if-last-eq13.false
