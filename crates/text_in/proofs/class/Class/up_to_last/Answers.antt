use Rattle.std.proofs.Common.{sym, ◌∙◌}
use Rattle.text_in.specs.Classes.{is_of}
use Rattle.text_in.proofs.Places.{last_at, no_last}
use Rattle.text_in.proofs.class.Class.up_to_last.Goals as goal

pub returns-then-has : goal.returns-then-has
returns-then-has c = last_at (is_of c.args.self) c.args.text.now c.loop-len.len c.loop-len-test.true c.loop-len.invariant.within (sym c.has.ensures ∙ c.if-has.true) c.loop-len.invariant.none

pub returns : goal.returns
returns c = no_last (is_of c.args.self) c.args.text.now c.loop-len.len c.loop-len-test.false c.loop-len.invariant.none
