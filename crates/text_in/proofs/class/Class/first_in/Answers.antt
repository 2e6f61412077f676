use Rattle.std.proofs.Common.{sym, ◌∙◌}
use Rattle.text_in.specs.Classes.{is_of}
use Rattle.text_in.proofs.Places.{position_at, position_end}
use Rattle.text_in.proofs.class.Class.first_in.Goals as goal

pub returns-then-has-clause-value : goal.returns-then-has-clause-value
returns-then-has-clause-value c = position_at (is_of c.args.self) c.args.text.now c.loop-i.i c.loop-i-test.true (sym c.has.ensures ∙ c.if-has.true) c.loop-i.invariant

pub returns-clause-value : goal.returns-clause-value
returns-clause-value c = position_end (is_of c.args.self) c.args.text.now c.loop-i.i c.loop-i-test.false c.loop-i.invariant
