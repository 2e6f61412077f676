use Rattle.std.proofs.Common.{◌≡◌, [], sym, ◌∙◌, ap, length, arith}
use Rattle.hist.proofs.Left.{takes_first, left_after, none_left}
use Rattle.hist.proofs.merge.MergeIterator.next.Goals as goal

pub returns-in_err-entry-clause-steps : goal.returns-in_err-entry-clause-steps
returns-in_err-entry-clause-steps c =
    let over : c.args.self.now ≡ [] = sym c.self.view_is ∙ none_left c.self.inside.rests c.in_err-entry.ensures in
    rw c.from_residual.ensures (over, over)

pub invariant_of-self : goal.invariant_of-self
invariant_of-self c = left_after c.self.inside.rests c.in_ok-entry.field-0 c.from_entry.result c.self.invariant c.in_ok-entry.ensures c.from_entry.ensures.same c.from_entry.ensures.begins

pub returns-clause-steps : goal.returns-clause-steps
returns-clause-steps c = sym c.self.view_is ∙ takes_first c.self.inside.rests c.in_ok-entry.field-0 c.from_entry.result c.self.invariant c.in_ok-entry.ensures c.from_entry.ensures.same

pub returns-clause-goes : goal.returns-clause-goes
returns-clause-goes c =
    let step = sym c.self.view_is ∙ takes_first c.self.inside.rests c.in_ok-entry.field-0 c.from_entry.result c.self.invariant c.in_ok-entry.ensures c.from_entry.ensures.same in
    record { on = λ finite. (tt, finite, omega (arith, ap length step)); keeps = tt; rests = λ finite. tt }
