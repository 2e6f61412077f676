use Rattle.std.proofs.Common.{◌∙◌, ap, sym, subst, arith}
use Rattle.call_machine.specs.Kept.{Called}
use Rattle.call_machine.specs.Count.{most_moves}
use Rattle.call_machine.specs.Meaning.{tree_of, so_far, found, IsFoundBy, after, IsOutcome}
use Rattle.call_machine.proofs.Ends.{some_left, finds_by}
use Rattle.call_machine.proofs.machine.CallMachine.took.Goals as goal

pub invariant_of-self : goal.invariant_of-self
invariant_of-self c =
    let w = c.self.inside.work in
    let m = c.self.inside.made in
    let t = c.take.ensures.at in
    let out = subst (λ (x : Called). IsOutcome (tree_of x.work) c.args.outcome.now) (sym c.self.view_is) c.requires in
    record {
      based = t.based;
      stands = t.stands;
      count = omega (arith, t.count, c.self.invariant.count, some_left w w.phase c.args.outcome.now c.self.invariant.stands out, ap (λ x. most_moves x c.take.new.self.call) t.config, ap (most_moves w.config) t.call);
    }

pub returns-clause-tree : goal.returns-clause-tree
returns-clause-tree c = c.take.ensures.at.meaning ∙ ap (λ (x : Called). after (tree_of x.work) c.args.outcome.now) c.self.view_is

pub returns-clause-found : goal.returns-clause-found
returns-clause-found c =
    let w = c.self.inside.work in
    λ e. subst (λ (x : Called). IsFoundBy (tree_of x.work) c.args.outcome.now (so_far x.work) (found x.work) (so_far c.take.new.self)) c.self.view_is
    (finds_by w w.phase c.args.outcome.now (so_far c.take.new.self) c.self.invariant.stands (ap (λ (x : Called). x.work.ends) c.self.view_is ∙ e)
    (c.take.ensures.found (ap (λ (x : Called). x.work.ends) c.self.view_is ∙ e)))
