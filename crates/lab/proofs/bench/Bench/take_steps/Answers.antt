use Rattle.std.proofs.Common.{◌≡◌, ◌∙◌, ◌<◌, ◌≤◌, ℕ, List, [], ◌∷◌, ◌++◌, ◌+◌, replicate, not, true, false, refl, subst, sym, ap, arith}
use Rattle.lab.proofs.Resting.{rests_by}
use Rattle.lab.proofs.Turns.{goes_nowhere, goes_on, goes_same, once_more, pass_over}
use Rattle.lab.proofs.bench.Bench.take_steps.Goals as goal

pub loop-made-init : goal.loop-made-init
loop-made-init c = record { goes = goes_nowhere c.args.self.now; reached = c.requires.reached; config = refl }

pub loop-made-preserved : goal.loop-made-preserved
loop-made-preserved c = record {
  goes = goes_same (λ image. replicate c.loop-made._made c.args.core ++ c.args.core ∷ []) (λ image. replicate (c.loop-made._made + 1) c.args.core) _ _ (λ image script run s. once_more c.loop-made._made c.args.core)
      (goes_on (λ image. replicate c.loop-made._made c.args.core) (λ image. c.args.core ∷ []) _ _ _ c.loop-made.invariant.goes c.step.ensures.goes);
  reached = c.step.ensures.reached;
  config = c.step.ensures.config ∙ c.loop-made.invariant.config;
}

pub returns-then-not-step-clause-goes : goal.returns-then-not-step-clause-goes
returns-then-not-step-clause-goes c =
    let mid = c.loop-made.self in
    let low : c.args.core < mid.config.cores = subst (λ g. c.args.core < g.cores) (sym c.loop-made.invariant.config) c.requires.core in
    pass_over c.args.core c.loop-made._made c.args.count c.args.self.now mid c.step.new.self (omega arith) c.loop-made.invariant.goes c.step.ensures.goes
    (λ image script run s. rests_by image script run mid c.args.core c.step.result s low c.step.ensures.answers c.if-not-step.true)

pub returns-clause-goes : goal.returns-clause-goes
returns-clause-goes c =
    let all : c.loop-made._made ≡ c.args.count = omega arith in
    goes_same (λ image. replicate c.loop-made._made c.args.core) (λ image. replicate c.args.count c.args.core) _ _ (λ image script run s. ap (λ n. replicate n c.args.core) all) c.loop-made.invariant.goes
