use Rattle.std.proofs.Common.{◌≡◌, ◌∙◌, ◌+◌, ◌++◌, [], ◌∷◌, refl, sym, ap, arith}
use Rattle.std.specs.List.{range_with_len}
use Rattle.mon_types.specs.Shape.{Shape}
use Rattle.lab.proofs.Turns.{goes_nowhere, goes_on, goes_same, next_core}
use Rattle.lab.proofs.Resting.{counts_one, one_less, one_more_ended, every_ended}
use Rattle.lab.proofs.bench.Bench.round.Goals as goal

pub loop-core-init : goal.loop-core-init
loop-core-init c = record {
  goes = goes_same (λ image. []) (λ image. range_with_len 0 0) _ _ (λ image script run s. refl) (goes_nowhere c.args.self.now);
  reached = c.requires;
  config = refl;
  left = omega arith;
  over = λ none core lt. absurd (omega (arith, lt));
  few = omega arith;
}

pub loop-core-preserved : goal.loop-core-preserved
loop-core-preserved c =
    let i = c.loop-core.core in
    let e = c.step.ensures in
    let inv = c.loop-core.invariant in
    record {
      goes = goes_same (λ image. range_with_len 0 i ++ i ∷ []) (λ image. range_with_len 0 (i + 1)) _ _ (λ image script run s. next_core i) (goes_on (λ image. range_with_len 0 i) (λ image. i ∷ []) _ _ _ inv.goes e.goes);
      reached = e.reached;
      config = e.config ∙ inv.config;
      left = one_less _ _ _ _ _ c.step.result c.from-made.ensures e.left inv.left;
      over = one_more_ended c.loop-core.self c.step.new.self i c.loop-core.made c.from-made.result c.step.result c.from-made.ensures e.answers e.stays inv.over;
      few = let one = counts_one c.step.result c.from-made.result c.from-made.ensures in omega (arith, inv.few, one);
    }

pub returns-clause-goes : goal.returns-clause-goes
returns-clause-goes c =
    let all : c.loop-core.core ≡ c.cores-core-end.result = omega arith in
    goes_same (λ image. range_with_len 0 c.loop-core.core) (λ image. range_with_len 0 image.config.cores) _ _
    (λ image script run s. ap (range_with_len 0) (all ∙ c.cores-core-end.ensures.cores ∙ ap (λ (g : Shape). g.cores) s.config)) c.loop-core.invariant.goes

pub returns-clause-over : goal.returns-clause-over
returns-clause-over c = λ none.
    let r = c.loop-core.invariant.reached in
    let all : c.loop-core.core ≡ c.cores-core-end.result = omega arith in
    every_ended r.image r.script r.run c.loop-core.self c.loop-core.core r.stands (all ∙ c.cores-core-end.ensures.cores ∙ ap (λ (g : Shape). g.cores) (sym c.loop-core.invariant.config)) (c.loop-core.invariant.over none)
