use Rattle.std.proofs.Common.{◌≡◌, ◌∙◌, ◌+◌, ◌<◌, ◌++◌, [], length, take, get_or, replicate, refl, sym, ap, subst, arith}
use Rattle.std.proofs.lemmas.List.{take_all}
use Rattle.mon_types.specs.Shape.{Shape}
use Rattle.mon_types.specs.declared.script.StepItem.{StepItem}
use Rattle.lab.specs.Rounds.{cores_by}
use Rattle.lab.proofs.Turns.{goes_nowhere, goes_on, goes_same, by_none, by_more, same_item, named}
use Rattle.lab.proofs.bench.Bench.follow.Goals as goal

-- what would stand behind the schedule
abbrev nothing : StepItem
nothing = record { core = 0; count = 0 }

pub loop-item-init : goal.loop-item-init
loop-item-init c = record {
  goes = goes_same (λ image. []) (λ image. cores_by (take 0 c.args.schedule.now)) _ _ (λ image script run s. by_none c.args.schedule.now) (goes_nowhere c.args.self.now);
  reached = c.requires.reached;
  config = refl;
}

pub take_steps-requires-clause-core : goal.take_steps-requires-clause-core
take_steps-requires-clause-core c =
    let xs = c.args.schedule.now in
    let i = c.loop-item.item-index in
    let item = get_or xs i nothing in
    subst (λ (g : Shape). item.core < g.cores) (sym c.loop-item.invariant.config) (named c.args.self.now.config.cores xs i item nothing c.loop-item-test.true refl c.requires.cores)

pub loop-item-preserved : goal.loop-item-preserved
loop-item-preserved c =
    let xs = c.args.schedule.now in
    let i = c.loop-item.item-index in
    let item = get_or xs i nothing in
    record {
      goes = goes_same (λ image. cores_by (take i xs) ++ replicate item.count item.core) (λ image. cores_by (take (i + 1) xs)) _ _
          (λ image script run s. by_more xs i item c.loop-item-test.true (same_item xs i nothing item c.loop-item-test.true))
          (goes_on (λ image. cores_by (take i xs)) (λ image. replicate item.count item.core) _ _ _ c.loop-item.invariant.goes c.take_steps.ensures.goes);
      reached = c.take_steps.ensures.reached;
      config = c.take_steps.ensures.config ∙ c.loop-item.invariant.config;
    }

pub returns-clause-goes : goal.returns-clause-goes
returns-clause-goes c =
    let xs = c.args.schedule.now in
    let all : take c.loop-item.item-index xs ≡ xs = take_all c.loop-item.item-index xs c.loop-item-test.false in
    goes_same (λ image. cores_by (take c.loop-item.item-index xs)) (λ image. cores_by xs) _ _ (λ image script run s. ap cores_by all) c.loop-item.invariant.goes
