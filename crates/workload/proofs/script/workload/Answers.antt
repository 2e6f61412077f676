use Rattle.std.proofs.Common.{◌≡◌, ℕ, ◌+◌, List, length, sym, ap, subst, ◌∙◌}
use Rattle.std.specs.List.{AllByRecursion}
use Rattle.mon_types.specs.declared.script.Line.{Line}
use Rattle.workload.specs.Workload.{lines_of_core, lines_of_cores}
use Rattle.workload.specs.Generated.{IsGenerated}
use Rattle.workload.proofs.Listing.{one_core_more}
use Rattle.workload.proofs.About.{all_have_lines, all_are_generated}
use Rattle.workload.proofs.script.workload.Goals as goal

pub loop-core-preserved : goal.loop-core-preserved
loop-core-preserved c = record {
  made = one_core_more (λ core. lines_of_core c.args.n core) _ _ _ _ c.loop-core.invariant.made c.in_ok-lines.ensures c.push_reserved.ensures.items;
  room = c.push_reserved.ensures.capacity ∙ c.loop-core.invariant.room;
  count = c.push_reserved.ensures.len ∙ ap (λ (n : ℕ). n + 1) c.loop-core.invariant.count;
}

pub returns-clause-lines : goal.returns-clause-lines
returns-clause-lines c =
    let made : c.from_vec.result ≡ lines_of_cores c.args.n c.loop-core.core = c.from_vec.ensures ∙ c.loop-core.invariant.made in
    subst (λ (s : List (List Line)). AllByRecursion (λ lines. length lines ≡ 1000) s) (sym made) (all_have_lines c.args.n c.loop-core.core)

pub returns-clause-within : goal.returns-clause-within
returns-clause-within c =
    let made : c.from_vec.result ≡ lines_of_cores c.args.n c.loop-core.core = c.from_vec.ensures ∙ c.loop-core.invariant.made in
    subst (λ (s : List (List Line)). AllByRecursion (AllByRecursion IsGenerated) s) (sym made) (all_are_generated c.args.n c.loop-core.core)
