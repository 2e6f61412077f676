use Rattle.std.proofs.Common.{◌≡◌, ℕ, ◌<◌, [], ◌∷◌, ◌++◌, length, get_or, set, Some, refl, ap, ◌∙◌, arith}
use Rattle.std.specs.Vec.{with_items}
use Rattle.std.proofs.lemmas.List.{with_items_is}
use Rattle.mon_types.specs.declared.script.Line.TheVariants as lines
use Rattle.script_read.specs.declared.said.Said.TheVariants as says
use Rattle.script_read.specs.Drafts.{turns_with}
use Rattle.script_read.proofs.Drafting.{pushed, run_within, keeps_run}
use Rattle.script_read.proofs.draft.Draft.run.Goals as goal

pub returns : goal.returns
returns c = λ count before k.
    let old = c.args.self.now in
    let below : old.core < 256 = omega arith in
    let size : length old.turns ≡ 256 = omega arith in
    let sum : Some c.in-Some.all ≡ turns_with (get_or old.turns old.core 0) c.args.turns = c.in-Some.ensures.sum ∙ ap (λ (n : ℕ). turns_with (get_or old.turns n 0) c.args.turns) c.from-core.ensures in
    let within = run_within count c.args.line c.args.turns c.in-Some.all before old k below sum in
    let counts : set old.turns c.from-core.result c.in-Some.all ≡ set old.turns old.core c.in-Some.all = ap (λ (n : ℕ). set old.turns n c.in-Some.all) c.from-core.ensures in
    let items : (with_items old.lists c.push_to.new.lists).items ≡ c.push_to.new.lists =
    with_items_is old.lists c.push_to.new.lists (omega (arith, c.push_to.auto.lists, c.deref_mut.ensures.len)) in
    let grown = pushed old.lists.items c.deref_mut.result.now c.push_to.new.lists old.core c.from-core.result (lines.Run c.args.turns) c.deref_mut.ensures.value c.from-core.ensures c.in_ok-push_to.ensures in (
      before ++ says.Run c.args.turns ∷ [],
      within.1,
      keeps_run count c.args.turns c.in-Some.all before old
          (record old { turns = set old.turns c.from-core.result c.in-Some.all; lists = with_items old.lists c.push_to.new.lists }) k below size within.0 refl refl counts (items ∙ grown),
    )
