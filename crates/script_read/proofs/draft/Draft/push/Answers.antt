use Rattle.std.proofs.Common.{◌≡◌, refl, ◌∙◌, arith}
use Rattle.std.specs.Vec.{with_items}
use Rattle.std.proofs.lemmas.List.{with_items_is}
use Rattle.std.proofs.lemmas.Result.{on_ok_weaker}
use Rattle.script_read.proofs.Drafting.{pushed, keeps_line}
use Rattle.script_read.proofs.draft.Draft.push.Goals as goal

pub returns : goal.returns
returns c =
    let old = c.args.self.now in
    let items : (with_items old.lists c.push_to.new.lists).items ≡ c.push_to.new.lists =
    with_items_is old.lists c.push_to.new.lists (omega (arith, c.push_to.auto.lists, c.deref_mut.ensures.len)) in
    on_ok_weaker c.push_to.result (λ grown count before k.
    keeps_line count before c.args.made old (record old { lists = with_items old.lists c.push_to.new.lists }) k c.requires.no_run refl refl refl
    (items ∙ pushed old.lists.items c.deref_mut.result.now c.push_to.new.lists old.core c.from.result c.args.made c.deref_mut.ensures.value c.from.ensures grown))
    c.push_to.ensures
