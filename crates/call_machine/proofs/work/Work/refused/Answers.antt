use Rattle.std.proofs.Common.{cond, refl, sym, ap, arith, Some}
use Rattle.core_context.specs.declared.after.After.TheVariants as afters
use Rattle.core_context.specs.Changes.{ok_change}
use Rattle.call_machine.specs.Meaning.{phase_tree, refuses, ends_after, objects_in, known}
use Rattle.call_machine.specs.Rest.{unlocks_of}
use Rattle.call_machine.specs.Count.{phase_left}
use Rattle.call_machine.proofs.At.{at_from, objects_many, take_whole}
use Rattle.call_machine.proofs.work.Work.refused.Goals as goal

pub returns : goal.returns
unfolding phase_tree refuses ends_after phase_left
returns c =
    let w = c.args.self.now in
    at_from _ _ _ _ _ _ _ _ _ c.unlock.ensures
    (ap unlocks_of (take_whole (objects_in w) _ (omega (arith, objects_many w, c.len-left.ensures.value))))
    (omega (arith, c.len-left.ensures.value))
    (ap (λ b. Some (w.reply, cond b (ok_change (known w) w.core w.call) afters.Nothing)) (sym c.requires.refused)) refl refl refl refl
