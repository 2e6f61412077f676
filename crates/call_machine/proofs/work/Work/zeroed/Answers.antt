use Rattle.std.proofs.Common.{length, refl, sym, ap, arith}
use Rattle.mon_types.specs.LimitLaws.{few_pages}
use Rattle.mon_model.specs.Tries.{freed_by}
use Rattle.protocol.specs.CallTree.{zeros}
use Rattle.call_machine.specs.Meaning.{phase_tree, objects_in, after, ends_after}
use Rattle.call_machine.specs.Rest.{places, writes_from, unlocks_of}
use Rattle.call_machine.specs.Count.{phase_left}
use Rattle.call_machine.specs.Stands.{phase_stands}
use Rattle.call_machine.proofs.At.{at_from}
use Rattle.call_machine.proofs.Steps.{words_here}
use Rattle.call_machine.proofs.work.Work.zeroed.Goals as goal

pub overflow_add-word : goal.overflow_add-word
unfolding phase_stands
overflow_add-word c = omega (arith, c.requires.stands.1, few_pages c.args.self.now.config c.requires.based.valid)

pub zero-requires-clause-drawn : goal.zero-requires-clause-drawn
unfolding phase_stands
zero-requires-clause-drawn c = c.requires.stands.0

pub zero-requires-clause-from : goal.zero-requires-clause-from
unfolding phase_stands
zero-requires-clause-from c = omega (arith, c.requires.stands.1)

pub returns : goal.returns
unfolding phase_stands phase_tree phase_left ends_after zeros
returns c =
    let w = c.args.self.now in
    let here = words_here w.config (freed_by w.call) c.args.word c.requires.stands.1 c.requires.stands.2 in
    let next = writes_from (places (objects_in w)) w.stood.items w.wanted.items 0 (unlocks_of (objects_in w)) in
    at_from _ _ _ _ _ _ _ _ _ c.zero.ensures
    (sym (ap (λ l. after (zeros l next) c.args.outcome.now) here))
    (omega (arith, ap (λ l. length l) here)) (sym (ap (λ l. ends_after w (zeros l next)) here)) refl refl refl refl
