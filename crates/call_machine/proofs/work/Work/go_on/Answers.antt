use Rattle.std.proofs.Common.{◌≡◌, ◌∙◌, ◌∷◌, Some, sym, refl, subst, arith}
use Rattle.std.specs.Prelude.{slice_get}
use Rattle.call_machine.specs.declared.phase.Phase.TheVariants as phases
use Rattle.call_machine.specs.Meaning.{phase_tree, objects_in, known}
use Rattle.call_machine.specs.Count.{phase_left}
use Rattle.call_machine.specs.Stands.{IsLocking, phase_stands}
use Rattle.call_machine.proofs.At.{at_from, locking_other, unloaded_other, width_some}
use Rattle.call_machine.proofs.Holding.{next_first, next_place, next_tree, end_tree, end_locked}
use Rattle.call_machine.proofs.work.Work.go_on.Goals as goal

pub add_tried-requires : goal.add_tried-requires
add_tried-requires c =
    let w = c.args.self.now in
    let h = c.requires.locking.holding in
    (next_place w c.requires c.in-Some.object (sym c.in-Some.is ∙ c.next.ensures.next (known w) (objects_in w) c.requires.others h.machine h.mode h.front)).0

pub decide-requires-clause-locked : goal.decide-requires-clause-locked
decide-requires-clause-locked c =
    let w = c.args.self.now in
    let h = c.requires.locking.holding in
    end_locked w c.requires (sym c.in-None.is ∙ c.next.ensures.next (known w) (objects_in w) c.requires.others h.machine h.mode h.front)

pub returns-in-Some-clause-at : goal.returns-in-Some-clause-at
unfolding phase_stands phase_tree phase_left
returns-in-Some-clause-at c =
    let w = c.args.self.now in
    let h = c.requires.locking.holding in
    let o = c.in-Some.object in
    let first : Some o ≡ slice_get c.requires.others 0 = sym c.in-Some.is ∙ c.next.ensures.next (known w) (objects_in w) c.requires.others h.machine h.mode h.front in
    let more = next_first w c.requires o first in
    record {
      based = record { valid = h.based.valid; caller = h.based.caller; is_call = h.based.is_call; few = h.based.few };
      stands = record {
        others = more.0;
        locking = locking_other w c.add_tried.new.tried w.reply (phases.Tries o) (o ∷ more.0) 0 (subst (λ l. IsLocking w l 0) more.1 c.requires.locking);
        tried = c.add_tried.ensures ∙ (next_place w c.requires o first).1;
        unloaded = unloaded_other w c.add_tried.new.tried w.reply (phases.Tries o) c.requires.unloaded;
        at = width_some o;
      };
      meaning = sym (next_tree w c.requires o first);
      count = omega arith;
      end = refl;
      config = refl;
      call = refl;
      core = refl;
      mode = refl;
    }

pub returns-in-None-clause-at : goal.returns-in-None-clause-at
returns-in-None-clause-at c =
    let w = c.args.self.now in
    let h = c.requires.locking.holding in
    at_from _ _ _ _ _ _ _ _ _ c.decide.ensures.at
    (sym (end_tree w c.requires (sym c.in-None.is ∙ c.next.ensures.next (known w) (objects_in w) c.requires.others h.machine h.mode h.front)))
    (omega arith) refl refl refl refl refl

pub decide-requires-clause-ptes : goal.decide-requires-clause-ptes
decide-requires-clause-ptes c = c.requires.unloaded.ptes

pub decide-requires-clause-places : goal.decide-requires-clause-places
decide-requires-clause-places c = c.requires.unloaded.places

pub decide-requires-clause-page : goal.decide-requires-clause-page
decide-requires-clause-page c = c.requires.locking.page
