use Rattle.std.proofs.Common.{◌≡◌, ◌∙◌, ◌<◌, Some, get_or, map, length, sym, ap, subst, arith}
use Rattle.std.specs.List.{slice_get}
use Rattle.mon_types.specs.declared.object.ObjectId.TheVariants as objects
use Rattle.protocol.specs.declared.action.Action.TheVariants as actions
use Rattle.call_machine.specs.Rest.{places, unlocks_of}
use Rattle.call_machine.specs.Meaning.{phase_tree, objects_in, Heads}
use Rattle.call_machine.specs.Stands.{phase_stands}
use Rattle.call_machine.proofs.Loads.{got_is}
use Rattle.call_machine.proofs.Steps.{places_many, writes_one}
use Rattle.call_machine.proofs.work.Work.writes.Goals as goal

pub place_of-object-requires : goal.place_of-object-requires
unfolding phase_stands
place_of-object-requires c =
    omega (arith, c.from-place.ensures, c.requires.1, c.requires.0.long, places_many (objects_in c.args.self.now), ap (λ l. length (places (map (λ x. x.object) l))) c.deref.ensures.0)

pub bounds-deref-place : goal.bounds-deref-place
unfolding phase_stands
bounds-deref-place c = omega (arith, c.from-place.ensures, c.requires.1, c.requires.0.wanted, ap (λ l. length l) c.deref-2.ensures.0)

pub returns : goal.returns
unfolding phase_tree phase_stands
returns c =
    let w = c.args.self.now in
    let ps = places (objects_in w) in
    let below : c.args.at < length ps = omega (arith, c.requires.1, c.requires.0.long, places_many (objects_in w)) in
    let step = writes_one ps w.stood.items w.wanted.items c.args.at (objects.Enclave 0, 0) (unlocks_of (objects_in w)) below c.requires.2 in
    let got : slice_get ps c.args.at ≡ Some c.place_of-object.result =
    ap (slice_get ps) (sym c.from-place.ensures) ∙ ap (λ l. slice_get (places (map (λ x. x.object) l)) c.from-place.result) (sym c.deref.ensures.0) ∙ c.place_of-object.ensures in
    let is = got_is ps c.args.at (objects.Enclave 0, 0) c.place_of-object.result got in
    subst (λ t. Heads t (actions.Write c.place_of-object.result.0 c.place_of-object.result.1 (get_or c.deref-2.result.now c.from-place.result 0))) (sym step)
    (ap (λ p. actions.Write p.0 p.1 (get_or c.deref-2.result.now c.from-place.result 0)) (sym is)
    ∙ ap (λ l. actions.Write (get_or ps c.args.at (objects.Enclave 0, 0)).0 (get_or ps c.args.at (objects.Enclave 0, 0)).1 (get_or l c.from-place.result 0)) c.deref-2.ensures.0
    ∙ ap (λ n. actions.Write (get_or ps c.args.at (objects.Enclave 0, 0)).0 (get_or ps c.args.at (objects.Enclave 0, 0)).1 (get_or w.wanted.items n 0)) c.from-place.ensures)
