use Rattle.std.proofs.Common.{ℕ, ◌-◌, ◌<◌, length, sym, ap, subst}
use Rattle.mon_model.specs.State.{State}
use Rattle.mon_model.specs.Tries.{tries}
use Rattle.lock_plan.specs.declared.held.Held.{Held}
use Rattle.lock_plan.specs.Plan.{held_count}
use Rattle.mon_seq.proofs.Gathered.{OneMore, AllGathered, one_more_gathered, all_gathered}
use Rattle.mon_seq.proofs.state.MonitorState.gather.Goals as goal

pub add_tried-requires : goal.add_tried-requires
add_tried-requires c =
    let machine = sym (ap (λ (s : State). s.shape) c.self.view_is) in
    let more : OneMore c.args.self.now c.args.core c.args.call.now c.loop-object.tried c.loop-object.held c.in-Some.object =
    one_more_gathered c.args.self.now c.args.core c.args.mode c.args.call.now c.loop-object.tried c.loop-object.held c.self.inside.config c.next.result c.in-Some.object
    c.requires.tables c.requires.core machine (sym c.requires.mode) c.next.ensures.next c.in-Some.is c.loop-object.invariant in
    more.place

pub loop-object-smaller : goal.loop-object-smaller
loop-object-smaller c =
    let machine = sym (ap (λ (s : State). s.shape) c.self.view_is) in
    let more : OneMore c.args.self.now c.args.core c.args.call.now c.loop-object.tried c.loop-object.held c.in-Some.object =
    one_more_gathered c.args.self.now c.args.core c.args.mode c.args.call.now c.loop-object.tried c.loop-object.held c.self.inside.config c.next.result c.in-Some.object
    c.requires.tables c.requires.core machine (sym c.requires.mode) c.next.ensures.next c.in-Some.is c.loop-object.invariant in
    let all : ℕ = length (tries c.args.self.now c.args.core c.args.call.now) in
    subst (λ (h : Held). all - held_count h < all - held_count c.loop-object.held) (sym c.take.ensures) more.fewer

pub loop-object-preserved : goal.loop-object-preserved
loop-object-preserved c =
    let machine = sym (ap (λ (s : State). s.shape) c.self.view_is) in
    let more : OneMore c.args.self.now c.args.core c.args.call.now c.loop-object.tried c.loop-object.held c.in-Some.object =
    one_more_gathered c.args.self.now c.args.core c.args.mode c.args.call.now c.loop-object.tried c.loop-object.held c.self.inside.config c.next.result c.in-Some.object
    c.requires.tables c.requires.core machine (sym c.requires.mode) c.next.ensures.next c.in-Some.is c.loop-object.invariant in
    rw (c.add_tried.ensures, c.take.ensures) more.gathered

pub returns-clause-tried : goal.returns-clause-tried
returns-clause-tried c =
    let machine = sym (ap (λ (s : State). s.shape) c.self.view_is) in
    let all : AllGathered c.args.self.now c.args.core c.args.call.now c.loop-object.tried c.loop-object.held =
    all_gathered c.args.self.now c.args.core c.args.mode c.args.call.now c.loop-object.tried c.loop-object.held c.self.inside.config c.next.result
    machine (sym c.requires.mode) c.next.ensures.next c.in_default.is c.loop-object.invariant in
    all.sets

pub returns-clause-held : goal.returns-clause-held
returns-clause-held c =
    let machine = sym (ap (λ (s : State). s.shape) c.self.view_is) in
    let all : AllGathered c.args.self.now c.args.core c.args.call.now c.loop-object.tried c.loop-object.held =
    all_gathered c.args.self.now c.args.core c.args.mode c.args.call.now c.loop-object.tried c.loop-object.held c.self.inside.config c.next.result
    machine (sym c.requires.mode) c.next.ensures.next c.in_default.is c.loop-object.invariant in
    all.records
