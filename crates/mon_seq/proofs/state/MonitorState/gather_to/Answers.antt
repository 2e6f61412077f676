use Rattle.std.proofs.Common.{◌≡◌, ℕ, ◌-◌, ◌<◌, true, false, List, length, refl, sym, ap, subst, ◌∙◌}
use Rattle.std.specs.Bool.{Decides}
use Rattle.std.proofs.lemmas.Bool.{true≢false}
use Rattle.mon_types.specs.declared.object.ObjectId.{ObjectId}
use Rattle.mon_types.specs.declared.object.Tried.{Tried}
use Rattle.mon_model.specs.State.{State}
use Rattle.mon_model.specs.Tries.{add_tried, tries}
use Rattle.lock_plan.specs.declared.held.Held.{Held}
use Rattle.lock_plan.specs.Plan.{held_count}
use Rattle.lock_plan.specs.Records.{with_record}
use Rattle.mon_seq.proofs.Passed.{OneFurther, IsPassed, one_further, none_further, nothing_passed}
use Rattle.mon_seq.proofs.state.MonitorState.gather_to.Goals as goal

pub loop-object-init : goal.loop-object-init
loop-object-init c = rw (c.nothing_tried-tried.ensures, c.requires.none_held) (nothing_passed c.args.self.now c.args.core c.args.call.now c.args.lock c.args.wanted.now)

pub add_tried-requires : goal.add_tried-requires
add_tried-requires c =
    let machine = sym (ap (λ (s : State). s.shape) c.self.view_is) in
    let more : OneFurther c.args.self.now c.args.core c.args.call.now c.args.lock c.args.wanted.now c.loop-object.tried c.loop-object.held c.in-Some.object =
    one_further c.args.self.now c.args.core c.args.mode c.args.call.now c.args.lock c.args.wanted.now c.loop-object.tried c.loop-object.held c.self.inside.config c.next.result c.in-Some.object
    c.requires.tables c.requires.core machine (sym c.requires.mode) c.next.ensures.next c.in-Some.is c.loop-object.invariant in
    more.place

pub returns-then-there : goal.returns-then-there
returns-then-there c =
    let machine = sym (ap (λ (s : State). s.shape) c.self.view_is) in
    let more : OneFurther c.args.self.now c.args.core c.args.call.now c.args.lock c.args.wanted.now c.loop-object.tried c.loop-object.held c.in-Some.object =
    one_further c.args.self.now c.args.core c.args.mode c.args.call.now c.args.lock c.args.wanted.now c.loop-object.tried c.loop-object.held c.self.inside.config c.next.result c.in-Some.object
    c.requires.tables c.requires.core machine (sym c.requires.mode) c.next.ensures.next c.in-Some.is c.loop-object.invariant in
    let here = c.is_there-there.ensures.0 c.if-there.true in
    (λ yes. more.is_end (here.0, sym c.add_tried.ensures ∙ here.1), λ front. refl)

pub loop-object-smaller : goal.loop-object-smaller
loop-object-smaller c =
    let machine = sym (ap (λ (s : State). s.shape) c.self.view_is) in
    let more : OneFurther c.args.self.now c.args.core c.args.call.now c.args.lock c.args.wanted.now c.loop-object.tried c.loop-object.held c.in-Some.object =
    one_further c.args.self.now c.args.core c.args.mode c.args.call.now c.args.lock c.args.wanted.now c.loop-object.tried c.loop-object.held c.self.inside.config c.next.result c.in-Some.object
    c.requires.tables c.requires.core machine (sym c.requires.mode) c.next.ensures.next c.in-Some.is c.loop-object.invariant in
    let all : ℕ = length (tries c.args.self.now c.args.core c.args.call.now) in
    subst (λ (h : Held). all - held_count h < all - held_count c.loop-object.held) (sym c.take.ensures) more.fewer

pub loop-object-preserved : goal.loop-object-preserved
loop-object-preserved c =
    let machine = sym (ap (λ (s : State). s.shape) c.self.view_is) in
    let more : OneFurther c.args.self.now c.args.core c.args.call.now c.args.lock c.args.wanted.now c.loop-object.tried c.loop-object.held c.in-Some.object =
    one_further c.args.self.now c.args.core c.args.mode c.args.call.now c.args.lock c.args.wanted.now c.loop-object.tried c.loop-object.held c.self.inside.config c.next.result c.in-Some.object
    c.requires.tables c.requires.core machine (sym c.requires.mode) c.next.ensures.next c.in-Some.is c.loop-object.invariant in
    rw (c.add_tried.ensures, c.take.ensures) (more.passed (λ here. true≢false (sym (c.is_there-there.ensures.1 (here.0, c.add_tried.ensures ∙ here.1)) ∙ c.if-there.false)))

pub returns : goal.returns
returns c =
    let machine = sym (ap (λ (s : State). s.shape) c.self.view_is) in (
      λ yes. absurd (true≢false (sym yes)),
      λ front. absurd (none_further c.args.self.now c.args.core c.args.mode c.args.call.now c.args.lock c.args.wanted.now c.loop-object.tried c.loop-object.held c.self.inside.config c.next.result
          machine (sym c.requires.mode) c.next.ensures.next c.in_default.is c.loop-object.invariant front),
    )
