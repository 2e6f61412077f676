use Rattle.std.proofs.Common.{List, sym, subst, ◌∙◌}
use Rattle.hist.specs.declared.event.Entry.{Entry}
use Rattle.hist.specs.Logged.{events_of}
use Rattle.hist.specs.History.{history}
use Rattle.hist.proofs.Ascending.{history_ascends}
use Rattle.hist.proofs.Walked.{Walked, walked_first, walked_next, walked_last, walked_names, walked_region}
use Rattle.hist.proofs.period.period_of.Goals as goal

pub loop-entry-init : goal.loop-entry-init
loop-entry-init c =
    let h = history (events_of c.args.logs.now) in
    let first = walked_first h c.args.region c.args.since c.known_at_start-period.result c.known_at_start-period.ensures in
    subst (λ (es : List Entry). Walked h es c.args.region c.args.since _ c.known_at_start-period.result) (sym (c.into_iter-entry-iterator.ensures.into_iter_gives ∙ c.new-entry-items.ensures)) first

pub known_after-period-requires-clause-owner : goal.known_after-period-requires-clause-owner
known_after-period-requires-clause-owner c =
    let h = history (events_of c.args.logs.now) in
    walked_names h c.in-Some.entry.now c.next.new.self c.args.region c.args.since c.loop-entry.initialized c.loop-entry.period c.requires.owners
    (subst (λ (es : List Entry). Walked h es c.args.region c.args.since c.loop-entry.initialized c.loop-entry.period) c.in-Some.ensures.steps c.loop-entry.invariant)

pub known_after-period-requires-clause-region : goal.known_after-period-requires-clause-region
known_after-period-requires-clause-region c =
    walked_region (history (events_of c.args.logs.now)) c.loop-entry.entry-iterator c.args.region c.args.since c.loop-entry.initialized c.loop-entry.period c.requires.region c.loop-entry.invariant

pub loop-entry-preserved : goal.loop-entry-preserved
loop-entry-preserved c =
    let h = history (events_of c.args.logs.now) in
    walked_next h c.in-Some.entry.now c.next.new.self c.args.region c.args.since c.loop-entry.initialized c.note_slot.new.initialized c.loop-entry.period c.known_after-period.result (history_ascends (events_of c.args.logs.now) c.requires.logs) c.requires.owners
    (subst (λ (es : List Entry). Walked h es c.args.region c.args.since c.loop-entry.initialized c.loop-entry.period) c.in-Some.ensures.steps c.loop-entry.invariant)
    c.note_slot.ensures c.known_after-period.ensures

pub returns : goal.returns
returns c =
    let h = history (events_of c.args.logs.now) in
    walked_last h c.args.region c.args.since c.loop-entry.initialized c.loop-entry.period
    (subst (λ (es : List Entry). Walked h es c.args.region c.args.since c.loop-entry.initialized c.loop-entry.period) c.in-None.ensures.steps.0 c.loop-entry.invariant)
