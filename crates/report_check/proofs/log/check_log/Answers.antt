use Rattle.std.proofs.Common.{length, Option, refl, ap, subst, arith}
use Rattle.std.specs.Prelude.{IfSome}
use Rattle.std.proofs.lemmas.List.{length-append}
use Rattle.report_lines.specs.Forms.{IsEventLine}
use Rattle.report_lines.specs.Lines.{ended_lines}
use Rattle.report_lines.specs.declared.event.EventLine.{EventLine}
use Rattle.report_check.specs.Log.{events_in}
use Rattle.report_check.proofs.Logged.{some_text, line_is_event, event_first, stands_first, some_left, few_entries, stands_wrong, stands_next, stands_last, all_counted}
use Rattle.report_check.proofs.log.check_log.Goals as goal

pub loop-passed-init : goal.loop-passed-init
loop-passed-init c =
    let calls = c.args.known.now.calls in record {
      stands = stands_first calls c.args.core c.args.first (events_in calls.config.now c.args.text.now) c.at_start-place.result c.at_start-place.ensures;
      size = omega arith;
    }

pub next_line-requires : goal.next_line-requires
next_line-requires c =
    let calls = c.args.known.now.calls in
    some_text calls.config.now c.loop-passed.rest.now
    (some_left calls c.args.core c.args.first (events_in calls.config.now c.args.text.now) (events_in calls.config.now c.loop-passed.rest.now) c.loop-passed.passed c.in_ok-whole.whole.events c.loop-passed.place c.loop-passed.invariant.stands c.in_ok-whole.ensures.events (omega arith))

pub unwrap-event-requires : goal.unwrap-event-requires
unwrap-event-requires c =
    let calls = c.args.known.now.calls in
    line_is_event calls.config.now c.loop-passed.rest.now c.next_line.result.0.now (ended_lines c.next_line.result.1.now) c.read_event.result c.next_line.ensures.lines c.read_event.ensures.exact
    (some_left calls c.args.core c.args.first (events_in calls.config.now c.args.text.now) (events_in calls.config.now c.loop-passed.rest.now) c.loop-passed.passed c.in_ok-whole.whole.events c.loop-passed.place c.loop-passed.invariant.stands c.in_ok-whole.ensures.events (omega arith))

pub is_right-requires-clause-fits : goal.is_right-requires-clause-fits
is_right-requires-clause-fits c =
    let shape = c.args.known.now.calls.config.now in
    (subst (λ (o : Option EventLine). IfSome o (λ (e : EventLine). IsEventLine shape c.next_line.result.0.now e)) c.unwrap-event.ensures c.read_event.ensures.found).fits

pub is_right-requires-clause-passed : goal.is_right-requires-clause-passed
is_right-requires-clause-passed c = omega (arith, c.loop-passed.invariant.size, c.requires.size, c.next_line.ensures.some, ap length c.next_line.ensures.joined, length-append c.next_line.result.0.now c.next_line.result.1.now)

pub overflow_add-line : goal.overflow_add-line
overflow_add-line c = omega (arith, c.loop-passed.invariant.size, c.requires.first, c.next_line.ensures.some, ap length c.next_line.ensures.joined, length-append c.next_line.result.0.now c.next_line.result.1.now)

pub returns-then-not-is_right-clause-wrong : goal.returns-then-not-is_right-clause-wrong
returns-then-not-is_right-clause-wrong c =
    let calls = c.args.known.now.calls in
    stands_wrong calls c.args.core c.args.first (events_in calls.config.now c.args.text.now) (events_in calls.config.now c.loop-passed.rest.now) (events_in calls.config.now c.next_line.result.1.now) c.unwrap-event.result c.loop-passed.passed c.loop-passed.place c.in_ok-whole.whole
    c.is_right.result c.loop-passed.invariant.stands (event_first calls.config.now c.loop-passed.rest.now c.next_line.result.0.now (ended_lines c.next_line.result.1.now) c.read_event.result c.unwrap-event.result c.next_line.ensures.lines c.read_event.ensures.exact c.unwrap-event.ensures)
    c.in_ok-whole.ensures c.is_right.ensures c.if-not-is_right.true

pub pass-requires-clause-room : goal.pass-requires-clause-room
pass-requires-clause-room c =
    let calls = c.args.known.now.calls in
    let few = few_entries calls c.args.core c.args.first (events_in calls.config.now c.args.text.now) (events_in calls.config.now c.loop-passed.rest.now) c.loop-passed.passed c.loop-passed.place c.loop-passed.invariant.stands in
    omega (arith, few, c.loop-passed.invariant.size, c.requires.size)

pub loop-passed-preserved : goal.loop-passed-preserved
loop-passed-preserved c =
    let calls = c.args.known.now.calls in record {
      stands =
          stands_next calls c.args.core c.args.first (events_in calls.config.now c.args.text.now) (events_in calls.config.now c.loop-passed.rest.now) (events_in calls.config.now c.next_line.result.1.now) c.unwrap-event.result c.loop-passed.passed c.loop-passed.place c.pass.new.self c.in_ok-whole.whole
          c.is_right.result c.loop-passed.invariant.stands (event_first calls.config.now c.loop-passed.rest.now c.next_line.result.0.now (ended_lines c.next_line.result.1.now) c.read_event.result c.unwrap-event.result c.next_line.ensures.lines c.read_event.ensures.exact c.unwrap-event.ensures)
          c.in_ok-whole.ensures c.is_right.ensures c.if-not-is_right.false c.in_ok-pass.ensures;
      size = omega (arith, c.loop-passed.invariant.size, c.next_line.ensures.some, ap length c.next_line.ensures.joined, length-append c.next_line.result.0.now c.next_line.result.1.now);
    }

pub returns-clause-right : goal.returns-clause-right
returns-clause-right c =
    let calls = c.args.known.now.calls in
    stands_last calls c.args.core c.args.first (events_in calls.config.now c.args.text.now) (events_in calls.config.now c.loop-passed.rest.now) c.loop-passed.passed c.in_ok-whole.whole.events c.loop-passed.place c.loop-passed.invariant.stands c.in_ok-whole.ensures.events (omega arith)

pub returns-clause-counts : goal.returns-clause-counts
returns-clause-counts c =
    let calls = c.args.known.now.calls in
    all_counted calls c.args.core c.args.first (events_in calls.config.now c.args.text.now) (events_in calls.config.now c.loop-passed.rest.now) c.loop-passed.passed c.in_ok-whole.whole.events c.loop-passed.place _ c.loop-passed.invariant.stands c.in_ok-whole.ensures.events (omega arith) refl refl
