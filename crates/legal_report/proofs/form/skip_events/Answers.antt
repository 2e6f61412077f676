use Rattle.std.proofs.Common.{length, sym, ap, ◌∙◌, arith}
use Rattle.std.proofs.lemmas.Bool.{eqb-true}
use Rattle.std.proofs.lemmas.List.{length-append}
use Rattle.report_lines.specs.Lines.{ended_lines}
use Rattle.legal_report.proofs.Walk.{event_met, event_ends, no_more_events, no_lines_in}
use Rattle.legal_report.proofs.form.skip_events.Goals as goal

pub returns-then-ends_events-clause-count : goal.returns-then-ends_events-clause-count
returns-then-ends_events-clause-count c =
    (event_ends c.args.config.now c.next_line.result.0.now (ended_lines c.loop-line.rest.now) (ended_lines c.next_line.result.1.now) _ c.loop-line.count c.next_line.ensures.lines (sym c.ends_events.ensures ∙ c.if-ends_events.true) c.loop-line.invariant.read).0

pub returns-then-ends_events-clause-rest : goal.returns-then-ends_events-clause-rest
returns-then-ends_events-clause-rest c =
    (event_ends c.args.config.now c.next_line.result.0.now (ended_lines c.loop-line.rest.now) (ended_lines c.next_line.result.1.now) _ c.loop-line.count c.next_line.ensures.lines (sym c.ends_events.ensures ∙ c.if-ends_events.true) c.loop-line.invariant.read).1

pub loop-line-preserved : goal.loop-line-preserved
loop-line-preserved c = record {
  read =
      event_met c.args.config.now c.next_line.result.0.now (ended_lines c.loop-line.rest.now) (ended_lines c.next_line.result.1.now) _ c.loop-line.count c.next_line.ensures.lines (sym c.ends_events.ensures ∙ c.if-ends_events.false) c.loop-line.invariant.read;
  size = omega (arith, c.loop-line.invariant.size, c.next_line.ensures.some, ap length c.next_line.ensures.joined, length-append c.next_line.result.0.now c.next_line.result.1.now);
}

pub returns-clause-count : goal.returns-clause-count
returns-clause-count c = (no_more_events c.args.config.now (ended_lines c.loop-line.rest.now) _ c.loop-line.count (no_lines_in c.loop-line.rest.now (eqb-true _ 0 (sym c.is_empty.ensures ∙ c.loop-line-test.false))) c.loop-line.invariant.read).0

pub returns-clause-rest : goal.returns-clause-rest
returns-clause-rest c = (no_more_events c.args.config.now (ended_lines c.loop-line.rest.now) _ c.loop-line.count (no_lines_in c.loop-line.rest.now (eqb-true _ 0 (sym c.is_empty.ensures ∙ c.loop-line-test.false))) c.loop-line.invariant.read).1
