use Rattle.std.proofs.Common.{length, sym, ap, ◌∙◌, arith}
use Rattle.std.proofs.lemmas.Bool.{eqb-true}
use Rattle.std.proofs.lemmas.List.{length-append}
use Rattle.report_lines.specs.Lines.{ended_lines}
use Rattle.legal_report.specs.Kept.{calls_told}
use Rattle.legal_report.proofs.Told.{lines_of_log, line_told, told_to_other, told_to_end}
use Rattle.legal_report.proofs.Walk.{no_lines_in}
use Rattle.legal_report.proofs.tickets.Calls.drawn.Goals as goal

pub returns-in_default : goal.returns-in_default
returns-in_default c =
    let shape = c.args.self.now.config.now in
    told_to_other shape (calls_told c.args.self.now) c.args.core (lines_of_log shape (ended_lines c.args.text.now)) (ended_lines c.loop-rest.rest.now) (ended_lines c.next_line.result.1.now) c.next_line.result.0.now _ c.loop-rest.drawn
    c.next_line.ensures.lines c.read_event.ensures.exact c.in_default.is c.loop-rest.invariant.told

pub loop-rest-preserved : goal.loop-rest-preserved
loop-rest-preserved c =
    let shape = c.args.self.now.config.now in record {
      told =
          line_told shape (calls_told c.args.self.now) c.args.core (lines_of_log shape (ended_lines c.args.text.now)) (ended_lines c.loop-rest.rest.now) (ended_lines c.next_line.result.1.now) c.next_line.result.0.now _ c.in-Some.event c.loop-rest.drawn c.tell.new.drawn
          c.next_line.ensures.lines c.read_event.ensures.exact c.in-Some.is c.loop-rest.invariant.told c.in_ok-tell.ensures;
      size = omega (arith, c.loop-rest.invariant.size, c.in_ok-tell.ensures.events, c.next_line.ensures.some, ap length c.next_line.ensures.joined, length-append c.next_line.result.0.now c.next_line.result.1.now);
    }

pub returns : goal.returns
returns c =
    let shape = c.args.self.now.config.now in
    told_to_end shape (calls_told c.args.self.now) c.args.core (lines_of_log shape (ended_lines c.args.text.now)) (ended_lines c.loop-rest.rest.now) c.loop-rest.drawn
    (no_lines_in c.loop-rest.rest.now (eqb-true _ 0 (sym c.is_empty.ensures ∙ c.loop-rest-test.false))) c.loop-rest.invariant.told
