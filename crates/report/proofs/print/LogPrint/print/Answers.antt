use Rattle.std.proofs.Common.{List, ℕ, ap, subst, ◌∙◌}
use Rattle.std.specs.List.{flat_map}
use Rattle.report.specs.Objects.{numbered}
use Rattle.text_out.specs.Written.{Writes}
use Rattle.report.specs.Events.{event_line, log_line}
use Rattle.text_out.proofs.Pieces.{writes_then}
use Rattle.report.proofs.Pieces.{numbered_same}
use Rattle.report.proofs.print.LogPrint.print.Goals as goal

pub returns-clause-lines : goal.returns-clause-lines
returns-clause-lines g c =
    let taken = g.K.Sink.taken in
    let same = ap (numbered (λ _ event. event_line event) 0) c.events.ensures ∙ numbered_same event_line 0 c.args.self.now.events in
    writes_then (taken c.args.out.now) (taken c.put_line.new.out) (taken c.put_each.new.out) c.put_each.result (log_line c.args.number) (flat_map event_line c.args.self.now.events)
    (rw c.line_of_log.ensures at c.in_ok-put_line.ensures.text.ok) (subst (λ (t : List ℕ). Writes (taken c.put_line.new.out) (taken c.put_each.new.out) c.put_each.result t) same c.put_each.ensures.lines)
