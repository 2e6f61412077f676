use Rattle.report_lines.proofs.Events.{event_found_if, event_only}
use Rattle.report_lines.proofs.event.read_event.Goals as goal

pub returns-clause-found : goal.returns-clause-found
returns-clause-found c = event_found_if c.args.config.now c.args.line.now _ c.event_in.ensures

pub returns-clause-only : goal.returns-clause-only
returns-clause-only c = event_only c.args.config.now c.args.line.now _ c.regions-machine.ensures.valid c.event_in.ensures
