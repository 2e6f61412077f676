use Rattle.report_lines.proofs.Found.{call_found_if}
use Rattle.report_lines.proofs.Again.{call_only}
use Rattle.report_lines.proofs.call.read_call.Goals as goal

pub returns-clause-found : goal.returns-clause-found
returns-clause-found c = call_found_if c.args.config.now c.args.line.now _ c.call_in.ensures

pub returns-clause-only : goal.returns-clause-only
returns-clause-only c = call_only c.args.config.now c.args.line.now _ c.regions-machine.ensures.valid c.call_in.ensures
