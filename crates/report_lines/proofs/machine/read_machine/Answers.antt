use Rattle.report_lines.proofs.Events.{machine_found_if, machine_only}
use Rattle.report_lines.proofs.machine.read_machine.Goals as goal

pub returns-clause-found : goal.returns-clause-found
returns-clause-found c = machine_found_if c.args.line.now _ c.machine_in.ensures

pub returns-clause-only : goal.returns-clause-only
returns-clause-only c = machine_only c.args.line.now _ c.machine_in.ensures
