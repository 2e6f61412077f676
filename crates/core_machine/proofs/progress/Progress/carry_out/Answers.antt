use Rattle.std.proofs.Common.{◌∙◌, sym}
use Rattle.mon_types.specs.declared.script.Line.TheVariants as lines
use Rattle.core_machine.proofs.Carrying.{line_leads}
use Rattle.core_machine.proofs.progress.Progress.carry_out.Goals as goal

pub returns-in-Tick-clause-leads : goal.returns-in-Tick-clause-leads
returns-in-Tick-clause-leads c = line_leads c.args.self.now c.tick.new.self lines.Tick (sym c.in-Tick.is ∙ c.line.ensures) c.tick.ensures.leads
