use Rattle.std.proofs.Common.{◌∙◌, ap, refl, arith}
use Rattle.mon_types.specs.declared.thread.Mode.TheVariants as modes
use Rattle.core_behaviour.specs.Exits.{exits}
use Rattle.core_machine.specs.Meaning.{behind_line}
use Rattle.core_machine.proofs.Carrying.{tick_idle, tick_pends}
use Rattle.core_machine.proofs.progress.Progress.tick.Goals as goal

pub returns-in-Os-clause-leads : goal.returns-in-Os-clause-leads
returns-in-Os-clause-leads c = tick_idle c.args.self.now c.end_line.new.self modes.Os c.in-Os.is (λ d p. refl) c.end_line.ensures.leads

pub returns-in-None-clause-leads : goal.returns-in-None-clause-leads
returns-in-None-clause-leads c = tick_pends c.args.self.now c.pend.new.self c.in-Inside.enclave c.in-Inside.thread c.in-Inside.is c.in-None.is c.pend.ensures.leads
