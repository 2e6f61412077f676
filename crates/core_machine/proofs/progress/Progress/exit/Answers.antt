use Rattle.std.proofs.Common.{subst, arith}
use Rattle.mon_types.specs.declared.call.Call.TheVariants as calls
use Rattle.core_context.specs.declared.origin.Origin.TheVariants as origins
use Rattle.core_behaviour.specs.Called.{called}
use Rattle.core_machine.specs.Own.{core_of, IsCounted}
use Rattle.core_machine.specs.Meaning.{after_call, Stands}
use Rattle.core_machine.proofs.progress.Progress.exit.Goals as goal

pub call-requires-clause-within : goal.call-requires-clause-within
call-requires-clause-within c = record { events = c.requires.within.events; answers = omega (arith, c.requires.within.answers) }

pub returns-clause-leads : goal.returns-clause-leads
returns-clause-leads c =
    let l = c.call.ensures.leads in
    let old = c.args.self.now in
    let new = c.call.new.self in
    record {
      number = l.number;
      counts = l.counts;
      goes = λ log answers h.
          subst (λ s. IsCounted new.own log answers × Stands new new.work (core_of new.own log answers) (called old.own.config (origins.Machine c.args.exit.value) (calls.Aex s) (core_of old.own log answers) (after_call old c.args.purpose)))
          c.save-saved.ensures (l.goes log answers h);
    }
