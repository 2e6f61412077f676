use Rattle.core_machine.proofs.progress.Progress.pend.Goals as goal

pub returns-clause-leads : goal.returns-clause-leads
returns-clause-leads c =
    let l = c.exit.ensures.leads in
    record {
      number = l.number;
      counts = l.counts;
      goes = λ log answers h. l.goes log answers (record { events = h.events; answers = h.answers; serial = h.serial; mode = h.mode });
    }
