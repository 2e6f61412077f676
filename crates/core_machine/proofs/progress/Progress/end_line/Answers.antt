use Rattle.std.proofs.Common.{refl, arith}
use Rattle.core_machine.specs.Meaning.{Stands}
use Rattle.core_machine.specs.Kept.{work_stands}
use Rattle.core_machine.proofs.progress.Progress.end_line.Goals as goal

pub returns-clause-sound : goal.returns-clause-sound
unfolding work_stands
returns-clause-sound c =
    let o = c.requires.own in
    let s = c.requires.script in
    record {
      own = record { valid = o.valid; core = o.core; slot = o.slot; thread = o.thread; calls = o.calls };
      script = record { scripted = s.scripted; few = s.few; at = omega (arith, c.requires.there) };
      stands = (c.requires.events, c.requires.answers);
    }

pub returns-clause-leads : goal.returns-clause-leads
unfolding Stands
returns-clause-leads c = record {
  number = refl;
  counts = refl;
  goes = λ log answers h. (record { events = h.events; answers = h.answers; serial = h.serial; mode = h.mode }, refl);
}
