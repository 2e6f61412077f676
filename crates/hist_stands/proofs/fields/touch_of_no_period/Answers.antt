use Rattle.std.proofs.Common.{◌≡◌, [], ◌∷◌, refl, arith}
use Rattle.hist.specs.declared.event.Event.TheVariants as events
use Rattle.hist.specs.History.{entries_of}
use Rattle.hist.specs.Legal.{AreOwn}
use Rattle.hist.specs.Busy.{own}
use Rattle.mon_types.proofs.Below.{by_one}
use Rattle.hist_stands.specs.Runs.{each_logs}
use Rattle.hist_stands.proofs.ByHand.{none_from_five}
use Rattle.hist_stands.proofs.fields.touch_of_no_period.Goals as goal

pub returns : goal.returns
returns c = record {
  legal = record { tickets = tt; entries = tt };
  cores = tt;
  serials = by_one (λ core. AreOwn core 0 0 (entries_of (each_logs (events.Touch 3 5 ∷ []) core))) tt;
  mine = by_one (λ core. entries_of (each_logs (events.Touch 3 5 ∷ []) core) ≡ own core []) refl;
  stamped = λ all. none_from_five (all 0 (omega arith)).0;
}
