use Rattle.std.proofs.Common.{[], refl, arith}
use Rattle.mon_types.specs.Shape.{plain}
use Rattle.hist.specs.History.{entries_of}
use Rattle.hist.specs.Legal.{AreOwn}
use Rattle.hist.specs.Rows.{logged}
use Rattle.mon_types.proofs.Below.{by_one}
use Rattle.hist_stands.specs.Stamp.{AreStamped}
use Rattle.hist_stands.specs.Runs.{each_logs, blocked}
use Rattle.hist_stands.proofs.fields.entry_of_no_history.Goals as goal

pub returns : goal.returns
returns c = record {
  legal = record { tickets = tt; entries = tt };
  cores = tt;
  serials = by_one (λ core. AreOwn core 0 0 (entries_of (each_logs (logged blocked) core)))
      (record { core = refl; serial = refl; ascends = omega arith }, tt);
  mine = λ all. let is = all 0 (omega arith) in cc;
  stamped = by_one (λ core. AreStamped (plain 1) [] core [] (each_logs (logged blocked) core)) (tt, tt);
}
