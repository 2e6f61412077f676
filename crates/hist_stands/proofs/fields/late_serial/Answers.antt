use Rattle.std.proofs.Common.{◌≡◌, [], ◌∷◌, refl, arith}
use Rattle.mon_types.specs.Shape.{plain}
use Rattle.hist.specs.History.{entries_of}
use Rattle.hist.specs.Busy.{own}
use Rattle.hist.specs.Rows.{block_3, logged}
use Rattle.mon_types.proofs.Below.{by_one}
use Rattle.hist_stands.specs.Stamp.{AreStamped}
use Rattle.hist_stands.specs.Runs.{each_logs}
use Rattle.hist_stands.proofs.fields.late_serial.Goals as goal

pub returns : goal.returns
returns c = record {
  legal = record { tickets = (refl, tt); entries = (record { reply = λ _. refl; tried = λ _. refl; page = refl }, tt) };
  cores = (omega arith, tt);
  serials = λ all. omega (arith, (all 0 (omega arith)).0.serial);
  mine = by_one (λ core. entries_of (each_logs (logged (block_3 1 0 1 ∷ [])) core)
      ≡ own core (block_3 1 0 1 ∷ [])) refl;
  stamped = by_one (λ core. AreStamped (plain 1) (block_3 1 0 1 ∷ []) core []
      (each_logs (logged (block_3 1 0 1 ∷ [])) core)) (tt, tt);
}
