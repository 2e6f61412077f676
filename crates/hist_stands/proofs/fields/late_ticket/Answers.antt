use Rattle.std.proofs.Common.{◌≡◌, [], ◌∷◌, refl, arith}
use Rattle.mon_types.specs.Shape.{plain}
use Rattle.hist.specs.History.{entries_of}
use Rattle.hist.specs.Legal.{AreOwn}
use Rattle.hist.specs.Busy.{own}
use Rattle.hist.specs.Rows.{block_3, logged}
use Rattle.mon_types.proofs.Below.{by_one}
use Rattle.hist_stands.specs.Stamp.{AreStamped}
use Rattle.hist_stands.specs.Runs.{each_logs}
use Rattle.hist_stands.proofs.fields.late_ticket.Goals as goal

pub returns-clause-tickets : goal.returns-clause-tickets
returns-clause-tickets c = record {
  tickets = λ tickets. omega (arith, tickets.0);
  entries =
      (record { reply = λ _. refl; tried = λ _. refl; page = refl }, tt);
}

pub returns-clause-legal : goal.returns-clause-legal
returns-clause-legal c = record {
  legal = λ history. omega (arith, history.tickets.0);
  cores = (omega arith, tt);
  serials = by_one (λ core. AreOwn core 0 0 (entries_of (each_logs (logged (block_3 2 0 0 ∷ [])) core)))
      (record { core = refl; serial = refl; ascends = omega arith }, tt);
  mine = by_one (λ core. entries_of (each_logs (logged (block_3 2 0 0 ∷ [])) core)
      ≡ own core (block_3 2 0 0 ∷ [])) refl;
  stamped = by_one (λ core. AreStamped (plain 1) (block_3 2 0 0 ∷ []) core []
      (each_logs (logged (block_3 2 0 0 ∷ [])) core)) (tt, tt);
}
