-- Logs that are legal and have stamps stand.
use Rattle.std.proofs.Common.{◌≡◌, ℕ, suc, ◌<◌, List, [], ◌∷◌, length, sym, arith}
use Rattle.std.specs.List.{flat_map, AllByRecursion}
use Rattle.mon_types.specs.Shape.{Shape}
use Rattle.hist.specs.declared.event.Entry.{Entry}
use Rattle.hist.specs.declared.event.Event.{Event}
use Rattle.hist.specs.History.{entries_of, log_of, history}
use Rattle.hist.specs.Legal.{Legal}
use Rattle.hist.proofs.Ordered.{all_weaker, all_joined}
use Rattle.hist.proofs.Ascending.{all_ordered}
use Rattle.hist.proofs.Lawful.{own_core}
use Rattle.hist.proofs.Parts.{own_of_log}
use Rattle.hist_stands.specs.Stamp.{AreStamped}
use Rattle.hist_stands.specs.Stands.{Stands}

-- what holds of the entries of each log holds of all
all_logged : (P : Entry → Type 0) (logs : List (List Event))
    → ((core : ℕ) → core < length logs → AllByRecursion P (entries_of (log_of logs core)))
    → AllByRecursion P (flat_map entries_of logs)
all_logged P [] each = tt
all_logged P (log ∷ logs) each =
    all_joined P (entries_of log) (flat_map entries_of logs) (each 0 (omega arith))
    (all_logged P logs (λ core lt. each (suc core) (omega (arith, lt))))

pub legal_stand : (shape : Shape) (logs : List (List Event)) → Legal shape logs
    → ((core : ℕ) → core < shape.cores → AreStamped shape (history logs) core [] (log_of logs core))
    → Stands shape (history logs) (λ core. log_of logs core)
legal_stand shape logs legal stamped = record {
  legal = record { tickets = legal.tickets; entries = legal.entries };
  cores =
      all_ordered (λ e. e.core < shape.cores) (flat_map entries_of logs)
      (all_logged (λ e. e.core < shape.cores) logs (λ core lt.
      all_weaker (λ e. e.core ≡ core) (λ e. e.core < shape.cores) (λ e is. omega (arith, is, lt, legal.count))
      (entries_of (log_of logs core))
      (own_core core 0 0 (entries_of (log_of logs core)) (legal.own core lt))));
  serials = λ core lt. legal.own core (omega (arith, lt, legal.count));
  mine = λ core lt. sym (own_of_log shape logs legal core (omega (arith, lt, legal.count)));
  stamped = stamped;
}
