use Rattle.std.proofs.Common.{◌≡◌, [], refl, arith}
use Rattle.mon_types.specs.Shape.{plain}
use Rattle.mon_types.specs.declared.region.Owner.TheVariants as owners
use Rattle.hist.specs.History.{entries_of}
use Rattle.hist.specs.Legal.{AreOwn}
use Rattle.hist.specs.Busy.{own}
use Rattle.mon_types.proofs.Below.{by_two}
use Rattle.hist_stands.specs.Stamp.{AreStamped}
use Rattle.hist_stands.specs.Runs.{stale_logs, stale_history}
use Rattle.hist_stands.proofs.ByHand.{none_behind_flush}
use Rattle.hist_stands.proofs.runs.touch_before_the_block.Goals as goal

pub returns-clause-stands : goal.returns-clause-stands
returns-clause-stands c = record {
  legal = record {
    tickets = (refl, (refl, (refl, (refl, (refl, tt)))));
    entries = (
      record { reply = λ _. refl; tried = λ _. refl; page = refl },
      (
        record { reply = λ _. refl; tried = λ _. refl; page = refl },
        (
          record { reply = λ _. refl; tried = λ _. refl; page = refl },
          (
            record { reply = λ _. refl; tried = λ _. refl; page = refl },
            (record { reply = λ _. refl; tried = λ _. refl; page = refl }, tt),
          ),
        ),
      ),
    );
  };
  cores = (omega arith, (omega arith, (omega arith, (omega arith, (omega arith, tt)))));
  serials = by_two (λ core. AreOwn core 0 0 (entries_of (stale_logs core))) (
    record { core = refl; serial = refl; ascends = omega arith },
    (
      record { core = refl; serial = refl; ascends = omega arith },
      (
        record { core = refl; serial = refl; ascends = omega arith },
        (record { core = refl; serial = refl; ascends = omega arith }, tt),
      ),
    ),
  )
      (record { core = refl; serial = refl; ascends = omega arith }, tt);
  mine = by_two (λ core. entries_of (stale_logs core) ≡ own core stale_history) refl refl;
  stamped = by_two (λ core. AreStamped (plain 2) stale_history core [] (stale_logs core))
      (tt, (tt, (tt, (tt, tt)))) (
        (
          owners.Os,
          0,
          record
              { drawn = omega arith; earlier = tt; later = (omega arith, tt); owned = refl; opens = tt; fresh = refl },
        ),
        (tt, tt),
      );
}

pub returns-clause-moved : goal.returns-clause-moved
returns-clause-moved c = λ stands. none_behind_flush (stands.stamped 1 (omega arith)).1.0
