use Rattle.std.proofs.Common.{[], refl, inr, arith}
use Rattle.mon_types.specs.Shape.{plain}
use Rattle.hist.specs.History.{history}
use Rattle.hist.specs.Rows.{met_under_way, holds_now, meets_now}
use Rattle.mon_types.proofs.Below.{by_two}
use Rattle.hist_stands.specs.Found.{IsCallNoted}
use Rattle.hist_stands.proofs.runs.noted_under_way.Goals as goal

pub returns-clause-entry : goal.returns-clause-entry
returns-clause-entry c = record {
  entries = (
    (
      0,
      omega arith,
      record {
        is_core = omega arith;
        other = omega arith;
        drawn = omega arith;
        before =
            ((λ lt. omega (arith, lt)), tt);
        begun = omega arith;
        under_way = omega arith;
        held = inr
            (refl, (0, omega arith, refl));
      },
      record
          { before = []; behind = []; planned_are = refl; tried_are = refl },
    ),
    tt,
  );
  calls = by_two (λ core. IsCallNoted (plain 2) (history met_under_way) holds_now core (holds_now core)) tt tt;
}

pub returns-clause-call : goal.returns-clause-call
returns-clause-call c = record {
  entries = tt;
  calls = by_two (λ core. IsCallNoted (plain 2) [] meets_now core (meets_now core)) tt
      (0, record { is_core = omega arith; other = omega arith; drawn = omega arith; before = tt; begun = omega arith; under_way = omega arith; held = inr (refl, (0, omega arith, refl)) });
}
