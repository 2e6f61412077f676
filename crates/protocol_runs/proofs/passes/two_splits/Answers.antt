use Rattle.std.proofs.Common.{[], ◌∷◌, refl, arith}
use Rattle.protocol.specs.Passes.{Live, new_view, counted, split_off}
use Rattle.protocol_runs.proofs.passes.two_splits.Goals as goal

pub returns-clause-first : goal.returns-clause-first
unfolding counted split_off
returns-clause-first c = record {
  front = [];
  own = new_view 0;
  kept = [];
  behind = [];
  passes_are = refl;
  of_first = refl;
  few = omega arith;
  later_are = refl;
}

pub returns-clause-second : goal.returns-clause-second
unfolding counted split_off
returns-clause-second c = record {
  front = [];
  own = new_view 0;
  kept = [];
  behind = Live (new_view 1) 0 [] ∷ [];
  passes_are = refl;
  of_first = refl;
  few = omega arith;
  later_are = refl;
}
