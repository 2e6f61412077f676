use Rattle.std.proofs.Common.{[], refl, arith}
use Rattle.protocol.specs.Views.{held_by, held_after, held_of, is_last, call_with, call_moves}
use Rattle.protocol.specs.Passes.{Live, new_view, counted, split_off, views_of, keeps, Behind}
use Rattle.protocol_runs.proofs.passes.split_and_join.Goals as goal

pub returns-clause-split : goal.returns-clause-split
unfolding counted split_off
returns-clause-split c = record {
  front = [];
  own = new_view 0;
  kept = [];
  behind = [];
  passes_are = refl;
  of_first = refl;
  few = omega arith;
  later_are = refl;
}

pub returns-clause-join : goal.returns-clause-join
unfolding views_of keeps call_moves
returns-clause-join c = Behind [] [] [] (Live (new_view 0) 2 []) (Live (new_view 1) 0 []) tt refl refl refl

pub returns-clause-no_third : goal.returns-clause-no_third
returns-clause-no_third c = λ later split. omega (arith, split.few)

pub returns-clause-not_in_call : goal.returns-clause-not_in_call
unfolding held_by held_after held_of is_last call_with call_moves
returns-clause-not_in_call c = λ rest. absurd (cc (rest))
