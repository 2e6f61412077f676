use Rattle.std.proofs.Common.{◌≡◌, ◌<◌, drop, map, length, slice_get}
use Rattle.call_machine.specs.Rest.{places}
use Rattle.call_machine.proofs.places.place_of.Given as goal

-- the place is so far on in the rows that are left
abbrev pub invariant-loop-lock : goal.invariant-loop-lock
invariant-loop-lock l = record {
  same : slice_get (places (map (λ x. x.object) l.locks)) l.at ≡ slice_get (places (map (λ x. x.object) (drop l.lock-index l.locks))) l.rest;
  within : l.rest < length (places (map (λ x. x.object) (drop l.lock-index l.locks)));
}
