-- What a function left behind a reference that it may not have been given.
use Rattle.std.specs.Prelude.{◌⊎◌, Option, Some, None}
use Rattle.std.proofs.Common.{inl, inr}
use Rattle.std.specs.Borrow.{MutBor}

-- None where there was no reference, else the value behind it
abbrev pub left_behind : {T : Type 0} → Unit {0} ⊎ ((MutBor T × Unit {0}) ⊎ ⊥) → Option T
left_behind (inl absent) = None
left_behind (inr (inl given)) = Some given.0.now
left_behind (inr (inr never)) = absurd never
