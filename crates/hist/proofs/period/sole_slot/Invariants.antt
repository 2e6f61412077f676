use Rattle.std.proofs.Common.{◌≡◌, ◌-◌, find}
use Rattle.std.specs.List.{range_with_len}
use Rattle.mon_types.specs.Bits.{has_bit}
use Rattle.hist.proofs.period.sole_slot.Given as goal

abbrev pub invariant-loop-slot : goal.invariant-loop-slot
invariant-loop-slot l = find (has_bit l.set) (range_with_len 0 8) ≡ find (has_bit l.set) (range_with_len l.slot (8 - l.slot))
