use Rattle.std.proofs.Common.{sym, ◌∙◌, arith}
use Rattle.mon_types.proofs.Sets.{room_for_bit}
use Rattle.mon_types.proofs.bits.with_bit.Goals as goal

pub overflow_add-result : goal.overflow_add-result
overflow_add-result c =
    omega (arith, room_for_bit c.args.set c.args.i c.requires c.ranges.set.fits (sym c.has_bit.ensures ∙ c.if-has_bit.false))
