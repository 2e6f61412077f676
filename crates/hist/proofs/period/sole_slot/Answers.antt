use Rattle.std.proofs.Common.{◌≡◌, ℕ, true, false, Option, Some, ap, sym, ◌∙◌}
use Rattle.std.specs.Option.{unwrap_or}
use Rattle.mon_types.specs.Bits.{has_bit}
use Rattle.hist.proofs.FirstSlot.{slot_here, slot_later}
use Rattle.hist.proofs.period.sole_slot.Goals as goal

pub returns-then-has_bit : goal.returns-then-has_bit
returns-then-has_bit c =
    let bit : has_bit c.args.set c.loop-slot.slot ≡ true = ap (λ (s : ℕ). has_bit s c.loop-slot.slot) (sym c.from.ensures) ∙ sym c.has_bit.ensures ∙ c.if-has_bit.true in
    sym (ap (λ (o : Option ℕ). unwrap_or o 0) (c.loop-slot.invariant ∙ slot_here c.args.set c.loop-slot.slot c.loop-slot-test.true bit))

pub loop-slot-preserved : goal.loop-slot-preserved
loop-slot-preserved c =
    let bit : has_bit c.args.set c.loop-slot.slot ≡ false = ap (λ (s : ℕ). has_bit s c.loop-slot.slot) (sym c.from.ensures) ∙ sym c.has_bit.ensures ∙ c.if-has_bit.false in
    c.loop-slot.invariant ∙ slot_later c.args.set c.loop-slot.slot c.loop-slot-test.true bit
