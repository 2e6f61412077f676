use Rattle.std.proofs.Common.{sym, ap, ◌∙◌}
use Rattle.text_in.specs.Numbers.{capped}
use Rattle.text_in.proofs.Digits.{byte_read, byte_fails, all_digits_read, capped_again}
use Rattle.text_in.proofs.number.digits_value.Goals as goal

pub returns-in_err-add_byte-clause-value : goal.returns-in_err-add_byte-clause-value
returns-in_err-add_byte-clause-value c = rw c.from_residual.ensures (byte_fails c.args.base c.loop-byte.value c.args.digits.now c.loop-byte.byte-index (sym c.is_empty.ensures ∙ c.if-is_empty.false) c.loop-byte-test.true (sym c.add_byte.ensures ∙ c.in_err-add_byte.was) c.loop-byte.invariant.value)

pub loop-byte-preserved : goal.loop-byte-preserved
loop-byte-preserved c = record {
  value = byte_read c.args.base c.loop-byte.value c.in_ok-add_byte.field-0 c.cap-value.result c.args.digits.now c.loop-byte.byte-index _ c.requires c.loop-byte-test.true (sym c.add_byte.ensures ∙ c.in_ok-add_byte.was) c.cap-value.ensures.value c.loop-byte.invariant.value;
  down = c.cap-value.ensures.value ∙ sym (capped_again c.in_ok-add_byte.field-0) ∙ ap capped (sym c.cap-value.ensures.value);
  fits = c.cap-value.ensures.fits;
}

pub returns-clause-value : goal.returns-clause-value
returns-clause-value c = all_digits_read c.args.base c.loop-byte.value c.args.digits.now c.loop-byte.byte-index (sym c.is_empty.ensures ∙ c.if-is_empty.false) c.loop-byte-test.false c.loop-byte.invariant.down c.loop-byte.invariant.value
