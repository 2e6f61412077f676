use Rattle.std.proofs.Common.{◌≡◌, ◌<◌, ◌+◌, ◌^◌, drop}
use Rattle.std.specs.Option.{option_map}
use Rattle.text_in.specs.Numbers.{with_bytes, capped}
use Rattle.text_in.proofs.number.digits_value.Given as goal

abbrev pub invariant-loop-byte : goal.invariant-loop-byte
invariant-loop-byte l = record {
  value : option_map capped (with_bytes l.base l.value (drop l.byte-index l.digits)) ≡ option_map capped (with_bytes l.base 0 l.digits);
  down : l.value ≡ capped l.value;
  fits : l.value < 2 ^ 66 + 4;
}
