use Rattle.std.proofs.Common.{refl, inr, arith}
use Rattle.hist_stands.proofs.fields.call_before_undrawn.Goals as goal

pub returns : goal.returns
returns c = record {
  is_core = omega arith;
  other = omega arith;
  drawn = omega arith;
  before = λ all. omega (arith, all.0 (omega arith));
  begun = omega arith;
  under_way = omega arith;
  held = inr (refl, (0, omega arith, refl));
}
