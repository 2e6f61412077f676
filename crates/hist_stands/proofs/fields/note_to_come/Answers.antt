use Rattle.std.proofs.Common.{refl, inr, arith}
use Rattle.hist_stands.proofs.fields.note_to_come.Goals as goal

pub returns : goal.returns
returns c = record {
  is_core = omega arith;
  other = omega arith;
  drawn = λ le. omega (arith, le);
  before = tt;
  begun = omega arith;
  under_way = omega arith;
  held = inr (refl, (0, omega arith, refl));
}
