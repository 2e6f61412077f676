use Rattle.std.proofs.Common.{refl, inl, arith}
use Rattle.hist_stands.proofs.fields.was_over.Goals as goal

pub returns : goal.returns
returns c = record {
  is_core = omega arith;
  other = omega arith;
  drawn = omega arith;
  before = tt;
  begun = omega arith;
  under_way = λ le. omega (arith, le);
  held = inl (record { tried = refl; another = λ holder serial is. cc });
}
