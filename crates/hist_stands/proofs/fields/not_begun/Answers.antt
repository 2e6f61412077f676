use Rattle.std.proofs.Common.{refl, inl, arith}
use Rattle.hist_stands.proofs.fields.not_begun.Goals as goal

pub returns : goal.returns
returns c = record {
  is_core = omega arith;
  other = omega arith;
  drawn = omega arith;
  before = tt;
  begun = λ le. omega (arith, le);
  under_way = omega arith;
  held = inl (record { tried = refl; another = λ holder serial is. cc });
}
