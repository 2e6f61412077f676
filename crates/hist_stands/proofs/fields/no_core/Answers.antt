use Rattle.std.proofs.Common.{refl, inl, arith}
use Rattle.hist_stands.proofs.fields.no_core.Goals as goal

pub returns : goal.returns
returns c = record {
  is_core = λ lt. omega (arith, lt);
  other = omega arith;
  drawn = omega arith;
  before = ((λ lt. omega (arith, lt)), tt);
  begun = omega arith;
  under_way = omega arith;
  held = inl (record { tried = refl; another = λ holder serial is. cc });
}
