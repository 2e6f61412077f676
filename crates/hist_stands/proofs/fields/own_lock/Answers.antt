use Rattle.std.proofs.Common.{refl, inl, arith}
use Rattle.hist_stands.proofs.fields.own_lock.Goals as goal

pub returns : goal.returns
returns c = record {
  is_core = omega arith;
  other = λ differ. differ refl;
  drawn = omega arith;
  before = ((λ lt. omega arith), tt);
  begun = omega arith;
  under_way = omega arith;
  held = inl (record { tried = refl; another = λ holder serial is. cc });
}
