use Rattle.std.proofs.Common.{refl, arith}
use Rattle.hist_stands.proofs.fields.second_touch.Goals as goal

pub returns : goal.returns
returns c = record {
  drawn = omega arith;
  earlier = tt;
  later = tt;
  owned = refl;
  opens = tt;
  fresh = λ is. cc;
}
