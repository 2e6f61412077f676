use Rattle.std.proofs.Common.{refl, arith}
use Rattle.hist_stands.proofs.fields.blocked_touch.Goals as goal

pub returns : goal.returns
returns c = record {
  drawn = omega arith;
  earlier = (omega arith, tt);
  later = tt;
  owned = λ is. cc;
  opens = tt;
  fresh = refl;
}
