use Rattle.std.proofs.Common.{refl, arith}
use Rattle.hist_stands.proofs.fields.entry_before.Goals as goal

pub returns : goal.returns
returns c = record {
  drawn = omega arith;
  earlier = λ all. omega (arith, all.0);
  later = tt;
  owned = refl;
  opens = tt;
  fresh = refl;
}
