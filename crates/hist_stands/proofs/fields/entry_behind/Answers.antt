use Rattle.std.proofs.Common.{refl, arith}
use Rattle.hist_stands.proofs.fields.entry_behind.Goals as goal

pub returns : goal.returns
returns c = record {
  drawn = omega arith;
  earlier = tt;
  later = λ all. omega (arith, all.0);
  owned = refl;
  opens = tt;
  fresh = refl;
}
