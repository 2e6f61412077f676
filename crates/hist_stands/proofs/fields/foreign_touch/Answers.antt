use Rattle.std.proofs.Common.{refl, arith}
use Rattle.hist_stands.proofs.fields.foreign_touch.Goals as goal

pub returns : goal.returns
returns c = record {
  drawn = omega arith;
  earlier = (omega arith, (omega arith, (omega arith, (omega arith, (omega arith, tt)))));
  later = tt;
  owned = refl;
  opens = λ no_enclave. no_enclave;
  fresh = refl;
}
