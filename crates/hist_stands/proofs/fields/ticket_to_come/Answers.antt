use Rattle.std.proofs.Common.{refl, arith}
use Rattle.hist_stands.proofs.fields.ticket_to_come.Goals as goal

pub returns : goal.returns
returns c = record {
  drawn = λ le. omega (arith, le);
  earlier = tt;
  later = tt;
  owned = refl;
  opens = tt;
  fresh = refl;
}
