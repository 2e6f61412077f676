use Rattle.std.proofs.Common.{refl}
use Rattle.hist_stands.proofs.ByHand.{not_below}
use Rattle.hist_stands.proofs.fields.flushed_since.Goals as goal

pub returns : goal.returns
returns c = record {
  region = λ region. not_below region;
  opens = tt;
  alive = (refl, refl);
}
