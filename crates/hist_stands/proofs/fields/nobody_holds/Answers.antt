use Rattle.std.proofs.Common.{arith}
use Rattle.mon_model.specs.Examples.{r3}
use Rattle.hist.proofs.ByHand.{not_held}
use Rattle.hist_stands.proofs.fields.nobody_holds.Goals as goal

pub returns : goal.returns
returns c = record {
  is_core = omega arith;
  other = omega arith;
  drawn = omega arith;
  before = tt;
  begun = omega arith;
  under_way = omega arith;
  held = λ held. not_held _ _ r3 (λ no_entry. no_entry) held;
}
