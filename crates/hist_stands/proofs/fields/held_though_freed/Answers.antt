use Rattle.std.proofs.Common.{refl, inl}
use Rattle.hist_stands.proofs.fields.held_though_freed.Goals as goal

pub returns : goal.returns
returns c = record {
  region = inl refl;
  opens = tt;
  alive = λ alive. let is = alive.1 in cc;
}
