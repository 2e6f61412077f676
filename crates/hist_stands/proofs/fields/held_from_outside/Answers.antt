use Rattle.std.proofs.Common.{refl, inl}
use Rattle.hist_stands.proofs.fields.held_from_outside.Goals as goal

pub returns : goal.returns
returns c = record {
  region = inl refl;
  opens = λ no_enclave. no_enclave;
  alive = (refl, refl);
}
