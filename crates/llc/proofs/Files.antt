-- A trace over the limit is read as that fault, and so as its first bytes.
use Rattle.std.proofs.Common.{◌≡◌, ℕ, ◌<◌, List, length, Err, refl}
use Rattle.std.proofs.lemmas.Bool.{lt-ltb}
use Rattle.llc.specs.declared.fault.TraceFault.TheVariants as faults
use Rattle.llc.specs.Grammar.{limit}
use Rattle.llc.specs.Reading.{trace_of}

pub long_trace : (bytes : List ℕ) → limit < length bytes → trace_of bytes ≡ Err faults.TooLong
unfolding trace_of
long_trace bytes lt = rw (lt-ltb limit (length bytes) lt) refl
