-- A script over the limit is read as that fault, and so as its first bytes.
use Rattle.std.proofs.Common.{◌≡◌, ℕ, ◌<◌, List, length, Option, Err, refl}
use Rattle.std.proofs.lemmas.Bool.{lt-ltb}
use Rattle.script_read.specs.declared.fault.ScriptFault.TheVariants as faults
use Rattle.script_read.specs.Grammar.{limit}
use Rattle.script_read.specs.Reading.{script_of}

pub long_script : (cores : Option ℕ) (bytes : List ℕ) → limit < length bytes → script_of cores bytes ≡ Err faults.TooLong
unfolding script_of
long_script cores bytes lt = rw (lt-ltb limit (length bytes) lt) refl
