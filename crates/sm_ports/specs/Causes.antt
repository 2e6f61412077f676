-- Counts of faults, and the answers that they explain. All of it is this project's own.
use Rattle.std.specs.Prelude.{ℕ, ◌+◌, ◌-◌, ◌^◌, ◌≤◌, min, Result, OnErr, is_err, if◌then◌else◌}

-- one more than a count; one that stands at the end of a 64-bit number stays there
abbrev pub one_more : ℕ → ℕ
one_more count = min (count + 1) (2 ^ 64 - 1)

-- a count rose during a call, or stands at the end of its type
abbrev pub Rose : ℕ → ℕ → Type 0
Rose before now = one_more before ≤ now

-- the count never falls, and the call fails only where it rose
pub record HasCause {T E : Type 0} (before now : ℕ) (result : Result T E) : Type 0 where
  pub later : before ≤ now
  pub failed : OnErr result (Rose before now)

-- a count after a call: one more where the call failed, and as before where it did not
abbrev pub counted : {T E : Type 0} → Result T E → ℕ → ℕ
counted result count = if is_err result then one_more count else count
