-- Which calls of a depot or a sink in memory are made to fail. All of it is this project's own.
use Rattle.std.specs.Prelude.{ℕ, Bool, List, nat_eq}
use Rattle.std.specs.Global.{Vec}
use Rattle.std.specs.List.{list_any}
use Rattle.sm_ports.specs.declared.failures.Failures.{Failures}
use Rattle.sm_ports.specs.Causes.{one_more}

-- these calls are listed, and none was made yet
abbrev pub before_calls : Vec ℕ → Failures
before_calls listed = record { listed = listed; next = 0 }

-- a call's number is listed
abbrev pub is_listed_call : List ℕ → ℕ → Bool
is_listed_call listed call = list_any (λ number. nat_eq number call) listed

-- the next call is made to fail
abbrev pub is_listed : Failures → Bool
is_listed f = is_listed_call f.listed.items f.next

-- one call later
abbrev pub after_call : Failures → Failures
after_call f = record f { next = one_more f.next }
