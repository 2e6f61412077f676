-- What the sinks in memory have taken, how a put ends, and what it counts. All of it is this
-- project's own.
use Rattle.std.specs.Prelude.{ℕ, ◌-◌, Bool, ◌||◌, ◌&&◌, List, Option, Some, None, length, min, nat_eq, nat_lt, if◌then◌else◌}
use Rattle.sm_ports.specs.Failures.{is_listed}
use Rattle.sm_ports.specs.declared.failures.Failures.{Failures}
use Rattle.sm_ports.specs.declared.sinks.VecSink.{VecSink}
use Rattle.sm_ports.specs.declared.sinks.StillSink.{StillSink}
use Rattle.sm_ports.specs.declared.sinks.DripSink.{DripSink}

-- the bytes that a `VecSink` has taken
abbrev pub taken_bytes : VecSink → List ℕ
taken_bytes s = s.taken.items

-- the faults that a `VecSink` has counted
abbrev pub faults_of : VecSink → ℕ
faults_of s = s.faults

-- which calls of a `VecSink` are made to fail, and how many there were
abbrev pub failures_of : VecSink → Failures
failures_of s = s.failures

-- how many bytes a `VecSink` takes in all
abbrev pub room_of : VecSink → ℕ
room_of s = s.room

-- how many bytes more a `VecSink` takes
abbrev pub room_left : VecSink → ℕ
room_left s = room_of s - length (taken_bytes s)

-- a `VecSink` fails its next call, which gives it `count` bytes: it is made to, or it has no room left
-- for any of them
abbrev pub fails_put : VecSink → ℕ → Bool
fails_put s count = is_listed (failures_of s) || (nat_eq (room_left s) 0 && nat_lt 0 count)

-- how many of `count` bytes a `VecSink` takes at its next call, where it does not fail
abbrev pub put_size : VecSink → ℕ → Option ℕ
put_size s count = if fails_put s count then None else Some (min (room_left s) count)

-- the sink that a `DripSink` gives what it takes
abbrev pub whole_of : DripSink → VecSink
whole_of s = s.whole

-- how many bytes a `DripSink` takes at most
abbrev pub most_of : DripSink → ℕ
most_of s = s.most

-- the first bytes that a `StillSink` was given, which it keeps
abbrev pub kept_bytes : StillSink → List ℕ
kept_bytes s = s.kept.items

-- how many bytes a `StillSink` was given
abbrev pub given_count : StillSink → ℕ
given_count s = s.given
