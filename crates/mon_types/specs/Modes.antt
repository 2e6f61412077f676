-- Whom a core runs for. This project's own.
use Rattle.std.specs.Prelude.{ℕ}
use Rattle.mon_types.specs.declared.thread.Mode.{Mode}
use Rattle.mon_types.specs.declared.thread.Mode.TheVariants as modes

-- the slot of the enclave that a core is inside; no call asks this of the OS
abbrev pub own_slot : Mode → ℕ
own_slot modes.Os = 0
own_slot (modes.Inside e t) = e

-- the slot of the thread by which it is inside; no call asks this of the OS
abbrev pub own_thread : Mode → ℕ
own_thread modes.Os = 0
own_thread (modes.Inside e t) = t
