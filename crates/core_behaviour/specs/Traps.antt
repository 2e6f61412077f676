-- Traps: what a core does at one, in a line or in a turn. This project's own.
use Rattle.std.specs.Prelude.{ℕ, Bool, true, false, ◌&&◌}
use Rattle.mon_types.specs.Shape.{Shape}
use Rattle.mon_types.specs.declared.thread.Mode.{Mode}
use Rattle.mon_types.specs.declared.thread.Mode.TheVariants as modes
use Rattle.hist.specs.declared.event.Why.{Why}
use Rattle.hist.specs.declared.event.Why.TheVariants as whys
use Rattle.protocol.specs.declared.action.Move.TheVariants as moves
use Rattle.core_behaviour.specs.Course.{Course, Acts}
use Rattle.core_behaviour.specs.Core.{Core, mode_now, made}
use Rattle.core_behaviour.specs.Exits.{exits}

-- what follows a turn, or a part of one: it has the core, and whether the `run` line ends there
abbrev pub Turned : Type 0
Turned = Core → Bool → Course

-- whether a core goes from an enclave to the OS, between these two modes
abbrev pub leaves_enclave : Mode → Mode → Bool
leaves_enclave (modes.Inside e t) modes.Os = true
leaves_enclave (modes.Inside e t) (modes.Inside f u) = false
leaves_enclave modes.Os mode = false

-- whether a core that was the first comes back, as the second, to the OS from an enclave that a script line entered
abbrev pub came_back : Core → Core → Bool
came_back before after = leaves_enclave (mode_now before) (mode_now after) && before.by_line

-- a stop at line n is logged, in private work; what follows has the core
abbrev pub stops : ℕ → Why → Core → (Core → Course) → Course
stops n why c next = Acts (moves.Stop n why) (λ outcome. next (made c (moves.Stop n why) outcome))

-- A trap at line n leaves pc and registers as they were. In OS mode it is logged, and a `run` line ends there; in an
-- enclave it is an exit, and a `run` line ends there where the core comes back from an enclave that a line entered.
abbrev pub traps_in : Mode → Shape → ℕ → ℕ → ℕ → Core → Turned → Course
traps_in modes.Os shape n cause value c next =
    stops n (whys.Trap cause value) c (λ d. next d true)
traps_in (modes.Inside e t) shape n cause value c next =
    exits shape c.pending (record { cause = cause; value = value }) c (λ d. next d (came_back c d))

-- a trap in the mode that stands now
abbrev pub traps : Shape → ℕ → ℕ → ℕ → Core → Turned → Course
traps shape n cause value c next = traps_in (mode_now c) shape n cause value c next
