use Rattle.std.proofs.Common.{◌≡◌, ◌≤◌, ℕ, zero, suc, replicate, sym, subst, arith}
use Rattle.std.proofs.lemmas.List.{length-replicate}
use Rattle.mon_types.specs.declared.script.Line.{Line}
use Rattle.mon_types.specs.declared.script.Line.TheVariants as lines
use Rattle.mon_types.specs.declared.call.Call.TheVariants as calls
use Rattle.core_machine.specs.Scripted.{IsScriptedLine, AreScripted}
use Rattle.core_machine.specs.Start.{AreLines}
use Rattle.core_machine.proofs.tests.a_limit_where_fewer_than_80_events_are_left.Goals as goal

-- a line as often as it stands
all_same : (n : ℕ) (line : Line) → IsScriptedLine line → AreScripted (replicate n line)
all_same zero line is = tt
all_same (suc n) line is = (is, all_same n line is)

many : (n : ℕ) (line : Line) → IsScriptedLine line → n ≤ 1048576 → AreLines (replicate n line)
many n line is few = record { few = subst (λ k. k ≤ 1048576) (sym (length-replicate n line)) few; scripted = all_same n line is }

pub machine-requires : goal.machine-requires
machine-requires g c = subst AreLines (sym c.in_ok-lines.ensures) (many 16306 (lines.Make calls.Exit) tt (omega arith))
