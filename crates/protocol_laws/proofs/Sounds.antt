-- States are sound: what mon_facts, mon_records and loaded_pages keep, together.
use Rattle.std.proofs.Common.{◌<◌, ℕ, sym, subst, arith}
use Rattle.mon_types.specs.Shape.{Shape}
use Rattle.mon_types.specs.declared.thread.Mode.{Mode}
use Rattle.mon_types.specs.declared.thread.Mode.TheVariants as modes
use Rattle.mon_model.specs.State.{State, start, mode_of}
use Rattle.mon_model.specs.EveryStep.{after_shape}
use Rattle.mon_model.specs.Step.{after}
use Rattle.mon_facts.specs.Tables.{NamesSlots, AreTables}
use Rattle.mon_facts.specs.Facts.{FactsHold}
use Rattle.mon_facts.proofs.TablesKept.{start_sound, after_tables}
use Rattle.mon_facts.proofs.FactsKept.{start_kept, after_kept}
use Rattle.lock_plan.specs.Objects.{IsCaller}
use Rattle.mon_records.proofs.RangesKept.{start_in, after_in}
use Rattle.loaded_pages.proofs.Loads.{content_start, content_stays}
use Rattle.protocol_laws.specs.Sound.{StartIsSound, StaysSound}

caller_in : (m : Shape) (core : ℕ) (mode : Mode) → core < m.cores → NamesSlots mode → IsCaller m core mode
caller_in m core modes.Os there names = record { there = there; slot = omega arith; thread = omega arith }
caller_in m core (modes.Inside e t) there names = record { there = there; slot = names.0; thread = names.1 }

-- a core of the machine is a caller
pub caller_of : (s : State) (core : ℕ) → AreTables s → core < s.shape.cores → IsCaller s.shape core (mode_of s core)
caller_of s core tables there = caller_in s.shape core (mode_of s core) there (tables.slots core modes.Os (let many = tables.whole.modes in omega (arith, many)))

pub start_is_sound : StartIsSound
start_is_sound shape core is there =
    let tables : AreTables (start shape) = start_sound shape is in
    record { ranges = start_in shape; tables = tables; facts = start_kept shape; caller = caller_of (start shape) core tables there; holds = content_start shape }

pub stays_sound : StaysSound
stays_sound core other s content call words digest ticket sound issuer is_call small =
    let tables : AreTables (after s other call digest ticket) = after_tables s other call digest ticket issuer.caller.there sound.tables in
    let facts : FactsHold (after s other call digest ticket) = after_kept s other call digest ticket issuer.caller.there sound.tables sound.facts in
    record {
      ranges = after_in s other call digest ticket sound.tables.machine issuer.caller is_call small sound.ranges;
      tables = tables;
      facts = facts;
      caller = caller_of (after s other call digest ticket) core tables (subst (λ m. core < m.cores) (sym (after_shape s other call digest ticket)) sound.caller.there);
      holds = content_stays s content other call words digest ticket sound.tables.whole sound.facts facts sound.holds;
    }
