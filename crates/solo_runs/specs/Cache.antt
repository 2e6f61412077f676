-- Ends of runs that use the translation cache. This project's own.
use Rattle.std.specs.Prelude.{ℕ, true, false, List, [], ◌∷◌}
use Rattle.mon_types.specs.declared.call.Call.{Call}
use Rattle.mon_types.specs.declared.script.Line.TheVariants as lines
use Rattle.mon_model.specs.State.{with_thread}
use Rattle.tlb.specs.declared.entry.Entry.{Entry}
use Rattle.tlb.specs.Cache.{entry_of}
use Rattle.core_access.specs.Touched.{touch_of}
use Rattle.solo.specs.Core.{Core}
use Rattle.solo_runs.specs.Machines.{at, os_core, inside_state, ready_core, inside_core, after_lines}
use Rattle.solo_runs.specs.GuestCalls.{saved_thread}

-- a core with these translations
abbrev pub with_cache : Core → List Entry → Core
with_cache c entries = record c { guest = record c.guest { cache = entries } }

-- an old translation of the address 0x8000_1000 to page 3, which permits loads alone
abbrev pub to_page_3 : Entry
to_page_3 = entry_of 0x80001 3 true false false

-- a load by it, where page 3 begins with 33
abbrev pub loaded_by_old : Core
loaded_by_old = after_lines (with_cache (os_core (at 1536 33 ∷ [])) (to_page_3 ∷ [])) (lines.LoadWord 0x8000_1000 ∷ [])

-- a store, which it forbids
abbrev pub stored_past_old : Core
stored_past_old =
    after_lines (with_cache (os_core (at 1536 33 ∷ [])) (to_page_3 ∷ [])) (lines.StoreWord 0x8000_1000 5 ∷ [])

-- a translation of the virtual page of this number
abbrev pub of_page : ℕ → Entry
of_page vpn = entry_of vpn 0 true true true

-- a load from 0x8000_0000, whose virtual page is of set 0, where four of that set and one of another are there
abbrev pub filled_in : Core
filled_in =
    after_lines
    (with_cache (os_core []) (of_page 0 ∷ of_page 4 ∷ of_page 8 ∷ of_page 12 ∷ of_page 1 ∷ []))
    (lines.LoadWord 0x8000_0000 ∷ [])

-- a core with a translation and a touch
abbrev pub used : Core → Core
used c = record c { guest = record c.guest { cache = to_page_3 ∷ []; touches = touch_of 3 0 ∷ [] } }

-- after this call of the OS
abbrev pub used_by_os : Call → Core
used_by_os call = after_lines (used (ready_core 0)) (lines.Make call ∷ [])

-- after this call in an enclave whose thread has something saved
abbrev pub used_inside : Call → Core
used_inside call =
    after_lines (used (record (inside_core true 0) { state = with_thread inside_state 0 saved_thread }))
    (lines.Make call ∷ [])

-- after a tick there
abbrev pub used_and_ticked : Core
used_and_ticked = after_lines (used (inside_core true 0)) (lines.Tick ∷ [])
