-- Small histories and logs written out by hand, on the plain machine. This project's own.
use Rattle.std.specs.Prelude.{ℕ, List, [], ◌∷◌}
use Rattle.hist.specs.declared.event.Entry.{Entry}
use Rattle.hist.specs.declared.event.Event.{Event}
use Rattle.hist.specs.History.{entries_of, log_of, history}
use Rattle.hist.specs.Rows.{block_3, flushed, free_3, before_foreign, stale_translation, moved_touch, behind_early}

-- the same log for each core: on one core, its log
abbrev pub each_logs : List Event → ℕ → List Event
each_logs log core = log

-- core 1 has touched region 3 before core 0 blocked it, and flushed before it was freed: the logs, core by core
abbrev pub stale_logs : ℕ → List Event
stale_logs core = log_of stale_translation core

-- and the history of all entries
abbrev pub stale_history : List Entry
stale_history = history stale_translation

-- the same logs, but the touch stands behind the flush
abbrev pub moved_logs : ℕ → List Event
moved_logs core = log_of moved_touch core

-- and the history of all entries
abbrev pub moved_history : List Entry
moved_history = history moved_touch

-- the region is blocked, flushed, freed and assigned to the OS again, on one core
abbrev pub again_assigned : List Entry
again_assigned = entries_of behind_early

-- enclave 0 owns the region, on one core, which is outside
abbrev pub foreign : List Entry
foreign = entries_of before_foreign

-- the region is blocked
abbrev pub blocked : List Entry
blocked = block_3 1 0 0 ∷ []

-- and its core has flushed
abbrev pub blocked_and_flushed : List Entry
blocked_and_flushed = block_3 1 0 0 ∷ flushed 2 0 1 ∷ []

-- and it is freed
abbrev pub freed : List Entry
freed = block_3 1 0 0 ∷ flushed 2 0 1 ∷ free_3 3 0 2 ∷ []
