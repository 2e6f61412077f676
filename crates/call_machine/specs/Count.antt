-- How many moves a call makes at most. This project's own.
use Rattle.std.specs.Prelude.{ℕ, ◌+◌, ◌-◌, ◌*◌, length}
use Rattle.mon_types.specs.Shape.{Shape}
use Rattle.mon_types.specs.Sizes.{page_words}
use Rattle.mon_types.specs.declared.call.Call.{Call}
use Rattle.mon_types.specs.declared.call.Call.TheVariants as calls
use Rattle.mon_model.specs.Tries.{freed_by}
use Rattle.call_machine.specs.declared.phase.Phase.{Phase}
use Rattle.call_machine.specs.declared.phase.Phase.TheVariants as phases
use Rattle.call_machine.specs.declared.work.Work.{Work}
use Rattle.call_machine.specs.Rest.{region_words_from}

-- the moves of a call in all
abbrev pub most_moves : Shape → Call → ℕ
most_moves shape (calls.Free r) = 200 + page_words * shape.pages
most_moves shape _ = 1200

-- the objects that it tries
abbrev pub most_locks : Call → ℕ
most_locks (calls.Free r) = 17
most_locks (calls.Delete e) = 65
most_locks _ = 2

-- the words of their rows
abbrev pub most_words : Call → ℕ
most_words (calls.Free r) = 18
most_words (calls.Delete e) = 157
most_words _ = 66

-- the words of a page that it loads and stores
abbrev pub most_copied : Call → ℕ
most_copied (calls.LoadPage e va page src perms) = 2 * page_words
most_copied _ = 0

-- the words that it stores 0 in
abbrev pub most_zeros : Shape → Call → ℕ
most_zeros shape (calls.Free r) = page_words * shape.pages
most_zeros shape _ = 0

-- the own-words that it writes early
abbrev pub most_early : Call → ℕ
most_early (calls.Block r) = 65
most_early (calls.Delete e) = 65
most_early _ = 0

-- the page-table entries that it loads and stores
abbrev pub most_ptes : Call → ℕ
most_ptes (calls.LoadTable e va level page) = 4
most_ptes (calls.LoadPage e va page src perms) = 4
most_ptes (calls.Reserve e va page perms) = 4
most_ptes _ = 0

-- what follows the Draw, but for zeros: late writes and unlocks
abbrev pub most_ended : Call → ℕ
most_ended call = most_words call + most_locks call

-- the Draw of an Ok call and what follows
abbrev pub most_drawn : Shape → Call → ℕ
most_drawn shape call = 1 + most_zeros shape call + most_ended call

-- what follows once all objects are held
abbrev pub most_decided : Shape → Call → ℕ
most_decided shape call = most_ptes call + most_copied call + most_early call + most_drawn shape call

-- ---- what is left, by what a call keeps

-- locks that may be tried yet
abbrev pub locks_left : Work → ℕ
locks_left w = most_locks w.call - length w.locks.items

-- words of rows that may be read yet
abbrev pub words_left : Work → ℕ
words_left w = most_words w.call - length w.stood.items

-- by the phase
unfoldable pub phase_left : Work → Phase → ℕ
phase_left w (phases.Tries o) = locks_left w + words_left w + most_decided w.config w.call
phase_left w (phases.Reads o at) = (locks_left w - 1) + words_left w + most_decided w.config w.call
phase_left w (phases.Walks page level left) = left + most_copied w.call + 1 + most_drawn w.config w.call
phase_left w (phases.Loads at) = 2 * (page_words - at) + 1 + most_drawn w.config w.call
phase_left w (phases.Stores at word) = 2 * (page_words - (at + 1)) + 2 + most_drawn w.config w.call
phase_left w (phases.Puts place) = 1 + most_drawn w.config w.call
phase_left w (phases.Early at) = (most_early w.call - at) + most_drawn w.config w.call
phase_left w phases.Refuses = 1 + length w.locks.items
phase_left w phases.Draws = most_drawn w.config w.call
phase_left w (phases.Zeros word) =
    length (region_words_from w.config (freed_by w.call) word) + (length w.stood.items + length w.locks.items)
phase_left w (phases.Late at) = (length w.stood.items - at) + length w.locks.items
phase_left w (phases.Unlocks left) = left
phase_left w phases.Over = 0

-- so many moves are left at most
abbrev pub left : Work → ℕ
left w = phase_left w w.phase
