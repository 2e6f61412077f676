-- Runs written out by hand, on the plain machine: runs that are as they should be, and runs that one field alone of
-- a definition refuses. This project's own.
use Rattle.std.specs.Prelude.{ℕ, zero, suc, List, [], ◌∷◌, ◌++◌, map, replicate, Option, Some, None}
use Rattle.mon_types.specs.declared.region.Owner.TheVariants as owners
use Rattle.mon_types.specs.declared.call.Call.{Call}
use Rattle.mon_types.specs.declared.call.Call.TheVariants as calls
use Rattle.mon_types.specs.declared.reply.Reply.{Reply}
use Rattle.mon_types.specs.declared.reply.Reply.TheVariants as replies
use Rattle.mon_types.specs.declared.object.ObjectId.{ObjectId}
use Rattle.mon_types.specs.declared.object.ObjectId.TheVariants as objects
use Rattle.mon_types.specs.Owns.{os_word}
use Rattle.mon_types.specs.Replies.{done}
use Rattle.mon_model.specs.Examples.{r3, c0, c1}
use Rattle.mon_model.specs.Tries.{tried_set}
use Rattle.hist.specs.declared.event.PageInput.{PageInput}
use Rattle.hist.specs.declared.event.Entry.{Entry}
use Rattle.hist.specs.declared.event.Event.{Event}
use Rattle.hist.specs.declared.event.Event.TheVariants as events
use Rattle.hist.specs.declared.period.Period.{Period}
use Rattle.hist.specs.Busy.{UnderWay, Nothing, Taking, Refused}

-- ---- entries

-- an entry of these parts
abbrev pub entry_with : Option PageInput → ℕ → ℕ → ℕ → Call → Reply → List ObjectId → Entry
entry_with page ticket core serial call reply tried =
    record {
      ticket = ticket;
      core = core;
      serial = serial;
      call = call;
      page = page;
      reply = reply;
      tried = tried_set tried;
    }

-- one that read no page
abbrev pub entry : ℕ → ℕ → ℕ → Call → Reply → List ObjectId → Entry
entry ticket core serial call reply tried = entry_with None ticket core serial call reply tried

-- at this ticket, by this core, with this serial of its own: an Ok block of region 3
abbrev pub block_3 : ℕ → ℕ → ℕ → Entry
block_3 ticket core serial = entry ticket core serial (calls.Block 3) done (r3 ∷ [])

-- an Ok flush
abbrev pub flushed : ℕ → ℕ → ℕ → Entry
flushed ticket core serial = entry ticket core serial calls.Flush done (objects.Cell core ∷ [])

-- an Ok free of region 3 on one core
abbrev pub free_3 : ℕ → ℕ → ℕ → Entry
free_3 ticket core serial = entry ticket core serial (calls.Free 3) done (r3 ∷ c0 ∷ [])

-- an Ok free of region 3 on two cores
abbrev pub both_freed : ℕ → ℕ → ℕ → Entry
both_freed ticket core serial = entry ticket core serial (calls.Free 3) done (r3 ∷ c0 ∷ c1 ∷ [])

-- one that is refused
abbrev pub not_freed : ℕ → ℕ → ℕ → Entry
not_freed ticket core serial = entry ticket core serial (calls.Free 3) replies.NotFlushed (r3 ∷ c0 ∷ c1 ∷ [])

-- an Ok assign of region 3 to the OS
abbrev pub assigned_to_os : ℕ → ℕ → ℕ → Entry
assigned_to_os ticket core serial = entry ticket core serial (calls.Assign 3 os_word) done (r3 ∷ [])

-- an Ok create of enclave 0
abbrev pub create_0 : ℕ → ℕ → ℕ → Entry
create_0 ticket core serial = entry ticket core serial (calls.Create 0 65536 16384) done (objects.Enclave 0 ∷ [])

-- an Ok assign of region 3 to enclave 0
abbrev pub assigned_to_0 : ℕ → ℕ → ℕ → Entry
assigned_to_0 ticket core serial = entry ticket core serial (calls.Assign 3 0) done (objects.Enclave 0 ∷ r3 ∷ [])

-- a block of region 3 that finds it held by this core's call with that serial
abbrev pub met : ℕ → ℕ → ℕ → ℕ → ℕ → Entry
met ticket core serial holder theirs =
    entry ticket core serial (calls.Block 3) (replies.ConcurrentCall r3 holder theirs) (r3 ∷ [])

-- a log of entries alone
abbrev pub logged : List Entry → List Event
logged es = map (λ e. events.Entry e) es

-- ---- as they should be

-- core 1 meets the lock that core 0 has taken for its block
abbrev pub lost_race : List (List Event)
lost_race = logged (block_3 2 0 0 ∷ []) ∷ logged (met 1 1 0 0 0 ∷ []) ∷ []

-- core 1's flush meets core 0's free, which holds both cells
abbrev pub free_meets_flush : List (List Event)
free_meets_flush =
    logged (block_3 1 0 0 ∷ not_freed 3 0 1 ∷ [])
    ∷ logged (entry 2 1 0 calls.Flush (replies.ConcurrentCall c1 0 1) (c1 ∷ []) ∷ flushed 4 1 1 ∷ [])
    ∷ []

-- core 1 touches region 3 before its block and flushes between that and its free
abbrev pub stale_translation : List (List Event)
stale_translation =
    logged (block_3 1 0 0 ∷ flushed 2 0 1 ∷ not_freed 3 0 2 ∷ both_freed 5 0 3 ∷ [])
    ∷ (events.Touch 3 0 ∷ logged (flushed 4 1 0 ∷ []))
    ∷ []

-- the same, but the touch stands behind the flush: legal, but not safe
abbrev pub moved_touch : List (List Event)
moved_touch =
    logged (block_3 1 0 0 ∷ flushed 2 0 1 ∷ not_freed 3 0 2 ∷ both_freed 5 0 3 ∷ [])
    ∷ (logged (flushed 4 1 0 ∷ []) ++ events.Touch 3 0 ∷ [])
    ∷ []

-- core 1 has met the lock that core 0's call under way has taken, with and without its entry
abbrev pub met_under_way : List (List Event)
met_under_way = [] ∷ logged (met 1 1 0 0 0 ∷ []) ∷ []

-- core 0 has taken region 3 and not drawn yet
abbrev pub holds_now : ℕ → UnderWay
holds_now zero = Taking (r3 ∷ [])
holds_now (suc core) = Nothing

-- and core 1 has met its lock
abbrev pub meets_now : ℕ → UnderWay
meets_now zero = Taking (r3 ∷ [])
meets_now (suc core) = Refused (calls.Block 3) [] r3 0 0

-- ---- refused by a field of `Legal`, of its entries or of an entry of a log

-- `count`: a second log on one core
abbrev pub second_log : List (List Event)
second_log = logged (block_3 1 0 0 ∷ []) ∷ [] ∷ []

-- `tickets`: the first ticket is 2
abbrev pub late_ticket : List (List Event)
late_ticket = logged (block_3 2 0 0 ∷ []) ∷ []

-- `core`: an entry of core 1 in core 0's log
abbrev pub anothers_entry : List (List Event)
anothers_entry = logged (block_3 1 1 0 ∷ []) ∷ [] ∷ []

-- `serial`: the first serial is 1
abbrev pub late_serial : List (List Event)
late_serial = logged (block_3 1 0 1 ∷ []) ∷ []

-- `ascends`: the later entry has the lower ticket
abbrev pub falling_tickets : List (List Event)
falling_tickets = logged (flushed 2 0 0 ∷ flushed 1 0 1 ∷ []) ∷ []

-- `reply`: a block of an owned region that answers InvalidState
abbrev pub wrongly_refused : Entry
wrongly_refused = entry 1 0 0 (calls.Block 3) replies.InvalidState (r3 ∷ [])

-- `tried`: a block that tries nothing
abbrev pub tries_nothing : Entry
tries_nothing = entry 1 0 0 (calls.Block 3) done []

-- `page`: a block with a page
abbrev pub has_a_page : Entry
has_a_page = entry_with (Some record { digest = replicate 32 0; at = 0 }) 1 0 0 (calls.Block 3) done (r3 ∷ [])

-- a history of this one entry, on one core
abbrev pub alone : Entry → List (List Event)
alone e = logged (e ∷ []) ∷ []

-- ---- refused by a field of `Busy`, of an entry that met a held lock, or of the call that holds it

-- `core`: the holder is no core of the machine, though its call has an entry
abbrev pub no_core : List (List Event)
no_core = logged (block_3 2 2 0 ∷ []) ∷ logged (met 1 1 0 2 0 ∷ []) ∷ []

-- `other`: core 1 meets its own lock
abbrev pub own_lock : List (List Event)
own_lock = [] ∷ logged (block_3 1 1 0 ∷ met 2 1 1 1 0 ∷ []) ∷ []

-- `tried`: the call names a lock that it has not tried
abbrev pub names_untried : Entry
names_untried = entry 1 1 0 (calls.Block 3) (replies.ConcurrentCall r3 0 0) []

-- so does core 1, while core 0 blocks the region
abbrev pub untried_lock : List (List Event)
untried_lock = logged (block_3 2 0 0 ∷ []) ∷ logged (names_untried ∷ []) ∷ []

-- `held`: the holder has no such call
abbrev pub no_call : List (List Event)
no_call = [] ∷ logged (met 1 1 0 0 0 ∷ []) ∷ []

-- `held`, by its `tried`: the holder's call tried another object
abbrev pub other_object : List (List Event)
other_object = logged (flushed 2 0 0 ∷ []) ∷ logged (met 1 1 0 0 0 ∷ []) ∷ []

-- `held`, by its `another`: the holder's call met that lock itself
abbrev pub both_met : List (List Event)
both_met = logged (met 2 0 0 1 0 ∷ []) ∷ logged (met 1 1 0 0 0 ∷ []) ∷ []

-- `begun`: the holder's call before that one came later
abbrev pub not_begun : List (List Event)
not_begun = logged (flushed 2 0 0 ∷ block_3 3 0 1 ∷ []) ∷ logged (met 1 1 0 0 1 ∷ []) ∷ []

-- `under_way`: the holder's call behind that one came before core 1's first
abbrev pub was_over : List (List Event)
was_over = logged (block_3 1 0 0 ∷ flushed 2 0 1 ∷ []) ∷ logged (flushed 3 1 0 ∷ met 4 1 1 0 0 ∷ []) ∷ []

-- `refused`: core 1 has found a lock held by a core that has nothing under way
abbrev pub nobody_holds : ℕ → UnderWay
nobody_holds zero = Nothing
nobody_holds (suc core) = Refused (calls.Block 3) [] r3 0 0

-- ---- refused by a field of `SafeLog`

-- the period (3, a) of the OS, with its end and its free
abbrev pub period_of_3 : ℕ → Option ℕ → Option ℕ → Period
period_of_3 a b z = record { region = 3; owner = owners.Os; since = a; blocked = b; freed = z }

-- `region`: the machine has no region 200
abbrev pub nowhere : List (List Event)
nowhere = (events.Touch 200 0 ∷ []) ∷ []

-- `period`: none of region 3 began at 5
abbrev pub no_period : List (List Event)
no_period = (events.Touch 3 5 ∷ []) ∷ []

-- `before_block`: core 1 has an entry behind the block, and then touches
abbrev pub late_touch : List (List Event)
late_touch = logged (block_3 1 0 0 ∷ []) ∷ (logged (flushed 2 1 0 ∷ []) ++ events.Touch 3 0 ∷ []) ∷ []

-- `after_beginning`: the entries up to the one at which the period begins
abbrev pub behind_early : List Event
behind_early = logged (block_3 1 0 0 ∷ flushed 2 0 1 ∷ free_3 3 0 2 ∷ assigned_to_os 4 0 3 ∷ [])

-- the touch stands before them all
abbrev pub early_touch : List (List Event)
early_touch = (events.Touch 3 4 ∷ behind_early) ∷ []

-- `owner`: the entries by which region 3 becomes that of enclave 0
abbrev pub before_foreign : List Event
before_foreign = logged (block_3 1 0 0 ∷ flushed 2 0 1 ∷ free_3 3 0 2 ∷ create_0 4 0 3 ∷ assigned_to_0 5 0 4 ∷ [])

-- its period
abbrev pub foreign_period : Period
foreign_period = record { region = 3; owner = owners.Enclave 0; since = 5; blocked = None; freed = None }

-- the OS touches it
abbrev pub foreign_touch : List (List Event)
foreign_touch = (before_foreign ++ events.Touch 3 5 ∷ []) ∷ []

-- `counted_flush`: core 1 does not flush between the block and the free
abbrev pub never_flushed : List (List Event)
never_flushed = logged (block_3 1 0 0 ∷ flushed 2 0 1 ∷ both_freed 3 0 2 ∷ []) ∷ (events.Touch 3 0 ∷ []) ∷ []

-- `cleared`: the same touch twice
abbrev pub touched_twice : List (List Event)
touched_twice = (events.Touch 3 0 ∷ events.Touch 3 0 ∷ []) ∷ []
