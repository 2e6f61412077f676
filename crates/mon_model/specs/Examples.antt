-- Runs of calls by core 0 that the laws of examples speak of, and the machines that they run on. This
-- project's own.
use Rattle.std.specs.Prelude.{ℕ, ◌+◌, List, [], ◌∷◌, ◌++◌, replicate}
use Rattle.mon_types.specs.Shape.{Shape, shape_of}
use Rattle.mon_types.specs.declared.call.Call.{Call}
use Rattle.mon_types.specs.declared.call.Call.TheVariants as calls
use Rattle.mon_types.specs.declared.reply.Reply.{Reply}
use Rattle.mon_types.specs.declared.object.ObjectId.{ObjectId}
use Rattle.mon_types.specs.declared.object.ObjectId.TheVariants as objects
use Rattle.mon_types.specs.declared.object.Tried.{Tried}
use Rattle.mon_model.specs.State.{State, start}
use Rattle.mon_types.specs.Owns.{os_word}
use Rattle.mon_model.specs.Measure.{Item, Table, Page, Thread, Init, measure_created, measure_with}
use Rattle.mon_model.specs.Step.{monitor_step}
use Rattle.mon_model.specs.Measured.{Answered, items_of}
use Rattle.mon_model.specs.Tries.{tries, tried_set}

-- what a run of calls gave: the reply to each, the objects that each tried, and the state at the end
pub record Run : Type 0 where
  pub replies : List Reply
  pub tried : List Tried
  pub last : State

-- a run with one more call before it
abbrev pub after_call : Reply → Tried → Run → Run
after_call reply tried rest = record { replies = reply ∷ rest.replies; tried = tried ∷ rest.tried; last = rest.last }

-- These calls by core 0, one after the other, from ticket k on. The digest is that of each page that a
-- load_page reads.
abbrev pub run_from : List ℕ → State → ℕ → List Call → Run
run_from digest s k [] = record { replies = []; tried = []; last = s }
run_from digest s k (call ∷ rest) =
    after_call (monitor_step s 0 call digest k).1 (tried_set (tries s 0 call))
    (run_from digest (monitor_step s 0 call digest k).0 (k + 1) rest)

-- from the start, with tickets 1, 2 and so on
abbrev pub run : List ℕ → Shape → List Call → Run
run digest shape call_list = run_from digest (start shape) 1 call_list

-- one core and 16 regions of one page
abbrev pub sixteen : Shape
sixteen = shape_of 1 16 1 0

-- the largest regions: 8 cores, 64 regions of 16 pages, shift 4
abbrev pub largest : Shape
largest = shape_of 8 64 16 4

-- ---- objects, by the names that reports use

-- enclave slot 0
abbrev pub e0 : ObjectId
e0 = objects.Enclave 0

-- thread slot 0
abbrev pub t0 : ObjectId
t0 = objects.Thread 0

-- core 0's flush clock
abbrev pub c0 : ObjectId
c0 = objects.Cell 0

-- core 1's flush clock
abbrev pub c1 : ObjectId
c1 = objects.Cell 1

-- region 1
abbrev pub r1 : ObjectId
r1 = objects.Region 1

-- region 2
abbrev pub r2 : ObjectId
r2 = objects.Region 2

-- region 3
abbrev pub r3 : ObjectId
r3 = objects.Region 3

-- region 4
abbrev pub r4 : ObjectId
r4 = objects.Region 4

-- region 5
abbrev pub r5 : ObjectId
r5 = objects.Region 5

-- region 12
abbrev pub r12 : ObjectId
r12 = objects.Region 12

-- ---- calls on regions

-- region 3 goes from the OS to the OS; the first free comes too early
abbrev pub first_path_calls : List Call
first_path_calls = calls.Block 3 ∷ calls.Free 3 ∷ calls.Flush ∷ calls.Free 3 ∷ calls.Assign 3 os_word ∷ []

-- region 0 cannot be blocked, and there is no region 64
abbrev pub bad_region_calls : List Call
bad_region_calls = calls.Block 0 ∷ calls.Block 64 ∷ []

-- core 0 flushes, no other core does
abbrev pub half_flushed_calls : List Call
half_flushed_calls = calls.Block 3 ∷ calls.Flush ∷ calls.Free 3 ∷ []

-- ---- a small enclave

-- The OS takes four regions back and gives them to a new enclave in slot e: 14 calls.
abbrev pub give : ℕ → ℕ → ℕ → ℕ → ℕ → List Call
give e a b c d =
    calls.Block a ∷ calls.Block b ∷ calls.Block c ∷ calls.Block d ∷ calls.Flush
    ∷ calls.Free a ∷ calls.Free b ∷ calls.Free c ∷ calls.Free d ∷ calls.Create e 65536 16384
    ∷ calls.Assign a e ∷ calls.Assign b e ∷ calls.Assign c e ∷ calls.Assign d e ∷ []

-- It loads three tables, and a copy of page 1 that can be read and run: 4 calls. A region's one page
-- has the region's number.
abbrev pub load : ℕ → ℕ → ℕ → ℕ → ℕ → List Call
load e a b c d =
    calls.LoadTable e 0 2 a ∷ calls.LoadTable e 65536 1 b ∷ calls.LoadTable e 65536 0 c
    ∷ calls.LoadPage e 65536 d 1 5 ∷ []

-- It loads a thread, and ends the loading: 2 calls.
abbrev pub finish : ℕ → ℕ → List Call
finish e t = calls.LoadThread e t 65536 0 ∷ calls.Init e ∷ []

-- slot 0 with regions 2 to 5: up to ticket 14
abbrev pub given : List Call
given = give 0 2 3 4 5

-- its tables and its page: up to ticket 18
abbrev pub loaded : List Call
loaded = given ++ load 0 2 3 4 5

-- its thread and its init: up to ticket 20
abbrev pub finished : List Call
finished = loaded ++ finish 0 0

-- then slot 1 with regions 6 to 9: up to ticket 40
abbrev pub twins : List Call
twins = finished ++ give 1 6 7 8 9 ++ load 1 6 7 8 9 ++ finish 1 1

-- a measurement with further items
abbrev pub measure_with_all : List ℕ → List Item → List ℕ
measure_with_all words [] = words
measure_with_all words (item ∷ items) = measure_with_all (measure_with words item) items

-- what is loaded into each of these enclaves, where the page has this digest
abbrev pub small_loads : List ℕ → List Item
small_loads digest = Table 0 2 ∷ Table 65536 1 ∷ Table 65536 0 ∷ Page 65536 5 digest ∷ Thread 65536 0 ∷ Init ∷ []

-- what each of them measures
abbrev pub small_measure : List ℕ → List ℕ
small_measure digest = measure_with_all (measure_created 65536 16384) (small_loads digest)

-- calls with their answers
abbrev pub answered : List ℕ → List Call → List Reply → List Answered
answered digest [] replies = []
answered digest (call ∷ rest) [] = []
answered digest (call ∷ rest) (reply ∷ replies) =
    record { call = call; reply = reply; digest = digest } ∷ answered digest rest replies

-- the items of a slot in a run of these calls
abbrev pub run_items : List ℕ → Shape → List Call → ℕ → List Item
run_items digest shape call_list e = items_of (answered digest call_list (run digest shape call_list).replies) e

-- ---- what else may be done with it

-- it is deleted before anything is loaded, and its slot gets a new enclave, which owns no region
abbrev pub delete_blocks_calls : List Call
delete_blocks_calls = given ++ calls.Delete 0 ∷ calls.Create 0 65536 16384 ∷ calls.LoadTable 0 0 2 2 ∷ []

-- page 5 is taken already
abbrev pub page_below_next_calls : List Call
page_below_next_calls = loaded ++ calls.LoadPage 0 69632 5 1 5 ∷ []

-- the loading is ended before a thread is loaded
abbrev pub init_without_thread_calls : List Call
init_without_thread_calls = loaded ++ calls.Init 0 ∷ []

-- from inside the enclave the core tries to delete it
abbrev pub delete_from_inside_calls : List Call
delete_from_inside_calls = finished ++ calls.Enter 0 0 ∷ calls.Delete 0 ∷ []

-- the enclave writes to itself, and reads twice
abbrev pub self_mail_calls : List Call
self_mail_calls =
    finished
    ++ calls.Enter 0 0 ∷ calls.Accept 0 0 ∷ calls.Send 0 0 7 8 9 10 ∷ calls.Read 0 ∷ calls.Read 0 ∷ calls.Exit ∷ []

-- what an exit saves at this pc, with all registers 0
abbrev pub saved_words : ℕ → ℕ → List ℕ
saved_words pc cause = pc ∷ replicate 31 0 ++ cause ∷ []

-- a timer's tick ends the thread's first turn: ticket 22
abbrev pub ticked : List Call
ticked = finished ++ calls.Enter 0 0 ∷ calls.Aex (saved_words 65536 9223372036854775813) ∷ []

-- the thread restores what was saved, once
abbrev pub tick_and_restore_calls : List Call
tick_and_restore_calls = ticked ++ calls.Enter 0 0 ∷ calls.Restore ∷ calls.Restore ∷ calls.Exit ∷ []

-- the enclave blocks its region 4 and faults there: ticket 23
abbrev pub own_region_blocked : List Call
own_region_blocked = finished ++ calls.Enter 0 0 ∷ calls.Block 4 ∷ calls.Aex (saved_words 65536 5) ∷ []

-- it can be deleted once its thread is; region 4 is then blocked as it was
abbrev pub own_region_freed : List Call
own_region_freed =
    own_region_blocked ++ calls.Delete 0 ∷ calls.DeleteThread 0 0 ∷ calls.Delete 0 ∷ calls.Flush ∷ calls.Free 4 ∷ []

-- ---- offers

-- the OS offers region 12 to the running enclave: ticket 24
abbrev pub offered : List Call
offered = finished ++ calls.Block 12 ∷ calls.Flush ∷ calls.Free 12 ∷ calls.Assign 12 0 ∷ []

-- the enclave accepts it at ticket 27, and tries to accept it again
abbrev pub offer_and_accept_calls : List Call
offer_and_accept_calls =
    offered
    ++ calls.RegionInfo 12 ∷ calls.Enter 0 0 ∷ calls.AcceptRegion 12 ∷ calls.AcceptRegion 12 ∷ calls.Exit
    ∷ calls.EnclaveInfo 0 ∷ []

-- the OS takes the offer back at ticket 25
abbrev pub offer_withdrawn_calls : List Call
offer_withdrawn_calls = offered ++ calls.Block 12 ∷ calls.Free 12 ∷ []

-- page 12 is reserved before the enclave owns its region, which it accepts at ticket 29
abbrev pub reserved_page_calls : List Call
reserved_page_calls =
    loaded
    ++ calls.Reserve 0 69632 12 3 ∷ []
    ++ finish 0 0
    ++ calls.Enter 0 0 ∷ calls.Aex (saved_words 65536 5) ∷ calls.Block 12 ∷ calls.Flush ∷ calls.Free 12
    ∷ calls.Assign 12 0
    ∷ calls.Enter 0 0 ∷ calls.AcceptRegion 12 ∷ calls.Exit ∷ []

-- ---- calls that are refused before any object is tried

-- no such number, twice; not in an enclave; an ASID that is not 0
abbrev pub refused_early : List Call
refused_early =
    calls.Unknown 99 (replicate 6 0) ∷ calls.Unknown 15 (replicate 6 0) ∷ calls.Exit ∷ calls.SetSatp 0x8000100000000000
    ∷ []

-- the range would end past 2 ^ 64
abbrev pub create_overflow_calls : List Call
create_overflow_calls = calls.Create 0 4096 18446744073709547520 ∷ []
