-- Which records a call leaves of those that it holds. No state stands in it. This project's own.
use Rattle.std.specs.Prelude.{ℕ, ◌==◌, nat_lt, if◌then◌else◌, List, [], ◌∷◌, map}
use Rattle.mon_types.specs.Owns.{os_word}
use Rattle.mon_types.specs.Modes.{own_slot}
use Rattle.mon_types.specs.Enclaves.{empty_enclave}
use Rattle.mon_types.specs.Threads.{empty_thread}
use Rattle.mon_types.specs.declared.region.Owner.TheVariants as owners
use Rattle.mon_types.specs.declared.region.Region.TheVariants as regions
use Rattle.mon_types.specs.declared.enclave.Mailbox.TheVariants as boxes
use Rattle.mon_types.specs.declared.thread.Mode.{Mode}
use Rattle.mon_types.specs.declared.call.Call.{Call}
use Rattle.mon_types.specs.declared.call.Call.TheVariants as calls
use Rattle.mon_model.specs.RegionCalls.{loses_region, gains_region, blocked, with_assigned}
use Rattle.mon_model.specs.EnclaveCalls.{created, with_table, with_page, with_reserved, initialized, deleted}
use Rattle.mon_model.specs.ThreadCalls.{ready, with_thread_loaded, without_thread, running, left, left_saving, restored}
use Rattle.mon_model.specs.MailCalls.{with_mailbox, sent}
use Rattle.mon_regions.specs.Named.{given_to}
use Rattle.lock_plan.specs.declared.held.Held.{Held}
use Rattle.lock_plan.specs.Plan.{first_region, first_enclave, second_enclave, first_thread}
use Rattle.mon_calls.specs.OnHeld.{assignee_held, put_enclave, put_second, put_thread, put_region, put_cell}

-- each region that is held is deleted
abbrev pub delete_regions : Held → ℕ → Held
delete_regions h k = record h { regions = record { items = map (λ x. (x.0, deleted x.1 k)) h.regions.items } }

-- the enclave of slot to, or the OS, is given the region
abbrev pub with_given : Held → ℕ → ℕ → ℕ → Held
with_given h r to k =
    put_enclave
    (put_region h (given_to (assignee_held to h) to k))
    (if to == os_word then first_enclave h else with_assigned (first_enclave h) r)

-- a message of the enclave in slot own to that in slot to
abbrev pub with_message : Held → ℕ → ℕ → ℕ → List ℕ → Held
with_message h own to m words =
    if own == to then put_enclave h (with_mailbox (first_enclave h) m (sent own words (first_enclave h).measure))
    else if nat_lt own to
    then put_second h (with_mailbox (second_enclave h) m (sent own words (first_enclave h).measure))
    else put_enclave h (with_mailbox (first_enclave h) m (sent own words (second_enclave h).measure))

-- The records after an Ok at ticket k, where those of all that the call tries were held. digest is that of the page
-- that a load_page reads.
abbrev pub left_by : Mode → Call → List ℕ → ℕ → Held → Held
left_by mode (calls.Block r) digest k h =
    put_enclave (put_region h (blocked (first_region h) k)) (loses_region (first_enclave h) r)
left_by mode (calls.Free r) digest k h = put_region h regions.Free
left_by mode (calls.Assign r to) digest k h = with_given h r to k
left_by mode calls.Flush digest k h = put_cell h k
left_by mode (calls.RegionInfo r) digest k h = h
left_by mode (calls.Create e base size) digest k h = put_enclave h (created base size)
left_by mode (calls.LoadTable e va level page) digest k h =
    put_enclave h (with_table (first_enclave h) va level page)
left_by mode (calls.LoadPage e va page src perms) digest k h =
    put_enclave h (with_page (first_enclave h) va page perms digest)
left_by mode (calls.LoadThread e t entry sp) digest k h =
    put_thread (put_enclave h (with_thread_loaded (first_enclave h) entry sp)) (ready e entry sp)
left_by mode (calls.Init e) digest k h = put_enclave h (initialized (first_enclave h))
left_by mode (calls.DeleteThread e t) digest k h =
    put_thread (put_enclave h (without_thread (first_enclave h))) empty_thread
left_by mode (calls.Delete e) digest k h = delete_regions (put_enclave h empty_enclave) k
left_by mode (calls.Enter e t) digest k h = put_thread h (running e (first_thread h))
left_by mode calls.Exit digest k h = put_thread h (left (first_thread h))
left_by mode (calls.Aex saved) digest k h = put_thread h (left_saving (first_thread h) saved k)
left_by mode calls.Restore digest k h = put_thread h (restored (first_thread h))
left_by mode (calls.Accept m from) digest k h =
    put_enclave h (with_mailbox (first_enclave h) m (boxes.Expecting from))
left_by mode (calls.Send to m w0 w1 w2 w3) digest k h =
    with_message h (own_slot mode) to m (w0 ∷ w1 ∷ w2 ∷ w3 ∷ [])
left_by mode (calls.Read m) digest k h = put_enclave h (with_mailbox (first_enclave h) m boxes.Closed)
left_by mode (calls.EnclaveInfo e) digest k h = h
left_by mode (calls.SetSatp v) digest k h = h
left_by mode (calls.AcceptRegion r) digest k h =
    put_enclave
    (put_region h (regions.Owned (owners.Enclave (own_slot mode)) k))
    (gains_region (first_enclave h) r)
left_by mode (calls.Reserve e va page perms) digest k h =
    put_enclave h (with_reserved (first_enclave h) va page perms)
left_by mode (calls.Unknown number args) digest k h = h
