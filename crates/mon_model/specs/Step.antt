-- One call of the sequential monitor: the new state and the reply. This project's own. No locks, words
-- or moves stand in it.
use Rattle.std.specs.Prelude.{ℕ, ◌==◌, if◌then◌else◌, List, [], ◌∷◌, ◌++◌, Option, Some, None}
use Rattle.mon_types.specs.Shape.{region_of_page}
use Rattle.mon_types.specs.Enclaves.{empty_enclave}
use Rattle.mon_types.specs.Threads.{empty_thread}
use Rattle.mon_types.specs.declared.region.Owner.TheVariants as owners
use Rattle.mon_types.specs.declared.region.Region.TheVariants as regions
use Rattle.mon_types.specs.declared.enclave.Enclave.{Enclave}
use Rattle.mon_types.specs.declared.enclave.LoadedKind.{LoadedKind}
use Rattle.mon_types.specs.declared.enclave.LoadedKind.TheVariants as kinds
use Rattle.mon_types.specs.declared.enclave.Mailbox.TheVariants as boxes
use Rattle.mon_types.specs.declared.thread.Mode.{Mode}
use Rattle.mon_types.specs.declared.thread.Mode.TheVariants as modes
use Rattle.mon_types.specs.Modes.{own_slot, own_thread}
use Rattle.mon_types.specs.declared.call.Call.{Call}
use Rattle.mon_types.specs.declared.call.Call.TheVariants as calls
use Rattle.mon_types.specs.declared.reply.Reply.{Reply}
use Rattle.mon_types.specs.declared.reply.Reply.TheVariants as replies
use Rattle.mon_model.specs.State.{State, region_at, enclave_at, thread_at, mode_of, loaded_at, with_region, with_enclave, with_thread, with_flushed, with_mode, with_slot}
use Rattle.mon_types.specs.Bits.{members}
use Rattle.mon_types.specs.Replies.{done, is_done}
use Rattle.mon_types.specs.Owns.{os_word}
use Rattle.mon_model.specs.Early.{early}
use Rattle.mon_model.specs.RegionCalls.{loses_region, gains_region, block_reply, blocked, free_reply, assign_reply, assigned, with_assigned, region_info_reply, accept_region_reply}
use Rattle.mon_model.specs.Loading.{table_kind}
use Rattle.mon_model.specs.EnclaveCalls.{create_reply, created, load_table_reply, load_page_reply, reserve_reply, with_table, with_page, with_reserved, init_reply, initialized, delete_reply, deleted, enclave_info_reply}
use Rattle.mon_model.specs.ThreadCalls.{load_thread_reply, ready, with_thread_loaded, delete_thread_reply, without_thread, enter_reply, running, left, left_saving, restore_reply, restored}
use Rattle.mon_model.specs.MailCalls.{with_mailbox, send_reply, sent, read_reply}

-- the enclave to which a region is assigned, None for the OS
abbrev pub assignee : State → ℕ → Option Enclave
assignee s to = if to == os_word then None else Some (enclave_at s to)

-- ---- the reply once the objects are held

-- of each call, from the state
abbrev pub held_reply : State → ℕ → Call → Reply
held_reply s core (calls.Block r) = block_reply (mode_of s core) (region_at s r)
held_reply s core (calls.Free r) = free_reply (region_at s r) s.flushed
held_reply s core (calls.Assign r to) = assign_reply (assignee s to) (region_at s r)
held_reply s core calls.Flush = done
held_reply s core (calls.RegionInfo r) = region_info_reply (region_at s r)
held_reply s core (calls.Create e base size) = create_reply (enclave_at s e)
held_reply s core (calls.LoadTable e va level page) =
    load_table_reply s.shape (enclave_at s e) (loaded_at s e) va level page
held_reply s core (calls.LoadPage e va page src perms) =
    load_page_reply s.shape (enclave_at s e) (loaded_at s e) (region_at s (region_of_page s.shape src)) va page
held_reply s core (calls.LoadThread e t entry sp) = load_thread_reply (enclave_at s e) (thread_at s t)
held_reply s core (calls.Init e) = init_reply (enclave_at s e)
held_reply s core (calls.DeleteThread e t) = delete_thread_reply e (thread_at s t)
held_reply s core (calls.Delete e) = delete_reply (enclave_at s e)
held_reply s core (calls.Enter e t) = enter_reply e (enclave_at s e) (thread_at s t)
held_reply s core calls.Exit = done
held_reply s core (calls.Aex saved) = done
held_reply s core calls.Restore = restore_reply (thread_at s (own_thread (mode_of s core)))
held_reply s core (calls.Accept m from) = done
held_reply s core (calls.Send to m w0 w1 w2 w3) = send_reply (own_slot (mode_of s core)) (enclave_at s to) m
held_reply s core (calls.Read m) = read_reply (enclave_at s (own_slot (mode_of s core))) m
held_reply s core (calls.EnclaveInfo e) = enclave_info_reply (enclave_at s e)
held_reply s core (calls.SetSatp v) = done
held_reply s core (calls.AcceptRegion r) = accept_region_reply (own_slot (mode_of s core)) (region_at s r)
held_reply s core (calls.Reserve e va page perms) = reserve_reply s.shape (enclave_at s e) (loaded_at s e) va page
held_reply s core (calls.Unknown number args) = replies.Unsupported

-- ---- what Ok does, at ticket k

-- an owned region that its enclave blocks leaves the enclave's set
abbrev pub without_own_region : State → Mode → ℕ → State
without_own_region s modes.Os r = s
without_own_region s (modes.Inside e t) r = with_enclave s e (loses_region (enclave_at s e) r)

-- region r is assigned to the OS, or to the enclave in slot `to`
abbrev pub assign_effect : State → ℕ → ℕ → ℕ → State
assign_effect s r to k =
    if to == os_word
    then with_region s r (regions.Owned owners.Os k)
    else with_enclave (with_region s r (assigned (enclave_at s to).stage to k)) to (with_assigned (enclave_at s to) r)

-- one more item of an enclave slot
abbrev pub with_item : State → ℕ → Enclave → LoadedKind → ℕ → ℕ → State
with_item s e enclave kind va page =
    with_slot s e enclave (loaded_at s e ++ record { kind = kind; va = va; page = page } ∷ [])

-- each of these regions is blocked
abbrev pub with_deleted : State → List ℕ → ℕ → State
with_deleted s [] k = s
with_deleted s (r ∷ rs) k = with_deleted (with_region s r (deleted (region_at s r) k)) rs k

-- the regions of an enclave's set, ascending
abbrev pub regions_of : State → ℕ → List ℕ
regions_of s e = members (enclave_at s e).regions s.shape.regions

-- of each call, at ticket k; digest is that of the page that a load_page reads
abbrev pub effect : State → ℕ → Call → List ℕ → ℕ → State
effect s core (calls.Block r) digest k =
    with_region (without_own_region s (mode_of s core) r) r (blocked (region_at s r) k)
effect s core (calls.Free r) digest k = with_region s r regions.Free
effect s core (calls.Assign r to) digest k = assign_effect s r to k
effect s core calls.Flush digest k = with_flushed s core k
effect s core (calls.RegionInfo r) digest k = s
effect s core (calls.Create e base size) digest k = with_slot s e (created base size) []
effect s core (calls.LoadTable e va level page) digest k =
    with_item s e (with_table (enclave_at s e) va level page) (table_kind level) va page
effect s core (calls.LoadPage e va page src perms) digest k =
    with_item s e (with_page (enclave_at s e) va page perms digest) kinds.Page va page
effect s core (calls.LoadThread e t entry sp) digest k =
    with_thread (with_enclave s e (with_thread_loaded (enclave_at s e) entry sp)) t (ready e entry sp)
effect s core (calls.Init e) digest k = with_enclave s e (initialized (enclave_at s e))
effect s core (calls.DeleteThread e t) digest k =
    with_thread (with_enclave s e (without_thread (enclave_at s e))) t empty_thread
effect s core (calls.Delete e) digest k = with_slot (with_deleted s (regions_of s e) k) e empty_enclave []
effect s core (calls.Enter e t) digest k =
    with_mode (with_thread s t (running e (thread_at s t))) core (modes.Inside e t)
effect s core calls.Exit digest k =
    let own = own_thread (mode_of s core) in
    with_mode (with_thread s own (left (thread_at s own))) core modes.Os
effect s core (calls.Aex saved) digest k =
    let own = own_thread (mode_of s core) in
    with_mode (with_thread s own (left_saving (thread_at s own) saved k)) core modes.Os
effect s core calls.Restore digest k =
    let own = own_thread (mode_of s core) in
    with_thread s own (restored (thread_at s own))
effect s core (calls.Accept m from) digest k =
    let own = own_slot (mode_of s core) in
    with_enclave s own (with_mailbox (enclave_at s own) m (boxes.Expecting from))
effect s core (calls.Send to m w0 w1 w2 w3) digest k =
    let own = own_slot (mode_of s core) in
    let message = sent own (w0 ∷ w1 ∷ w2 ∷ w3 ∷ []) (enclave_at s own).measure in
    with_enclave s to (with_mailbox (enclave_at s to) m message)
effect s core (calls.Read m) digest k =
    let own = own_slot (mode_of s core) in
    with_enclave s own (with_mailbox (enclave_at s own) m boxes.Closed)
effect s core (calls.EnclaveInfo e) digest k = s
effect s core (calls.SetSatp v) digest k = s
effect s core (calls.AcceptRegion r) digest k =
    let own = own_slot (mode_of s core) in
    with_enclave (with_region s r (regions.Owned (owners.Enclave own) k)) own (gains_region (enclave_at s own) r)
effect s core (calls.Reserve e va page perms) digest k =
    with_item s e (with_reserved (enclave_at s e) va page perms) kinds.Reserved va page
effect s core (calls.Unknown number args) digest k = s

-- ---- the step

-- the refusal, if there is one, else the reply
abbrev pub or_else : Option Reply → Reply → Reply
or_else None reply = reply
or_else (Some refusal) reply = refusal

-- an early refusal comes first
abbrev pub reply_of : State → ℕ → Call → Reply
reply_of s core call = or_else (early s.shape (mode_of s core) call) (held_reply s core call)

-- the state after a call that has this reply: a refusal changes nothing
abbrev pub changed : Reply → State → ℕ → Call → List ℕ → ℕ → State
changed reply s core call digest ticket = if is_done reply then effect s core call digest ticket else s

-- the state after a call
abbrev pub after : State → ℕ → Call → List ℕ → ℕ → State
after s core call digest ticket = changed (reply_of s core call) s core call digest ticket

-- the new state and the reply; digest is that of the page that a load_page reads
abbrev pub monitor_step : State → ℕ → Call → List ℕ → ℕ → State × Reply
monitor_step s core call digest ticket = (after s core call digest ticket, reply_of s core call)
