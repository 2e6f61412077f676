-- What a call answers by the records that it holds. No state stands in it. This project's own.
use Rattle.std.specs.Prelude.{ℕ, List}
use Rattle.mon_types.specs.Shape.{Shape}
use Rattle.mon_types.specs.Modes.{own_slot}
use Rattle.mon_types.specs.Replies.{done}
use Rattle.mon_types.specs.declared.thread.Mode.{Mode}
use Rattle.mon_types.specs.declared.call.Call.{Call}
use Rattle.mon_types.specs.declared.call.Call.TheVariants as calls
use Rattle.mon_types.specs.declared.reply.Reply.{Reply}
use Rattle.mon_types.specs.declared.reply.Reply.TheVariants as replies
use Rattle.mon_model.specs.RegionCalls.{block_reply, free_reply, assign_reply, region_info_reply, accept_region_reply}
use Rattle.mon_model.specs.EnclaveCalls.{create_reply, init_reply, delete_reply, enclave_info_reply}
use Rattle.mon_model.specs.ThreadCalls.{load_thread_reply, delete_thread_reply, enter_reply, restore_reply}
use Rattle.mon_model.specs.MailCalls.{send_reply, read_reply}
use Rattle.mon_enclaves.specs.LoadReply.{reply_by_words}
use Rattle.lock_plan.specs.declared.held.Held.{Held}
use Rattle.lock_plan.specs.Plan.{first_region, first_enclave, first_thread}
use Rattle.mon_calls.specs.OnHeld.{tickets_held, assignee_held, target_held}

-- The reply of a call that was not refused early, on a machine of this shape, by a core in this mode, where the records
-- of all that it tries are held. words are those of page tables that were read so far on the address's path, from the
-- root down; only the calls that load look at them, and Ok before the path's end means that the next is to be read.
abbrev pub replied : Shape → Mode → Call → Held → List ℕ → Reply
replied shape mode (calls.Block r) h words = block_reply mode (first_region h)
replied shape mode (calls.Free r) h words = free_reply (first_region h) (tickets_held h)
replied shape mode (calls.Assign r to) h words = assign_reply (assignee_held to h) (first_region h)
replied shape mode calls.Flush h words = done
replied shape mode (calls.RegionInfo r) h words = region_info_reply (first_region h)
replied shape mode (calls.Create e base size) h words = create_reply (first_enclave h)
replied shape mode (calls.LoadTable e va level page) h words =
    reply_by_words shape (first_enclave h) (first_region h) (calls.LoadTable e va level page) words
replied shape mode (calls.LoadPage e va page src perms) h words =
    reply_by_words shape (first_enclave h) (first_region h) (calls.LoadPage e va page src perms) words
replied shape mode (calls.LoadThread e t entry sp) h words = load_thread_reply (first_enclave h) (first_thread h)
replied shape mode (calls.Init e) h words = init_reply (first_enclave h)
replied shape mode (calls.DeleteThread e t) h words = delete_thread_reply e (first_thread h)
replied shape mode (calls.Delete e) h words = delete_reply (first_enclave h)
replied shape mode (calls.Enter e t) h words = enter_reply e (first_enclave h) (first_thread h)
replied shape mode calls.Exit h words = done
replied shape mode (calls.Aex saved) h words = done
replied shape mode calls.Restore h words = restore_reply (first_thread h)
replied shape mode (calls.Accept m from) h words = done
replied shape mode (calls.Send to m w0 w1 w2 w3) h words =
    send_reply (own_slot mode) (target_held (own_slot mode) to h) m
replied shape mode (calls.Read m) h words = read_reply (first_enclave h) m
replied shape mode (calls.EnclaveInfo e) h words = enclave_info_reply (first_enclave h)
replied shape mode (calls.SetSatp v) h words = done
replied shape mode (calls.AcceptRegion r) h words = accept_region_reply (own_slot mode) (first_region h)
replied shape mode (calls.Reserve e va page perms) h words =
    reply_by_words shape (first_enclave h) (first_region h) (calls.Reserve e va page perms) words
replied shape mode (calls.Unknown number args) h words = replies.Unsupported
