-- What holds of every kind of reply that the sequential monitor gives holds of each of its replies; it
-- never answers that another core holds a lock. This project's own.
use Rattle.std.specs.Prelude.{◌≡◌, ℕ, Bool, true, false, cond, ◌&&◌, nat_le, nat_eq, List, ◌++◌, Option, Some, None, refl}
use Rattle.std.specs.List.{list_all}
use Rattle.mon_types.specs.Shape.{Shape, region_of_page}
use Rattle.mon_types.specs.declared.region.Region.{Region}
use Rattle.mon_types.specs.declared.region.Region.TheVariants as regions
use Rattle.mon_types.specs.declared.thread.Mode.{Mode}
use Rattle.mon_types.specs.declared.thread.Mode.TheVariants as modes
use Rattle.mon_types.specs.declared.thread.Thread.{Thread}
use Rattle.mon_types.specs.declared.enclave.Enclave.{Enclave}
use Rattle.mon_types.specs.declared.enclave.Loaded.{Loaded}
use Rattle.mon_types.specs.declared.enclave.Mailbox.{Mailbox}
use Rattle.mon_types.specs.declared.enclave.Mailbox.TheVariants as boxes
use Rattle.mon_types.specs.declared.call.Call.{Call}
use Rattle.mon_types.specs.declared.call.Call.TheVariants as calls
use Rattle.mon_types.specs.declared.reply.Reply.{Reply}
use Rattle.mon_types.specs.declared.reply.Reply.TheVariants as replies
use Rattle.mon_model.specs.State.{State, mode_of, region_at, enclave_at, thread_at, loaded_at}
use Rattle.mon_types.specs.Replies.{done, ok_with_word, ok_with_four, ok_with_eight, is_concurrent, done_if}
use Rattle.mon_types.specs.Owns.{os_word}
use Rattle.mon_model.specs.Early.{is_unsupported, is_wrong_mode, is_bad_value}
use Rattle.mon_model.specs.RegionCalls.{acts_for, is_empty, is_free, block_reply, free_reply, assign_reply, owner_word, region_info_reply, accept_region_reply}
use Rattle.mon_model.specs.Loading.{takes_page, has_place_for_leaf}
use Rattle.mon_model.specs.EnclaveCalls.{leaf_fits, is_os_owned, load_page_reply}
use Rattle.mon_model.specs.ThreadCalls.{restore_reply}
use Rattle.mon_model.specs.MailCalls.{mailbox_at, mail_reply}
use Rattle.mon_types.specs.Modes.{own_slot, own_thread}
use Rattle.mon_model.specs.Step.{assignee, held_reply, or_else, reply_of}

-- a fact that holds of each kind of reply that the sequential monitor gives
pub record HoldsOfReplies (P : Reply → Type 0) : Type 0 where
  pub done : P done
  pub ok_with_word : (a : ℕ) → P (ok_with_word a)
  pub ok_with_four : (a b c d : ℕ) → P (ok_with_four a b c d)
  pub ok_with_eight : (words : List ℕ) → P (ok_with_eight words)
  pub invalid_value : P replies.InvalidValue
  pub invalid_state : P replies.InvalidState
  pub access_denied : P replies.AccessDenied
  pub not_flushed : P replies.NotFlushed
  pub unsupported : P replies.Unsupported

-- what holds of both holds of the one that is chosen
chosen : (P : Reply → Type 0) (b : Bool) (x y : Reply) → P x → P y → P (cond b x y)
chosen P true x y p q = p
chosen P false x y p q = q

done_if_has : (P : Reply → Type 0) → HoldsOfReplies P → (b : Bool) → P (done_if b)
done_if_has P h b = chosen P b done replies.InvalidState h.done h.invalid_state

block_has : (P : Reply → Type 0) → HoldsOfReplies P → (mode : Mode) (region : Region) → P (block_reply mode region)
block_has P h mode regions.Free = h.invalid_state
block_has P h mode (regions.Owned owner since) = chosen P (acts_for mode owner) done replies.AccessDenied h.done h.access_denied
block_has P h mode (regions.Blocked owner since at) = h.invalid_state
block_has P h modes.Os (regions.Offered to at) = h.done
block_has P h (modes.Inside e t) (regions.Offered to at) = h.access_denied

free_has : (P : Reply → Type 0) → HoldsOfReplies P → (region : Region) (flushed : List ℕ) → P (free_reply region flushed)
free_has P h regions.Free flushed = h.invalid_state
free_has P h (regions.Owned owner since) flushed = h.invalid_state
free_has P h (regions.Blocked owner since at) flushed = chosen P (list_all (λ ticket. nat_le at ticket) flushed) done replies.NotFlushed h.done h.not_flushed
free_has P h (regions.Offered to at) flushed = h.invalid_state

assign_has : (P : Reply → Type 0) → HoldsOfReplies P → (to : Option Enclave) (region : Region) → P (assign_reply to region)
assign_has P h None region = done_if_has P h (is_free region)
assign_has P h (Some to) region = chosen P (is_empty to.stage) replies.InvalidState (done_if (is_free region)) h.invalid_state (done_if_has P h (is_free region))

region_info_has : (P : Reply → Type 0) → HoldsOfReplies P → (region : Region) → P (region_info_reply region)
region_info_has P h regions.Free = h.ok_with_four 0 os_word 0 0
region_info_has P h (regions.Owned owner since) = h.ok_with_four 1 (owner_word owner) since 0
region_info_has P h (regions.Blocked owner since at) = h.ok_with_four 2 (owner_word owner) since at
region_info_has P h (regions.Offered to at) = h.ok_with_four 3 to 0 at

accept_region_has : (P : Reply → Type 0) → HoldsOfReplies P → (own : ℕ) (region : Region) → P (accept_region_reply own region)
accept_region_has P h own regions.Free = h.invalid_state
accept_region_has P h own (regions.Owned owner since) = h.invalid_state
accept_region_has P h own (regions.Blocked owner since at) = h.invalid_state
accept_region_has P h own (regions.Offered to at) = chosen P (nat_eq own to) done replies.AccessDenied h.done h.access_denied

mail_has : (P : Reply → Type 0) → HoldsOfReplies P → (mailbox : Mailbox) → P (mail_reply mailbox)
mail_has P h boxes.Closed = h.invalid_state
mail_has P h (boxes.Expecting from) = h.invalid_state
mail_has P h (boxes.Full from words measure) = h.ok_with_eight (words ++ measure)

load_page_has : (P : Reply → Type 0) → HoldsOfReplies P → (shape : Shape) (enclave : Enclave) (items : List Loaded) (source : Region) (va page : ℕ) → P (load_page_reply shape enclave items source va page)
load_page_has P h shape enclave items source va page =
    chosen P (takes_page shape enclave page && leaf_fits enclave va) (cond (is_os_owned source) (done_if (has_place_for_leaf items va)) replies.AccessDenied) replies.InvalidState
    (chosen P (is_os_owned source) (done_if (has_place_for_leaf items va)) replies.AccessDenied (done_if_has P h (has_place_for_leaf items va)) h.access_denied) h.invalid_state

restore_has : (P : Reply → Type 0) → HoldsOfReplies P → (thread : Thread) → P (restore_reply thread)
restore_has P h thread = chosen P (nat_eq thread.saved_at 0) replies.InvalidState (ok_with_word thread.saved_at) h.invalid_state (h.ok_with_word thread.saved_at)

held_has : (P : Reply → Type 0) → HoldsOfReplies P → (s : State) (core : ℕ) (call : Call) → P (held_reply s core call)
held_has P h s core (calls.Block r) = block_has P h (mode_of s core) (region_at s r)
held_has P h s core (calls.Free r) = free_has P h (region_at s r) s.flushed
held_has P h s core (calls.Assign r to) = assign_has P h (assignee s to) (region_at s r)
held_has P h s core calls.Flush = h.done
held_has P h s core (calls.RegionInfo r) = region_info_has P h (region_at s r)
held_has P h s core (calls.Create e base size) = done_if_has P h _
held_has P h s core (calls.LoadTable e va level page) = done_if_has P h _
held_has P h s core (calls.LoadPage e va page src perms) = load_page_has P h s.shape (enclave_at s e) (loaded_at s e) (region_at s (region_of_page s.shape src)) va page
held_has P h s core (calls.LoadThread e t entry sp) = done_if_has P h _
held_has P h s core (calls.Init e) = done_if_has P h _
held_has P h s core (calls.DeleteThread e t) = done_if_has P h _
held_has P h s core (calls.Delete e) = done_if_has P h _
held_has P h s core (calls.Enter e t) = done_if_has P h _
held_has P h s core calls.Exit = h.done
held_has P h s core (calls.Aex saved) = h.done
held_has P h s core calls.Restore = restore_has P h (thread_at s (own_thread (mode_of s core)))
held_has P h s core (calls.Accept m from) = h.done
held_has P h s core (calls.Send to m w0 w1 w2 w3) = done_if_has P h _
held_has P h s core (calls.Read m) = mail_has P h (mailbox_at (enclave_at s (own_slot (mode_of s core))) m)
held_has P h s core (calls.EnclaveInfo e) = h.ok_with_eight _
held_has P h s core (calls.SetSatp v) = h.done
held_has P h s core (calls.AcceptRegion r) = accept_region_has P h (own_slot (mode_of s core)) (region_at s r)
held_has P h s core (calls.Reserve e va page perms) = done_if_has P h _
held_has P h s core (calls.Unknown number args) = h.unsupported

early_has : (P : Reply → Type 0) → HoldsOfReplies P → (a b c : Bool) (x : Reply) → P x → P (or_else (cond a (Some replies.Unsupported) (cond b (Some replies.AccessDenied) (cond c (Some replies.InvalidValue) None))) x)
early_has P h true b c x p = h.unsupported
early_has P h false true c x p = h.access_denied
early_has P h false false true x p = h.invalid_value
early_has P h false false false x p = p

-- a fact of each kind of reply is a fact of every reply
pub reply_has : (P : Reply → Type 0) → HoldsOfReplies P → (s : State) (core : ℕ) (call : Call) → P (reply_of s core call)
reply_has P h s core call = early_has P h (is_unsupported call) (is_wrong_mode (mode_of s core) call) (is_bad_value s.shape call) (held_reply s core call) (held_has P h s core call)

-- no reply is that another core holds a lock
pub never_met : (s : State) (core : ℕ) (call : Call) → is_concurrent (reply_of s core call) ≡ false
never_met s core call = reply_has (λ reply. is_concurrent reply ≡ false) (record {
  done = refl;
  ok_with_word = λ a. refl;
  ok_with_four = λ a b c d. refl;
  ok_with_eight = λ words. refl;
  invalid_value = refl;
  invalid_state = refl;
  access_denied = refl;
  not_flushed = refl;
  unsupported = refl;
}) s core call
