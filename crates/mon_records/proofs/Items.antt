-- States without their items.
use Rattle.std.proofs.Common.{◌≡◌, ◌∙◌, ℕ, Bool, true, false, cond, eqb, List, [], ◌∷◌, ap, sym, refl}
use Rattle.mon_types.specs.Owns.{os_word}
use Rattle.mon_types.specs.Replies.{is_done}
use Rattle.mon_types.specs.Enclaves.{empty_enclave}
use Rattle.mon_types.specs.declared.thread.Mode.{Mode}
use Rattle.mon_types.specs.declared.thread.Mode.TheVariants as modes
use Rattle.mon_types.specs.declared.call.Call.{Call}
use Rattle.mon_types.specs.declared.call.Call.TheVariants as calls
use Rattle.mon_types.specs.declared.reply.Reply.{Reply}
use Rattle.mon_types.specs.declared.enclave.Loaded.{Loaded}
use Rattle.mon_types.specs.declared.object.ObjectId.{ObjectId}
use Rattle.mon_types.specs.declared.object.ObjectId.TheVariants as objects
use Rattle.mon_model.specs.State.{State, region_at, mode_of, with_region, with_enclave}
use Rattle.mon_model.specs.RegionCalls.{blocked}
use Rattle.mon_model.specs.EnclaveCalls.{deleted}
use Rattle.mon_model.specs.Early.{early}
use Rattle.mon_model.specs.Step.{changed, reply_of, held_reply, or_else, effect, without_own_region, with_deleted, regions_of}
use Rattle.mon_model.specs.Tries.{tries, held_tries, unless_refused}
use Rattle.mon_records.specs.Rows.{row_words}
use Rattle.mon_records.specs.WithoutItems.{without_items, IsDecidedByRecords}

tries_by_records : (s : State) (core : ℕ) (call : Call) → held_tries (without_items s) core call ≡ held_tries s core call
unfolding without_items
tries_by_records s core (calls.Block r) = refl
tries_by_records s core _ = refl

pub same_tries : (s : State) (core : ℕ) (call : Call) → tries (without_items s) core call ≡ tries s core call
unfolding without_items
same_tries s core call = ap (unless_refused (early s.shape (mode_of s core) call)) (tries_by_records s core call)

level_two : (s : State) (core e va level page : ℕ) → level ≡ 2 → held_reply (without_items s) core (calls.LoadTable e va level page) ≡ held_reply s core (calls.LoadTable e va level page)
unfolding without_items
level_two s core e va level page h = rw h refl

reply_by_records : (s : State) (core : ℕ) (call : Call) → IsDecidedByRecords call → held_reply (without_items s) core call ≡ held_reply s core call
unfolding without_items
reply_by_records s core (calls.LoadTable e va level page) h = level_two s core e va level page h
reply_by_records s core (calls.LoadPage e va page src perms) h = absurd h
reply_by_records s core (calls.Reserve e va page perms) h = absurd h
reply_by_records s core _ h = refl

pub same_reply : (s : State) (core : ℕ) (call : Call) → IsDecidedByRecords call → reply_of (without_items s) core call ≡ reply_of s core call
unfolding without_items
same_reply s core call h = ap (or_else (early s.shape (mode_of s core) call)) (reply_by_records s core call h)

own_region : (s : State) (mode : Mode) (r : ℕ) → without_own_region (without_items s) mode r ≡ without_items (without_own_region s mode r)
unfolding without_items
own_region s modes.Os r = refl
own_region s (modes.Inside e t) r = refl

all_deleted : (s : State) (rs : List ℕ) (k : ℕ) → with_deleted (without_items s) rs k ≡ without_items (with_deleted s rs k)
unfolding without_items
all_deleted s [] k = refl
all_deleted s (r ∷ rs) k = all_deleted (with_region s r (deleted (region_at s r) k)) rs k

either : (b : Bool) (s t u v : State) → without_items s ≡ without_items t → without_items u ≡ without_items v → without_items (cond b s u) ≡ without_items (cond b t v)
either true s t u v e f = e
either false s t u v e f = f

twice : (s : State) → without_items (without_items s) ≡ without_items s
unfolding without_items
twice s = refl

same_effect : (s : State) (core : ℕ) (call : Call) (digest : List ℕ) (k : ℕ) → without_items (effect (without_items s) core call digest k) ≡ without_items (effect s core call digest k)
unfolding without_items
same_effect s core (calls.Block r) digest k = ap (λ x. without_items (with_region x r (blocked (region_at s r) k))) (own_region s (mode_of s core) r)
same_effect s core (calls.Assign r to) digest k = either (eqb to os_word) _ _ _ _ refl refl
same_effect s core (calls.Delete e) digest k = ap (λ x. without_items (with_enclave x e empty_enclave)) (all_deleted s (regions_of s e) k)
same_effect s core _ digest k = refl

pub same_change : (reply : Reply) (s : State) (core : ℕ) (call : Call) (digest : List ℕ) (k : ℕ) → without_items (changed reply (without_items s) core call digest k) ≡ without_items (changed reply s core call digest k)
same_change reply s core call digest k =
    either (is_done reply) (effect (without_items s) core call digest k) (effect s core call digest k) (without_items s) s (same_effect s core call digest k) (twice s)

pub same_rows : (s : State) (o : ObjectId) → row_words (without_items s) o ≡ row_words s o
unfolding without_items row_words
same_rows s (objects.Enclave e) = refl
same_rows s (objects.Thread t) = refl
same_rows s (objects.Region r) = refl
same_rows s (objects.Cell c) = refl

-- ---- with the items of another state

unfoldable pub with_items : State → List (List Loaded) → State
with_items s items = record s { loaded = items }

pub other_items : (s : State) (items : List (List Loaded)) → without_items (with_items s items) ≡ without_items s
unfolding without_items with_items
other_items s items = refl

pub with_items_tries : (s : State) (items : List (List Loaded)) (core : ℕ) (call : Call) → tries (with_items s items) core call ≡ tries s core call
with_items_tries s items core call =
    sym (same_tries (with_items s items) core call) ∙ ap (λ z. tries z core call) (other_items s items) ∙ same_tries s core call

pub with_items_change : (reply : Reply) (s : State) (items : List (List Loaded)) (core : ℕ) (call : Call) (digest : List ℕ) (k : ℕ) → without_items (changed reply (with_items s items) core call digest k) ≡ without_items (changed reply s core call digest k)
with_items_change reply s items core call digest k =
    sym (same_change reply (with_items s items) core call digest k)
    ∙ ap (λ z. without_items (changed reply z core call digest k)) (other_items s items) ∙ same_change reply s core call digest k
