-- Every call is open at its begin, and only its end is left behind its Draw.
use Rattle.std.proofs.Common.{◌≡◌, ◌⊎◌, inl, inr, ◌+◌, ◌-◌, ◌<◌, ◌≤◌, ℕ, zero, suc, Bool, true, false, cond, Option, Some, None, List, [], ◌∷◌, eqb, ap, sym, refl, arith}
use Rattle.mon_types.specs.Shape.{Shape}
use Rattle.mon_types.specs.Sizes.{page_words}
use Rattle.mon_types.specs.Objects.{width}
use Rattle.mon_types.specs.Replies.{is_done}
use Rattle.mon_types.specs.declared.thread.Mode.{Mode}
use Rattle.mon_types.specs.declared.call.Call.{Call}
use Rattle.mon_types.specs.declared.call.Call.TheVariants as calls
use Rattle.mon_types.specs.declared.reply.Reply.{Reply}
use Rattle.mon_types.specs.declared.reply.Reply.TheVariants as replies
use Rattle.mon_types.specs.declared.object.ObjectId.{ObjectId}
use Rattle.mon_model.specs.State.{State, enclave_at}
use Rattle.mon_model.specs.Early.{early, is_unsupported, is_wrong_mode, is_bad_value}
use Rattle.mon_model.specs.Step.{reply_of}
use Rattle.sv39_pte.specs.Tables.{leads_to_table, page_led_to, last_place}
use Rattle.mon_enclaves.specs.LoadReply.{is_load, slot_of, va_of, path_length, words_reply}
use Rattle.hist.specs.declared.event.PageInput.{PageInput}
use Rattle.mon_records.specs.Rows.{Found, objects_of}
use Rattle.mon_records.specs.Rebuilt.{state_of}
use Rattle.mon_records.specs.EarlyWords.{early_words}
use Rattle.protocol.specs.Moves.{try_outcome}
use Rattle.protocol.specs.CallTree.{Tree, Issuer, onto, unlocks, zeros, write_unless, row_writes, late_writes, late_if, finish, early_writes, early_if, copy_words, copy_page, page_read, put_pte, go_on, walk, walk_below, places_of, ptes_of, load_if, loaded, loads_if, decided_by, decided, reads, meets, after_try, lock, lock_all, plan_of, behind_first, lock_plan, unless_refused, call_tree}
use Rattle.core_machine.specs.Remains.{IsSettled, IsDraftOf, IsEnding, IsOpen, most_loads, CallsAreOpen}

-- ---- behind the Draw

ends_unlocks : (os : List ObjectId) → IsEnding (unlocks os)
unfolding unlocks IsEnding
ends_unlocks [] = tt
ends_unlocks (o ∷ os) = ends_unlocks os

ends_zeros : (is : List ℕ) (next : Tree) → IsEnding next → IsEnding (zeros is next)
unfolding zeros IsEnding
ends_zeros [] next h = h
ends_zeros (i ∷ is) next h = ends_zeros is next h

ends_unless : (b : Bool) (o : ObjectId) (i word : ℕ) (next : Tree) → IsEnding next → IsEnding (write_unless b o i word next)
unfolding write_unless IsEnding
ends_unless true o i word next h = h
ends_unless false o i word next h = h

ends_row : (o : ObjectId) (i : ℕ) (stood wanted : List ℕ) (next : Tree) → IsEnding next → IsEnding (row_writes o i stood wanted next)
unfolding row_writes
ends_row o i [] wanted next h = h
ends_row o i (word ∷ words) wanted next h = ends_unless _ o i _ _ (ends_row o (suc i) words wanted next h)

ends_late : (os : List ObjectId) (found : Found) (s : State) (next : Tree) → IsEnding next → IsEnding (late_writes os found s next)
unfolding late_writes
ends_late [] found s next h = h
ends_late (o ∷ os) found s next h = ends_row o 0 _ _ _ (ends_late os found s next h)

ends_late_if : (b : Bool) (words : List ℕ) (os : List ObjectId) (found : Found) (s : State) (next : Tree) → IsEnding next → IsEnding (late_if b words os found s next)
unfolding late_if
ends_late_if true words os found s next h = ends_zeros words _ (ends_late os found s next h)
ends_late_if false words os found s next h = h

-- ---- words that are loaded

-- the words of a page that a call copies
abbrev copied_by : Call → ℕ
copied_by (calls.LoadPage e va page src perms) = 512
copied_by _ = 0

tables_few : (a b : Bool) → cond a 0 (cond b 1 2) + 0 ≤ 3
tables_few true b = omega arith
tables_few false true = omega arith
tables_few false false = omega arith

paths_few : (call : Call) → path_length call + copied_by call ≤ most_loads call
paths_few (calls.LoadTable e va level page) = tables_few (eqb level 2) (eqb level 1)
paths_few (calls.LoadPage e va page src perms) = omega arith
paths_few (calls.Reserve e va page perms) = omega arith
paths_few _ = omega arith

-- own-words are written early by calls that do the same to the core in every state
settled : (b : Bool) (known : State) (call : Call) → (early_if b known call ≡ []) ⊎ IsSettled call
unfolding early_if early_words
settled false known call = inl refl
settled true known (calls.Block r) = inr (λ s t core. refl)
settled true known (calls.Delete e) = inr (λ s t core. refl)
settled true known _ = inl refl

abbrev done_in : Option Reply → Bool
done_in None = false
done_in (Some reply) = is_done reply

early_refuses : (a b c : Bool) (reply : Reply) → cond a (Some replies.Unsupported) (cond b (Some replies.AccessDenied) (cond c (Some replies.InvalidValue) None)) ≡ Some reply → is_done reply ≡ false
early_refuses true b c reply e = sym (ap done_in e)
early_refuses false true c reply e = sym (ap done_in e)
early_refuses false false true reply e = sym (ap done_in e)
early_refuses false false false reply e = absurd (cc)

module _ (shape : Shape) (mode : Mode) (call : Call) where
  opens_early : (ps : List (ℕ × ℕ)) (stands : Found) (next : Found → Tree) (n : ℕ) → (ps ≡ []) ⊎ IsSettled call → ((f : Found) → IsOpen shape mode call n (next f)) → IsOpen shape mode call n (early_writes ps stands next)
  unfolding early_writes IsOpen
  opens_early [] stands next n s h = h stands
  opens_early (p ∷ ps) stands next n (inl e) h = absurd (cc)
  opens_early (p ∷ ps) stands next n (inr s) h = (s, opens_early ps _ next n (inr s) h)

  opens_copy : (count i src page : ℕ) (next : List ℕ → Tree) (n : ℕ) → count ≤ n → ((m : ℕ) (words : List ℕ) → IsOpen shape mode call m (next words)) → IsOpen shape mode call n (copy_words count i src page next)
  unfolding copy_words IsOpen
  opens_copy zero i src page next n le h = h n []
  opens_copy (suc count) i src page next n le h =
      (omega (arith, le), λ word. opens_copy count (suc i) src page (λ words. next (word ∷ words)) (n - 1) (omega (arith, le)) (λ m words. h m (word ∷ words)))

  opens_page : (d : Call) (at : ℕ) (next : Option PageInput → Tree) (n : ℕ) → copied_by d ≤ n → ((m : ℕ) (page : Option PageInput) → IsOpen shape mode call m (next page)) → IsOpen shape mode call n (copy_page d at next)
  unfolding copy_page
  opens_page (calls.LoadPage e va page src perms) at next n le h = opens_copy page_words 0 src page (λ words. next (Some (page_read at words))) n le (λ m words. h m (Some (page_read at words)))
  opens_page _ at next n le h = h n None

  opens_put : (place : Option ℕ) (d : Call) (next : Tree) (n : ℕ) → IsOpen shape mode call n next → IsOpen shape mode call n (put_pte place d next)
  unfolding put_pte IsOpen
  opens_put None d next n h = h
  opens_put (Some place) d next n h = h

  opens_on : (b : Bool) (t u : Tree) (n : ℕ) → IsOpen shape mode call n t → IsOpen shape mode call n u → IsOpen shape mode call n (go_on b t u)
  unfolding go_on
  opens_on true t u n h k = h
  opens_on false t u n h k = k

  opens_walk : (m : Shape) (va level count page : ℕ) (next : List (ℕ × ℕ) → Tree) (n room : ℕ) → count + room ≤ n → ((k : ℕ) (ptes : List (ℕ × ℕ)) → room ≤ k → IsOpen shape mode call k (next ptes)) → IsOpen shape mode call n (walk m va level count page next)
  unfolding walk IsOpen
  opens_walk m va level zero page next n room le h = h n [] (omega (arith, le))
  opens_walk m va level (suc count) page next n room le h = (
    omega (arith, le),
    λ word. opens_on (leads_to_table m word) _ _ (n - 1)
        (opens_walk m va (level - 1) count (page_led_to word) _ (n - 1) room (omega (arith, le)) (λ k ptes few. h k _ few))
        (h (n - 1) _ (omega (arith, le))),
  )

  opens_below : (m : Shape) (va count : ℕ) (root : Option ℕ) (next : List (ℕ × ℕ) → Tree) (n room : ℕ) → count + room ≤ n → ((k : ℕ) (ptes : List (ℕ × ℕ)) → room ≤ k → IsOpen shape mode call k (next ptes)) → IsOpen shape mode call n (walk_below m va count root next)
  unfolding walk_below
  opens_below m va count None next n room le h = h n [] (omega (arith, le))
  opens_below m va count (Some root) next n room le h = opens_walk m va 2 count root next n room le h

  -- ---- locks

  opens_reads : (o : ObjectId) (count i : ℕ) (next : List ℕ → Tree) (n : ℕ) → ((words : List ℕ) → IsOpen shape mode call n (next words)) → IsOpen shape mode call n (reads o count i next)
  unfolding reads IsOpen
  opens_reads o zero i next n h = h []
  opens_reads o (suc count) i next n h = λ word. opens_reads o count (suc i) _ n (λ words. h (word ∷ words))

  opens_meets : (by : Issuer) (found : Found) (o : ObjectId) (holder serial n : ℕ) → IsOpen shape mode call n (meets by call found o holder serial)
  unfolding meets IsOpen
  opens_meets by found o holder serial n = (record { of_call = refl; ok = λ e. absurd (cc) }, λ before. ends_unlocks (objects_of found))

  opens_try : (by : Issuer) (found : Found) (o : ObjectId) (next : Found → Tree) (n word : ℕ) → ((more : Found) → IsOpen shape mode call n (next more)) → IsOpen shape mode call n (after_try by call found o next (try_outcome word))
  unfolding after_try try_outcome
  opens_try by found o next n zero h = opens_reads o (width o) 0 _ n (λ words. h ((o, words) ∷ found))
  opens_try by found o next n (suc word) h = opens_meets by found o _ _ n

  opens_lock : (by : Issuer) (found : Found) (o : ObjectId) (next : Found → Tree) (n : ℕ) → ((more : Found) → IsOpen shape mode call n (next more)) → IsOpen shape mode call n (lock by call found o next)
  unfolding lock IsOpen
  opens_lock by found o next n h = λ word. opens_try by found o next n word h

  opens_all : (by : Issuer) (os : List ObjectId) (found : Found) (next : Found → Tree) (n : ℕ) → ((more : Found) → IsOpen shape mode call n (next more)) → IsOpen shape mode call n (lock_all by call os found next)
  unfolding lock_all
  opens_all by [] found next n h = h found
  opens_all by (o ∷ os) found next n h = opens_lock by found o _ n (λ more. opens_all by os more next n h)

  opens_plan : (m : Shape) (by : Issuer) (os : List ObjectId) (next : Found → Tree) (n : ℕ) → ((more : Found) → IsOpen shape mode call n (next more)) → IsOpen shape mode call n (lock_plan m by call os next)
  unfolding lock_plan
  opens_plan m by [] next n h = h []
  opens_plan m by (o ∷ os) next n h = opens_lock by [] o _ n (λ found. opens_all by _ found next n h)

  -- ---- calls that are not refused early

  module _ (none : early shape mode call ≡ None) where
    opens_finish : (by : Issuer) (reply : Reply) (page : Option PageInput) (held : List ObjectId) (known : State) (stands : Found) (n : ℕ) → IsOpen shape mode call n (finish by call reply page held known stands)
    unfolding finish IsOpen
    opens_finish by reply page held known stands n = (record { of_call = refl; ok = λ e. none }, λ before. ends_late_if (is_done reply) _ _ stands _ _ (ends_unlocks held))

    opens_load_if : (b : Bool) (by : Issuer) (reply : Reply) (ptes : List (ℕ × ℕ)) (known : State) (found : Found) (n : ℕ) → copied_by call ≤ n → IsOpen shape mode call n (load_if b by call reply ptes known found)
    unfolding load_if
    opens_load_if false by reply ptes known found n le = opens_finish by reply None (objects_of found) known found n
    opens_load_if true by reply ptes known found n le =
        opens_page call _ _ n le (λ m page. opens_put _ call _ m (opens_finish by reply page (objects_of found) known found m))

    opens_loaded : (by : Issuer) (known : State) (found : Found) (ptes : List (ℕ × ℕ)) (n : ℕ) → copied_by call ≤ n → IsOpen shape mode call n (loaded by call known found ptes)
    unfolding loaded
    opens_loaded by known found ptes n le = opens_load_if _ by _ ptes known found n le

    opens_loads_if : (b : Bool) (by : Issuer) (known : State) (found : Found) (n : ℕ) → path_length call + copied_by call ≤ n → IsOpen shape mode call n (loads_if b by call known found)
    unfolding loads_if
    opens_loads_if false by known found n le = opens_loaded by known found [] n (omega (arith, le))
    opens_loads_if true by known found n le =
        opens_below known.shape (va_of call) (path_length call) (enclave_at known (slot_of call)).root _ n (copied_by call) le (λ k ptes few. opens_loaded by known found ptes k few)

    opens_decided_by : (b : Bool) (by : Issuer) (known : State) (found : Found) (n : ℕ) → path_length call + copied_by call ≤ n → IsOpen shape mode call n (decided_by b by call known found)
    unfolding decided_by
    opens_decided_by true by known found n le = opens_loads_if _ by known found n le
    opens_decided_by false by known found n le =
        opens_early _ found _ n (settled _ known call) (λ f. opens_finish by (reply_of known by.core call) None (objects_of found) known f n)

    opens_decided : (m : Shape) (by : Issuer) (found : Found) (n : ℕ) → path_length call + copied_by call ≤ n → IsOpen shape mode call n (decided m by call found)
    unfolding decided
    opens_decided m by found n le = opens_decided_by (is_load call) by _ found n le

-- ---- every call

opens_unless : (shape : Shape) (by : Issuer) (call : Call) (o : Option Reply) (n : ℕ) → path_length call + copied_by call ≤ n → early shape by.mode call ≡ o → ((reply : Reply) → o ≡ Some reply → is_done reply ≡ false)
    → IsOpen shape by.mode call n (unless_refused o by call (lock_plan shape by call (plan_of shape by call []) (decided shape by call)))
unfolding unless_refused IsOpen IsEnding
opens_unless shape by call (Some reply) n le e refused = (record { of_call = refl; ok = λ d. absurd (let f = refused reply refl in cc) }, λ before. tt)
opens_unless shape by call None n le e refused = opens_plan shape by.mode call shape by _ (decided shape by call) n (λ found. opens_decided shape by.mode call e shape by found n le)

pub calls_open : CallsAreOpen
unfolding call_tree
calls_open shape by call =
    opens_unless shape by call (early shape by.mode call) (most_loads call) (paths_few call) refl
    (λ reply e. early_refuses (is_unsupported call) (is_wrong_mode by.mode call) (is_bad_value shape call) reply e)

-- no call loads more than a load_page
pub loads_few : (call : Call) → most_loads call ≤ 515
loads_few (calls.LoadTable e va level page) = omega arith
loads_few (calls.LoadPage e va page src perms) = omega arith
loads_few (calls.Reserve e va page perms) = omega arith
loads_few _ = omega arith
