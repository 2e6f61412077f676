-- The tree of each call goes by stages: it takes the plan's locks, draws one ticket for this call with what it has tried,
-- and then takes no lock; where it finds a lock held, it draws its ticket at once.
use Rattle.std.proofs.Common.{◌≡◌, inl, inr, ◌+◌, ◌*◌, ◌-◌, ◌%◌, ◌∙◌, ℕ, zero, suc, Bool, true, false, cond, ◌==◌, ◌&&◌, Option, Some, None, List, [], ◌∷◌, ◌++◌, length, ap, sym, refl, subst, slice_index, arith}
use Rattle.std.specs.List.{AllByRecursion}
use Rattle.mon_types.specs.Shape.{Shape, region_of_page}
use Rattle.mon_types.specs.Owns.{own_word, owner_code}
use Rattle.mon_types.specs.Objects.{width}
use Rattle.mon_types.specs.Replies.{is_done, is_concurrent, done_if}
use Rattle.mon_types.specs.declared.region.Region.{Region}
use Rattle.mon_types.specs.declared.region.Region.TheVariants as regions
use Rattle.mon_types.specs.declared.enclave.Enclave.{Enclave}
use Rattle.mon_types.specs.declared.thread.Mode.{Mode}
use Rattle.mon_types.specs.declared.thread.Mode.TheVariants as modes
use Rattle.mon_types.specs.declared.call.Call.{Call}
use Rattle.mon_types.specs.declared.call.Call.TheVariants as calls
use Rattle.mon_types.specs.declared.reply.Reply.{Reply}
use Rattle.mon_types.specs.declared.reply.Reply.TheVariants as replies
use Rattle.mon_types.specs.declared.object.ObjectId.{ObjectId}
use Rattle.mon_model.specs.State.{State, region_at, enclave_at, mode_of}
use Rattle.mon_model.specs.Early.{early, is_unsupported, is_wrong_mode, is_bad_value}
use Rattle.mon_model.specs.EveryReply.{never_met}
use Rattle.mon_model.specs.RegionCalls.{block_reply, blocked}
use Rattle.mon_model.specs.Step.{reply_of, changed, regions_of}
use Rattle.mon_model.proofs.Carried.{carried}
use Rattle.mon_model.specs.EnclaveCalls.{is_os_owned, table_fits, leaf_fits}
use Rattle.mon_model.specs.Loading.{takes_page, reserves_page}
use Rattle.dram_map.specs.Addresses.{region_of_word}
use Rattle.sv39_pte.specs.Tables.{pte_place, leads_to_table, page_led_to, last_place}
use Rattle.mon_enclaves.specs.ByWords.{words_fit, leaf_path, table_path}
use Rattle.mon_enclaves.specs.LoadReply.{is_load, slot_of, va_of, path_length, source_of, reply_by_words, words_reply}
use Rattle.mon_records.specs.Rows.{Found, row_words, words_of, objects_of}
use Rattle.mon_records.specs.Rebuilt.{state_of}
use Rattle.mon_records.specs.EarlyWords.{withdrawn_word, withdrawn_words, early_words}
use Rattle.mon_records.specs.Answers.{freed}
use Rattle.mon_records.specs.Members.{In}
use Rattle.hist.specs.declared.event.PageInput.{PageInput}
use Rattle.hist.specs.History.{digest_of}
use Rattle.protocol.specs.declared.action.Action.{Action}
use Rattle.protocol.specs.declared.action.Draft.{Draft}
use Rattle.protocol.specs.declared.action.Outcome.{Outcome}
use Rattle.protocol.specs.declared.action.Outcome.TheVariants as outcomes
use Rattle.protocol.specs.CallTree.{Tree, Makes, Issuer, number_in, onto, draft_of, unlocks, words_in_region, zeros, words_freed, write_unless, row_writes, late_writes, late_if, finish, early_writes, copy_words, page_read, copy_page, put_pte, go_on, walk, walk_below, places_of, ptes_of, load_if, loaded, loads_if, early_if, decided_by, decided, reads, meets, after_try, lock, lock_all, plan_of, behind_first, lock_plan, unless_refused, call_tree}
use Rattle.protocol.specs.Permitted.{Follows}
use Rattle.protocol.specs.Records.{withdraws_any, ReadsBlocked}
use Rattle.protocol_laws.proofs.Writing.{in_region}
use Rattle.protocol_steps.specs.Stages.{Locking, Met, Drawn, stage_tried, stage_locking, stage_met, stage_by, stage_of, Goes}

-- ---- replies

plain_if : (b : Bool) → is_concurrent (done_if b) ≡ false
plain_if true = refl
plain_if false = refl

plain_page : (a b c : Bool) → is_concurrent (cond a (cond b (done_if c) replies.AccessDenied) replies.InvalidState) ≡ false
plain_page true true c = plain_if c
plain_page true false c = refl
plain_page false b c = refl

plain_words : (shape : Shape) (x : Enclave) (g : Region) (call : Call) (words : List ℕ) → is_concurrent (reply_by_words shape x g call words) ≡ false
plain_words shape x g (calls.LoadTable e va level page) words = plain_if (takes_page shape x page && table_fits x va level && words_fit shape (table_path level) words)
plain_words shape x g (calls.LoadPage e va page src perms) words = plain_page (takes_page shape x page && leaf_fits x va) (is_os_owned g) (words_fit shape leaf_path words)
plain_words shape x g (calls.Reserve e va page perms) words = plain_if (reserves_page shape x page && leaf_fits x va && words_fit shape leaf_path words)
plain_words shape x g _ words = refl

some_reply : {a b : Reply} → Some a ≡ Some b → a ≡ b
some_reply e = cc

plain_early : (a b c : Bool) (refusal : Reply) → cond a (Some replies.Unsupported) (cond b (Some replies.AccessDenied) (cond c (Some replies.InvalidValue) None)) ≡ Some refusal → is_concurrent refusal ≡ false
plain_early true b c refusal e = ap is_concurrent (sym (some_reply e))
plain_early false true c refusal e = ap is_concurrent (sym (some_reply e))
plain_early false false true refusal e = ap is_concurrent (sym (some_reply e))
plain_early false false false refusal e = absurd (cc)

-- ---- early words

blocked_word : (mode : Mode) (g : Region) → is_done (block_reply mode g) ≡ true → ReadsBlocked (own_word (blocked g 0))
blocked_word mode regions.Free d = absurd (cc)
blocked_word mode (regions.Owned owner since) d = reads (owner_code owner) since
  where
    reads : (o since : ℕ) → (2 + 4 * o + 64 * since) % 4 ≡ 2
    reads o since = omega arith
blocked_word mode (regions.Blocked owner since at) d = absurd (cc)
blocked_word modes.Os (regions.Offered to at) d = reads to at
  where
    reads : (to at : ℕ) → (2 + 4 * (1 + to) + 64 * at) % 4 ≡ 2
    reads to at = omega arith
blocked_word (modes.Inside e t) (regions.Offered to at) d = absurd (cc)

-- each of these words reads Blocked
abbrev AllBlocked : List (ℕ × ℕ) → Type 0
AllBlocked ps = AllByRecursion (λ p. ReadsBlocked p.1) ps

all_more : (ps qs : List (ℕ × ℕ)) → AllBlocked ps → AllBlocked qs → AllBlocked (ps ++ qs)
all_more [] qs h k = k
all_more (p ∷ ps) qs h k = (h.0, all_more ps qs h.1 k)

withdrawn_blocked : (r : ℕ) (g : Region) → AllBlocked (withdrawn_word r g)
withdrawn_blocked r regions.Free = tt
withdrawn_blocked r (regions.Owned owner since) = (reads (owner_code owner) since, tt)
  where
    reads : (o since : ℕ) → (2 + 4 * o + 64 * since) % 4 ≡ 2
    reads o since = omega arith
withdrawn_blocked r (regions.Blocked owner since at) = tt
withdrawn_blocked r (regions.Offered to at) = tt

all_withdrawn : (s : State) (rs : List ℕ) → AllBlocked (withdrawn_words s rs)
all_withdrawn s [] = tt
all_withdrawn s (r ∷ rs) = all_more (withdrawn_word r (region_at s r)) (withdrawn_words s rs) (withdrawn_blocked r (region_at s r)) (all_withdrawn s rs)

-- early words of a call, if there are any, read Blocked, and the call is one that withdraws
abbrev AreEarly : Call → List (ℕ × ℕ) → Type 0
AreEarly call ps = AllByRecursion (λ p. ReadsBlocked p.1 × (withdraws_any call ≡ true)) ps

with_call : (call : Call) (ps : List (ℕ × ℕ)) → withdraws_any call ≡ true → AllBlocked ps → AreEarly call ps
with_call call [] w h = tt
with_call call (p ∷ ps) w h = ((h.0, w), with_call call ps w h.1)

early_are : (s : State) (core : ℕ) (call : Call) → is_done (reply_of s core call) ≡ true → AreEarly call (early_words s call)
unfolding early_words
early_are s core (calls.Block r) d = ((blocked_word (mode_of s core) (region_at s r) (carried s core (calls.Block r) d).held, refl), tt)
early_are s core (calls.Delete e) d = with_call (calls.Delete e) (withdrawn_words s (regions_of s e)) refl (all_withdrawn s (regions_of s e))
early_are s core _ d = tt

early_are_if : (b : Bool) (s : State) (core : ℕ) (call : Call) → (b ≡ true → is_done (reply_of s core call) ≡ true) → AreEarly call (early_if b s call)
unfolding early_if
early_are_if true s core call d = early_are s core call (d refl)
early_are_if false s core call d = tt

module _ (shape : Shape) (by : Issuer) (call : Call) where
  -- ---- behind the Draw

  module _ (draft : Draft) where
    goes_unlocks : (os : List ObjectId) → Goes shape call (Drawn draft) (unlocks os)
    unfolding unlocks stage_by
    goes_unlocks [] = tt
    goes_unlocks (o ∷ os) = (tt, (λ out. refl), λ out. goes_unlocks os)

    goes_unless : (b : Bool) (o : ObjectId) (i word : ℕ) (next : Tree) → Goes shape call (Drawn draft) next → Goes shape call (Drawn draft) (write_unless b o i word next)
    unfolding write_unless stage_by
    goes_unless true o i word next g = g
    goes_unless false o i word next g = (tt, (λ out. refl), λ out. g)

    goes_row : (o : ObjectId) (i : ℕ) (xs wanted : List ℕ) (next : Tree) → Goes shape call (Drawn draft) next → Goes shape call (Drawn draft) (row_writes o i xs wanted next)
    unfolding row_writes
    goes_row o i [] wanted next g = g
    goes_row o i (x ∷ xs) wanted next g =
        goes_unless (x == slice_index wanted i) o i (slice_index wanted i) (row_writes o (suc i) xs wanted next) (goes_row o (suc i) xs wanted next g)

    goes_late : (os : List ObjectId) (found : Found) (s : State) (next : Tree) → Goes shape call (Drawn draft) next → Goes shape call (Drawn draft) (late_writes os found s next)
    unfolding late_writes
    goes_late [] found s next g = g
    goes_late (o ∷ os) found s next g =
        goes_row o 0 (words_of found o) (row_words s o) (late_writes os found s next) (goes_late os found s next g)

    goes_zeros : (is : List ℕ) (next : Tree) → ((i : ℕ) → In i is → freed draft.reply draft.call ≡ Some (region_of_word shape i)) → Goes shape call (Drawn draft) next → Goes shape call (Drawn draft) (zeros is next)
    unfolding zeros stage_by
    goes_zeros [] next of g = g
    goes_zeros (i ∷ is) next of g = ((refl, of i (inl refl)), (λ out. refl), λ out. goes_zeros is next (λ j h. of j (inr h)) g)

    goes_freed : (named : Option ℕ) (next : Tree) → freed draft.reply draft.call ≡ named → Goes shape call (Drawn draft) next → Goes shape call (Drawn draft) (zeros (words_freed shape named) next)
    goes_freed None next e g = goes_zeros [] next (λ i h. absurd h) g
    goes_freed (Some r) next e g = goes_zeros (words_in_region shape r) next (λ i h. e ∙ ap Some (sym (in_region shape r i h).1)) g

    goes_late_if : (b : Bool) (named : Option ℕ) (held : List ObjectId) (stands : Found) (new : State) → freed draft.reply draft.call ≡ named → Goes shape call (Drawn draft) (late_if b (words_freed shape named) (onto held []) stands new (unlocks held))
    unfolding late_if
    goes_late_if true named held stands new e = goes_freed named (late_writes (onto held []) stands new (unlocks held)) e (goes_late (onto held []) stands new (unlocks held) (goes_unlocks held))
    goes_late_if false named held stands new e = goes_unlocks held

  -- ---- the Draw

  goes_finish : (reply : Reply) (page : Option PageInput) (held : List ObjectId) (known : State) (stands : Found) → known.shape ≡ shape → is_concurrent reply ≡ false → Goes shape call (Locking held) (finish by call reply page held known stands)
  unfolding finish stage_by stage_locking
  goes_finish reply page held known stands same plain = (
    (refl, refl, plain),
    tt,
    λ out. (let draft : Draft = draft_of by call reply (onto held []) page in
        let new : State = changed reply known by.core call (digest_of page) (number_in out) in
        subst (λ z. Goes shape call (Drawn draft) (late_if (is_done reply) (words_freed z (freed reply call)) (onto held []) stands new (unlocks held))) (sym same)
        (goes_late_if draft (is_done reply) (freed reply call) held stands new refl)),
  )

  -- ---- early moves

  goes_early : (ps : List (ℕ × ℕ)) (found : Found) (held : List ObjectId) (next : Found → Tree) → AreEarly call ps → ((f : Found) → Goes shape call (Locking held) (next f)) → Goes shape call (Locking held) (early_writes ps found next)
  unfolding early_writes stage_by stage_locking
  goes_early [] found held next are g = g found
  goes_early (p ∷ ps) found held next are g = ((refl, are.0.0, are.0.1), tt, λ out. goes_early ps _ held next are.1 g)

  goes_copy : (count i src page : ℕ) (held : List ObjectId) (next : List ℕ → Tree) → is_load call ≡ true → ((words : List ℕ) → Goes shape call (Locking held) (next words)) → Goes shape call (Locking held) (copy_words count i src page next)
  unfolding copy_words stage_by stage_locking
  goes_copy zero i src page held next load g = g []
  goes_copy (suc count) i src page held next load g =
      (tt, tt, λ out. (load, tt, λ done. goes_copy count (suc i) src page held (λ words. next (number_in out ∷ words)) load (λ words. g (number_in out ∷ words))))

  goes_copy_page : (c : Call) (at : ℕ) (held : List ObjectId) (next : Option PageInput → Tree) → is_load call ≡ true → ((page : Option PageInput) → Goes shape call (Locking held) (next page)) → Goes shape call (Locking held) (copy_page c at next)
  unfolding copy_page
  goes_copy_page (calls.LoadPage e va page src perms) at held next load g = goes_copy 512 0 src page held (λ words. next (Some (page_read at words))) load (λ words. g (Some (page_read at words)))
  goes_copy_page _ at held next load g = g None

  goes_put : (at : Option ℕ) (held : List ObjectId) (next : Tree) → is_load call ≡ true → Goes shape call (Locking held) next → Goes shape call (Locking held) (put_pte at call next)
  unfolding put_pte stage_by stage_locking
  goes_put None held next load g = g
  goes_put (Some place) held next load g = (load, tt, λ out. g)

  goes_on_if : (b : Bool) (held : List ObjectId) (further end : Tree) → Goes shape call (Locking held) further → Goes shape call (Locking held) end → Goes shape call (Locking held) (go_on b further end)
  unfolding go_on
  goes_on_if true held further end f g = f
  goes_on_if false held further end f g = g

  goes_walk : (va level count page : ℕ) (held : List ObjectId) (next : List (ℕ × ℕ) → Tree) → ((ptes : List (ℕ × ℕ)) → Goes shape call (Locking held) (next ptes)) → (m : Shape) → Goes shape call (Locking held) (walk m va level count page next)
  unfolding walk stage_by stage_locking
  goes_walk va level zero page held next g m = g []
  goes_walk va level (suc count) page held next g m = (
    tt,
    tt,
    λ out. goes_on_if (leads_to_table m (number_in out)) held
        (walk m va (level - 1) count (page_led_to (number_in out)) (λ rest. next ((pte_place page level va, number_in out) ∷ rest)))
        (next ((pte_place page level va, number_in out) ∷ []))
        (goes_walk va (level - 1) count (page_led_to (number_in out)) held (λ rest. next ((pte_place page level va, number_in out) ∷ rest)) (λ rest. g ((pte_place page level va, number_in out) ∷ rest)) m)
        (g ((pte_place page level va, number_in out) ∷ [])),
  )

  goes_walk_below : (va count : ℕ) (root : Option ℕ) (held : List ObjectId) (next : List (ℕ × ℕ) → Tree) → ((ptes : List (ℕ × ℕ)) → Goes shape call (Locking held) (next ptes)) → (m : Shape) → Goes shape call (Locking held) (walk_below m va count root next)
  unfolding walk_below
  goes_walk_below va count None held next g m = g []
  goes_walk_below va count (Some root) held next g m = goes_walk va 2 count root held next g m

  -- ---- the reply is decided

  module _ (found : Found) (known : State) (same : known.shape ≡ shape) where
    goes_load_if : (b : Bool) (reply : Reply) (ptes : List (ℕ × ℕ)) → is_load call ≡ true → is_concurrent reply ≡ false → Goes shape call (Locking (objects_of found)) (load_if b by call reply ptes known found)
    unfolding load_if
    goes_load_if false reply ptes load plain = goes_finish reply None (objects_of found) known found same plain
    goes_load_if true reply ptes load plain =
        goes_copy_page call (by.answers + length ptes) (objects_of found) (λ page. put_pte (last_place (places_of ptes)) call (finish by call reply page (objects_of found) known found)) load
        (λ page. goes_put (last_place (places_of ptes)) (objects_of found) (finish by call reply page (objects_of found) known found) load (goes_finish reply page (objects_of found) known found same plain))

    goes_loaded : (ptes : List (ℕ × ℕ)) → is_load call ≡ true → Goes shape call (Locking (objects_of found)) (loaded by call known found ptes)
    unfolding loaded
    goes_loaded ptes load = goes_load_if (is_done (words_reply known call (ptes_of ptes))) (words_reply known call (ptes_of ptes)) ptes load (plain_words known.shape (enclave_at known (slot_of call)) (region_at known (region_of_page known.shape (source_of call))) call (ptes_of ptes))

    goes_loads_if : (b : Bool) → is_load call ≡ true → Goes shape call (Locking (objects_of found)) (loads_if b by call known found)
    unfolding loads_if
    goes_loads_if false load = goes_loaded [] load
    goes_loads_if true load = goes_walk_below (va_of call) (path_length call) (enclave_at known (slot_of call)).root (objects_of found) (loaded by call known found) (λ ptes. goes_loaded ptes load) known.shape

    goes_decided_by : (b : Bool) → is_load call ≡ b → Goes shape call (Locking (objects_of found)) (decided_by b by call known found)
    unfolding decided_by
    goes_decided_by true load = goes_loads_if (is_done (words_reply known call [])) load
    goes_decided_by false plain =
        goes_early (early_if (is_done (reply_of known by.core call)) known call) found (objects_of found) (finish by call (reply_of known by.core call) None (objects_of found) known)
        (early_are_if (is_done (reply_of known by.core call)) known by.core call (λ d. d))
        (λ f. goes_finish (reply_of known by.core call) None (objects_of found) known f same (never_met known by.core call))

  shape_same : (mode : Mode) (found : Found) → (state_of shape mode found).shape ≡ shape
  unfolding state_of
  shape_same mode found = refl

  goes_decided : (found : Found) → Goes shape call (Locking (objects_of found)) (decided shape by call found)
  unfolding decided
  goes_decided found = goes_decided_by found (state_of shape by.mode found) (shape_same by.mode found) (is_load call) refl

  -- ---- locks

  goes_reads : (o : ObjectId) (count i : ℕ) (held : List ObjectId) (next : List ℕ → Tree) → ((words : List ℕ) → Goes shape call (Locking held) (next words)) → Goes shape call (Locking held) (reads o count i next)
  unfolding reads stage_by stage_locking
  goes_reads o zero i held next g = g []
  goes_reads o (suc count) i held next g = (tt, tt, λ out. goes_reads o count (suc i) held (λ words. next (number_in out ∷ words)) (λ words. g (number_in out ∷ words)))

  goes_met : (found : Found) (o : ObjectId) (holder serial : ℕ) → Goes shape call (Met o holder serial (objects_of found)) (meets by call found o holder serial)
  unfolding meets stage_by stage_met
  goes_met found o holder serial =
      ((refl, refl, refl), tt, λ out. goes_unlocks (draft_of by call (replies.ConcurrentCall o holder serial) (onto (o ∷ objects_of found) []) None) (objects_of found))

  goes_tried : (found : Found) (o : ObjectId) (next : Found → Tree) → ((f : Found) → Goes shape call (Locking (objects_of f)) (next f)) → (out : Outcome) → Goes shape call (stage_tried (objects_of found) o out) (after_try by call found o next out)
  unfolding after_try stage_tried objects_of
  goes_tried found o next g outcomes.Taken = goes_reads o (width o) 0 (o ∷ objects_of found) (λ words. next ((o, words) ∷ found)) (λ words. g ((o, words) ∷ found))
  goes_tried found o next g (outcomes.HeldBy holder serial) = goes_met found o holder serial
  goes_tried found o next g (outcomes.Word word) = tt
  goes_tried found o next g (outcomes.Ticket ticket) = tt
  goes_tried found o next g outcomes.Done = tt
  goes_tried found o next g (outcomes.Again old word) = tt

  goes_lock : (found : Found) (o : ObjectId) (next : Found → Tree) → ((f : Found) → Goes shape call (Locking (objects_of f)) (next f)) → Goes shape call (Locking (objects_of found)) (lock by call found o next)
  unfolding lock stage_by stage_locking
  goes_lock found o next g = (tt, tt, λ out. goes_tried found o next g out)

  goes_lock_all : (os : List ObjectId) (found : Found) (next : Found → Tree) → ((f : Found) → Goes shape call (Locking (objects_of f)) (next f)) → Goes shape call (Locking (objects_of found)) (lock_all by call os found next)
  unfolding lock_all
  goes_lock_all [] found next g = g found
  goes_lock_all (o ∷ os) found next g = goes_lock found o (λ more. lock_all by call os more next) (λ f. goes_lock_all os f next g)

  goes_plan : (os : List ObjectId) (next : Found → Tree) → ((f : Found) → Goes shape call (Locking (objects_of f)) (next f)) → Goes shape call (Locking []) (lock_plan shape by call os next)
  unfolding lock_plan objects_of
  goes_plan [] next g = g []
  goes_plan (o ∷ os) next g = goes_lock [] o (λ f. lock_all by call (behind_first (plan_of shape by call f)) f next) (λ f. goes_lock_all (behind_first (plan_of shape by call f)) f next g)

  -- ---- the whole

  goes_refused : (refusal : Option Reply) (next : Tree) → early shape by.mode call ≡ refusal → Goes shape call (Locking []) next → Goes shape call (Locking []) (unless_refused refusal by call next)
  unfolding unless_refused stage_by stage_locking onto
  goes_refused None next e g = g
  goes_refused (Some refusal) next e g = ((refl, refl, plain_early (is_unsupported call) (is_wrong_mode by.mode call) (is_bad_value shape call) refusal e), tt, λ out. tt)

  pub goes_call : Goes shape call (Locking []) (call_tree shape by call)
  unfolding call_tree
  goes_call = goes_refused (early shape by.mode call) (lock_plan shape by call (plan_of shape by call []) (decided shape by call)) refl (goes_plan (plan_of shape by call []) (decided shape by call) goes_decided)

pub goes_from : (shape : Shape) (call : Call) (tree : Tree) (ms : List (Action × Outcome)) (rest : Tree) → Goes shape call (Locking []) tree → Follows tree ms rest → Goes shape call (stage_of ms) rest
unfolding stage_of
goes_from shape call tree [] rest g h = subst (λ z. Goes shape call (Locking []) z) h g
goes_from shape call tree (m ∷ ms) rest g h =
    subst (λ z. Goes shape call (stage_by (stage_of ms) m.0 m.1) z) h.2 ((goes_from shape call tree ms (Makes m.0 h.0) g h.1).2 m.1)

-- of the moves so far of a call, and then this one
pub goes_now : (shape : Shape) (by : Issuer) (call : Call) (ms : List (Action × Outcome)) (rest : Tree) → Follows (call_tree shape by call) ms rest → Goes shape call (stage_of ms) rest
goes_now shape by call ms rest h = goes_from shape call (call_tree shape by call) ms rest (goes_call shape by call) h
