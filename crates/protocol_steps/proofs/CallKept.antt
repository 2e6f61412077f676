-- What is kept beside of a core's call under way: what it has written and stored so far, and what its Draw has left to do.
use Rattle.std.proofs.Common.{◌≡◌, ◌⊎◌, inl, inr, ◌+◌, ◌*◌, ◌<◌, ◌%◌, ◌∙◌, ℕ, zero, suc, Bool, true, false, cond, eqb, Some, None, List, [], ◌∷◌, ap, sym, refl, subst, get_or, set, arith}
use Rattle.std.specs.Prelude.{IsSomeAnd}
use Rattle.std.proofs.lemmas.Bool.{cases_eq}
use Rattle.std.proofs.lemmas.List.{get_or-set_other}
use Rattle.mon_types.specs.Shape.{Shape}
use Rattle.mon_types.specs.Objects.{width}
use Rattle.mon_types.specs.Owns.{own_word}
use Rattle.mon_types.specs.Replies.{is_done, is_concurrent}
use Rattle.mon_types.specs.Modes.{own_slot}
use Rattle.mon_types.specs.declared.region.Owner.TheVariants as owners
use Rattle.mon_types.specs.declared.region.Region.{Region}
use Rattle.mon_types.specs.declared.region.Region.TheVariants as regions
use Rattle.mon_types.specs.declared.call.Call.{Call}
use Rattle.mon_types.specs.declared.call.Call.TheVariants as calls
use Rattle.mon_types.specs.declared.object.ObjectId.{ObjectId}
use Rattle.mon_types.specs.declared.object.ObjectId.TheVariants as objects
use Rattle.mon_model.specs.State.{State, region_at, mode_of}
use Rattle.mon_model.specs.RegionCalls.{accept_region_reply}
use Rattle.mon_model.specs.RegionStep.{is_idle}
use Rattle.mon_model.specs.Step.{reply_of, after, effect}
use Rattle.mon_model.proofs.Carried.{carried}
use Rattle.dram_map.specs.Addresses.{word_total, region_of_word}
use Rattle.mon_records.specs.Answers.{freed_where_ok, freed}
use Rattle.mon_records.specs.Members.{In}
use Rattle.mon_records.proofs.Members.{in_contains}
use Rattle.hist.specs.declared.event.Entry.{Entry}
use Rattle.hist.specs.History.{digest_of}
use Rattle.loaded_pages.specs.Content.{Content}
use Rattle.protocol.specs.declared.action.Action.{Action}
use Rattle.protocol.specs.declared.action.Action.TheVariants as actions
use Rattle.protocol.specs.declared.action.Draft.{Draft}
use Rattle.protocol.specs.declared.action.Outcome.{Outcome}
use Rattle.protocol.specs.declared.action.Outcome.TheVariants as outcomes
use Rattle.protocol.specs.Places.{Row, Dram, Memory, row_word}
use Rattle.protocol.specs.CallTree.{Tree, Issuer, call_tree}
use Rattle.protocol.specs.Views.{Moves, held_of, entries_in, call_moves, issuer_of}
use Rattle.protocol.specs.Permitted.{Follows}
use Rattle.protocol.specs.Right.{last_entry}
use Rattle.protocol.specs.Contents.{stored_by, stored_so_far}
use Rattle.protocol.specs.Records.{is_accept_region, ReadsOffered}
use Rattle.protocol_laws.specs.Known.{Keeps, KeepsLoading, LooksSame}
use Rattle.protocol_laws.specs.Safe.{IsRightDraft, drawn_state}
use Rattle.protocol_laws.proofs.Agreeing.{agree_sym, loading_agree, loading_kept}
use Rattle.protocol_laws.proofs.Steps.{word_agree}
use Rattle.protocol_steps.specs.Stages.{Stage, Locking, Met, Drawn, Astray, stage_of}
use Rattle.protocol_steps.proofs.Kept.{concurrent_not_done}
use Rattle.protocol_steps.proofs.Moving.{wide_region}
use Rattle.protocol_steps.proofs.Views.{none_held}

-- the call has written this word there, and it stands
pub record WroteEarly (done : List (Action × Outcome)) (memory : Memory) (o : ObjectId) (i : ℕ) : Type 0 where
  pub word : ℕ
  pub written : In (actions.Write o i word, outcomes.Done) done
  pub stands : memory (Row o i) ≡ word

-- A call without a ticket holds what it has taken: rows are those of the records but for what it has written early; the
-- words of idle regions are zeros; and what it has stored is in a Loading enclave's words that it keeps, where the words
-- are the content's but for that.
pub record BeforeDraw (shape : Shape) (s : State) (content : Content) (memory : Memory) (held : List ObjectId) (done : List (Action × Outcome)) (taken : List ObjectId) : Type 0 where
  pub taken_is : taken ≡ held
  pub rows : (o : ObjectId) (i : ℕ) → In o held → i < width o → (memory (Row o i) ≡ row_word s o i) ⊎ WroteEarly done memory o i
  pub idle : (i : ℕ) → i < word_total shape → In (objects.Region (region_of_word shape i)) held → is_idle (region_at s (region_of_word shape i)) ≡ true → memory (Dram i) ≡ 0
  pub where_stored : (i : ℕ) → ((x : ℕ) → stored_so_far done i x ≡ x) ⊎ KeepsLoading s held i
  pub stored : (i : ℕ) → i < word_total shape → KeepsLoading s held i → memory (Dram i) ≡ stored_so_far done i (content i)

-- A call with its ticket: its entry is the core's last; a region that it has freed and holds is Free; after an
-- accept_region an own-word that is still to be written reads Offered; and the words of Loading enclaves as before.
pub record BehindDraw (shape : Shape) (s : State) (content : Content) (memory : Memory) (held : List ObjectId) (done : List (Action × Outcome)) (entries : List Entry) (draft : Draft) : Type 0 where
  pub last : IsSomeAnd (last_entry entries) (λ e. (e.reply ≡ draft.reply) × (e.call ≡ draft.call))
  pub free : (r : ℕ) → freed draft.reply draft.call ≡ Some r → In (objects.Region r) held → region_at s r ≡ regions.Free
  pub offered : is_accept_region draft.call ≡ true → (r : ℕ) → In (objects.Region r) held → (memory (Row (objects.Region r) 0) ≡ row_word s (objects.Region r) 0) ⊎ ReadsOffered (memory (Row (objects.Region r) 0))
  pub stored : (i : ℕ) → i < word_total shape → KeepsLoading s held i → memory (Dram i) ≡ stored_so_far done i (content i)

-- at each stage
abbrev pub AtStage : Shape → State → Content → Memory → List ObjectId → List (Action × Outcome) → List Entry → Stage → Type 0
AtStage shape s content memory held done entries (Locking os) = BeforeDraw shape s content memory held done os
AtStage shape s content memory held done entries (Met lock holder serial os) = BeforeDraw shape s content memory held done os
AtStage shape s content memory held done entries (Drawn draft) = BehindDraw shape s content memory held done entries draft
AtStage shape s content memory held done entries Astray = ⊥

-- of one core; and its moves are those of some call
pub record CallKept (shape : Shape) (s : State) (content : Content) (memory : Memory) (core : ℕ) (ms : Moves) : Type 0 where
  pub at_stage : AtStage shape s content memory (held_of ms) (call_moves ms) (entries_in core ms) (stage_of (call_moves ms))
  pub call : Call
  pub rest : Tree
  pub follows : Follows (call_tree shape (issuer_of core ms) call) (call_moves ms) rest

-- ---- another core moves

module _ (shape : Shape) (core : ℕ) (s t : State) (f g : Content) (held : List ObjectId) (l m : Memory) (shaped : s.shape ≡ shape) (looks : LooksSame core s f held l t g m) where
  row_still : (o : ObjectId) (i : ℕ) → In o held → i < width o → l (Row o i) ≡ row_word s o i → m (Row o i) ≡ row_word t o i
  row_still o i h b e = looks.rows o i h b ∙ e ∙ word_agree s t core held looks.agree o h i

  stored_still : (done : List (Action × Outcome)) → ((i : ℕ) → i < word_total shape → KeepsLoading s held i → l (Dram i) ≡ stored_so_far done i (f i)) → (i : ℕ) → i < word_total shape → KeepsLoading t held i → m (Dram i) ≡ stored_so_far done i (g i)
  stored_still done stored i b k =
      let before = loading_agree t s core held (agree_sym s t core held looks.agree) i k in
      let kept = loading_kept s held i before in
      looks.words i kept ∙ stored i b before ∙ ap (stored_so_far done i) (sym (looks.kept i kept))

  before_frame : (done : List (Action × Outcome)) (taken : List ObjectId) → BeforeDraw shape s f l held done taken → BeforeDraw shape t g m held done taken
  before_frame done taken was = record {
    taken_is = was.taken_is;
    rows = λ o i h b. elim (was.rows o i h b) [
      | inl e ↦ inl (row_still o i h b e)
      | inr w ↦ inr (record { word = w.word; written = w.written; stands = looks.rows o i h b ∙ w.stands })
    ];
    idle = λ i b h e.
        (let before : is_idle (region_at s (region_of_word shape i)) ≡ true = ap is_idle (sym (looks.agree.region (region_of_word shape i) (in_contains held (objects.Region (region_of_word shape i)) h))) ∙ e in
        let kept : Keeps s held i = record { who = objects.Region (region_of_word shape i); held_is = h; answers = record { is = (ap (λ z. region_of_word z i) (sym shaped), before) } } in
        looks.words i kept ∙ was.idle i b h before);
    where_stored = λ i. elim (was.where_stored i) [ inl e ↦ inl e | inr k ↦ inr (loading_agree s t core held looks.agree i k) ];
    stored = stored_still done was.stored;
  }

  behind_frame : (done : List (Action × Outcome)) (entries : List Entry) (draft : Draft) → BehindDraw shape s f l held done entries draft → BehindDraw shape t g m held done entries draft
  behind_frame done entries draft was = record {
    last = was.last;
    free = λ r e h. looks.agree.region r (in_contains held (objects.Region r) h) ∙ was.free r e h;
    offered = λ a r h. elim (was.offered a r h) [
      | inl e ↦ inl (row_still (objects.Region r) 0 h (wide_region r) e)
      | inr o ↦ inr (ap (λ z. z % 4) (looks.rows (objects.Region r) 0 h (wide_region r)) ∙ o)
    ];
    stored = stored_still done was.stored;
  }

  stage_frame : (done : List (Action × Outcome)) (entries : List Entry) (stage : Stage) → AtStage shape s f l held done entries stage → AtStage shape t g m held done entries stage
  stage_frame done entries (Locking os) at = before_frame done os at
  stage_frame done entries (Met lock holder serial os) at = before_frame done os at
  stage_frame done entries (Drawn draft) at = behind_frame done entries draft at
  stage_frame done entries Astray at = at

pub call_frame : (shape : Shape) (core : ℕ) (ms : Moves) (s t : State) (f g : Content) (l m : Memory) → s.shape ≡ shape → CallKept shape s f l core ms → LooksSame core s f (held_of ms) l t g m → CallKept shape t g m core ms
call_frame shape core ms s t f g l m shaped more looks = record {
  at_stage = stage_frame shape core s t f g (held_of ms) l m shaped looks (call_moves ms) (entries_in core ms) (stage_of (call_moves ms)) more.at_stage;
  call = more.call;
  rest = more.rest;
  follows = more.follows;
}

-- ---- no call is under way

nothing_yet : (shape : Shape) (s : State) (content : Content) (memory : Memory) → BeforeDraw shape s content memory [] [] []
unfolding stored_so_far
nothing_yet shape s content memory = record {
  taken_is = refl;
  rows = λ o i h b. absurd h;
  idle = λ i b h e. absurd h;
  where_stored = λ i. inl (λ x. refl);
  stored = λ i b k. absurd k.held_is;
}

pub call_idle : (shape : Shape) (s : State) (content : Content) (memory : Memory) (core : ℕ) (ms : Moves) → call_moves ms ≡ [] → CallKept shape s content memory core ms
unfolding stage_of
call_idle shape s content memory core ms none = record {
  at_stage = subst (λ done. AtStage shape s content memory (held_of ms) done (entries_in core ms) (stage_of done)) (sym none)
      (subst (λ held. BeforeDraw shape s content memory held [] []) (sym (none_held ms none)) (nothing_yet shape s content memory));
  call = calls.Exit;
  rest = call_tree shape (issuer_of core ms) calls.Exit;
  follows = subst (λ done. Follows (call_tree shape (issuer_of core ms) calls.Exit) done (call_tree shape (issuer_of core ms) calls.Exit)) (sym none) refl;
}

-- ---- stores so far

stored_if : (b : Bool) (word : ℕ) (f : ℕ → ℕ) → ((x : ℕ) → f x ≡ x) ⊎ ((x y : ℕ) → f x ≡ f y) → ((x : ℕ) → cond b word (f x) ≡ x) ⊎ ((x y : ℕ) → cond b word (f x) ≡ cond b word (f y))
stored_if true word f h = inr (λ x y. refl)
stored_if false word f h = h

stored_one : (a : Action) (i : ℕ) (f : ℕ → ℕ) → ((x : ℕ) → f x ≡ x) ⊎ ((x y : ℕ) → f x ≡ f y) → ((x : ℕ) → stored_by a i (f x) ≡ x) ⊎ ((x y : ℕ) → stored_by a i (f x) ≡ stored_by a i (f y))
stored_one (actions.Store place word) i f h = stored_if (eqb place i) word f h
stored_one (actions.TryLock o) i f h = h
stored_one (actions.Read o j) i f h = h
stored_one (actions.Write o j word) i f h = h
stored_one (actions.Draw draft) i f h = h
stored_one (actions.Unlock o) i f h = h
stored_one (actions.Load j) i f h = h

-- what was there before shows through, or not at all
pub stored_or : (done : List (Action × Outcome)) (i : ℕ) → ((x : ℕ) → stored_so_far done i x ≡ x) ⊎ ((x y : ℕ) → stored_so_far done i x ≡ stored_so_far done i y)
unfolding stored_so_far
stored_or [] i = inl (λ x. refl)
stored_or (m ∷ ms) i = stored_one m.0 i (stored_so_far ms i) (stored_or ms i)

-- ---- what a Draw makes of regions

set_free : (xs : List Region) (r : ℕ) → get_or (set xs r regions.Free) r regions.Free ≡ regions.Free
set_free [] r = refl
set_free (x ∷ xs) zero = refl
set_free (x ∷ xs) (suc r) = set_free xs r

freed_call : (b : Bool) (call : Call) (r : ℕ) → cond b (freed_where_ok call) None ≡ Some r → (b ≡ true) × (call ≡ calls.Free r)
freed_call true (calls.Free q) r e = (refl, ap (λ z. calls.Free z) (same e))
  where
    same : {p q : ℕ} → Some p ≡ Some q → p ≡ q
    same f = cc
freed_call true _ r e = absurd (cc)
freed_call false call r e = absurd (cc)

free_after : (s : State) (core : ℕ) (digest : List ℕ) (k r : ℕ) → is_done (reply_of s core (calls.Free r)) ≡ true → region_at (after s core (calls.Free r) digest k) r ≡ regions.Free
free_after s core digest k r d = ap (λ b. region_at (cond b (effect s core (calls.Free r) digest k) s) r) d ∙ set_free s.regions r

-- a freed region is Free
pub drawn_free : (by : Issuer) (call : Call) (s : State) (answers : List ℕ) (core : ℕ) (draft : Draft) (k r : ℕ) → by.core ≡ core → IsRightDraft by call s answers draft k → freed draft.reply draft.call ≡ Some r → region_at (drawn_state core s draft k) r ≡ regions.Free
unfolding drawn_state freed
drawn_free by call s answers core draft k r is right e = with_reply (is_concurrent draft.reply) refl (freed_call (is_done draft.reply) draft.call r e)
  where
    clash : {X : Type 0} → false ≡ true → X
    clash f = absurd (cc)

    with_reply : (b : Bool) → is_concurrent draft.reply ≡ b → (is_done draft.reply ≡ true) × (draft.call ≡ calls.Free r) → region_at (cond b s (after s core draft.call (digest_of draft.page) k)) r ≡ regions.Free
    with_reply true f d = clash (sym (concurrent_not_done draft.reply f) ∙ d.0)
    with_reply false f d =
        let reply : draft.reply ≡ reply_of s core draft.call = right.legal.reply f ∙ ap (λ z. reply_of s z draft.call) is in
        subst (λ c. is_done (reply_of s core c) ≡ true → region_at (after s core c (digest_of draft.page) k) r ≡ regions.Free) (sym d.1) (free_after s core (digest_of draft.page) k r) (ap is_done (sym reply) ∙ d.0)

offered_reads : (own : ℕ) (g : Region) → is_done (accept_region_reply own g) ≡ true → ReadsOffered (own_word g)
offered_reads own regions.Free d = absurd (cc)
offered_reads own (regions.Owned owner since) d = absurd (cc)
offered_reads own (regions.Blocked owner since at) d = absurd (cc)
offered_reads own (regions.Offered to at) d = reads to at
  where
    reads : (to at : ℕ) → (3 + 4 * (1 + to) + 64 * at) % 4 ≡ 3
    reads to at = omega arith

accept_after : (s : State) (core : ℕ) (digest : List ℕ) (k q r : ℕ) → (region_at (after s core (calls.AcceptRegion q) digest k) r ≡ region_at s r) ⊎ ReadsOffered (own_word (region_at s r))
accept_after s core digest k q r = by (is_done (reply_of s core (calls.AcceptRegion q))) refl
  where
    by : (b : Bool) → is_done (reply_of s core (calls.AcceptRegion q)) ≡ b → (region_at (cond b (effect s core (calls.AcceptRegion q) digest k) s) r ≡ region_at s r) ⊎ ReadsOffered (own_word (region_at s r))
    by false d = inl refl
    by true d = elim (cases_eq r q) [
      | inl e ↦ inr (subst (λ z. ReadsOffered (own_word (region_at s z))) (sym e) (offered_reads (own_slot (mode_of s core)) (region_at s q) (carried s core (calls.AcceptRegion q) d).held))
      | inr ne ↦ inl (get_or-set_other s.regions q r (regions.Owned (owners.Enclave (own_slot (mode_of s core))) k) regions.Free ne)
    ]

accept_call : (call : Call) → is_accept_region call ≡ true → (q : ℕ) × (call ≡ calls.AcceptRegion q)
accept_call (calls.AcceptRegion q) e = (q, refl)
accept_call _ e = absurd (cc)

-- an accept_region leaves a region or finds it Offered
pub drawn_offered : (s : State) (core : ℕ) (draft : Draft) (k r : ℕ) → is_accept_region draft.call ≡ true → (region_at (drawn_state core s draft k) r ≡ region_at s r) ⊎ ReadsOffered (own_word (region_at s r))
unfolding drawn_state
drawn_offered s core draft k r a = by (is_concurrent draft.reply) (accept_call draft.call a)
  where
    by : (b : Bool) → ((q : ℕ) × (draft.call ≡ calls.AcceptRegion q)) → (region_at (cond b s (after s core draft.call (digest_of draft.page) k)) r ≡ region_at s r) ⊎ ReadsOffered (own_word (region_at s r))
    by true q = inl refl
    by false q = subst (λ c. (region_at (after s core c (digest_of draft.page) k) r ≡ region_at s r) ⊎ ReadsOffered (own_word (region_at s r))) (sym q.1) (accept_after s core (digest_of draft.page) k q.0 r)
