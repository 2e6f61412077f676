-- Calls whose replies are decided by records alone are safe, all in one: whatever their early words and their effects
-- are, laws of records say what has to be known of them.
use Rattle.std.proofs.Common.{◌≡◌, ◌⊎◌, inl, inr, ◌<◌, ◌%◌, ◌∙◌, ℕ, Bool, true, false, cond, Option, Some, None, List, [], ◌∷◌, length, ap, sym, refl, subst, get_or}
use Rattle.std.specs.List.{AllByRecursion}
use Rattle.std.proofs.lemmas.Bool.{eq-eqb, ne_eqb, cases_eq}
use Rattle.mon_types.specs.Shape.{Shape}
use Rattle.mon_types.specs.Owns.{own_word}
use Rattle.mon_types.specs.Replies.{is_done}
use Rattle.mon_types.specs.declared.region.Region.{Region}
use Rattle.mon_types.specs.declared.region.Region.TheVariants as regions
use Rattle.mon_types.specs.declared.enclave.Enclave.{Enclave}
use Rattle.mon_types.specs.declared.call.Call.{Call}
use Rattle.mon_types.specs.declared.call.Call.TheVariants as calls
use Rattle.mon_types.specs.declared.reply.Reply.{Reply}
use Rattle.mon_types.specs.declared.object.ObjectId.{ObjectId}
use Rattle.mon_types.specs.declared.object.ObjectId.TheVariants as objects
use Rattle.mon_model.specs.State.{State, region_at, mode_of}
use Rattle.mon_model.specs.OnCore.{is_load_page}
use Rattle.mon_model.specs.RegionCalls.{assign_reply}
use Rattle.mon_model.specs.RegionStep.{is_idle}
use Rattle.mon_model.specs.Step.{reply_of, after, assignee}
use Rattle.mon_model.specs.Tries.{tries}
use Rattle.mon_model.specs.Laws.{AgreeOn}
use Rattle.mon_model.proofs.Carried.{carried}
use Rattle.dram_map.specs.Addresses.{region_of_word}
use Rattle.mon_enclaves.specs.LoadReply.{is_load}
use Rattle.mon_records.specs.Rows.{Found, objects_of}
use Rattle.mon_records.specs.Rebuilt.{state_of}
use Rattle.mon_records.specs.WithoutItems.{IsDecidedByRecords}
use Rattle.mon_records.specs.EarlyWords.{early_words}
use Rattle.mon_records.specs.EarlyLaws.{IsEarlyFor}
use Rattle.mon_records.specs.Answers.{freed_where_ok, freed}
use Rattle.mon_records.specs.Members.{In}
use Rattle.mon_records.proofs.Members.{contains_in, in_contains}
use Rattle.mon_records.proofs.RebuiltStates.{words_known, region_known, rebuilt_answers, rebuilt_tries, rows_long}
use Rattle.mon_records.proofs.Early.{early_fit, changed_early}
use Rattle.mon_records.proofs.Answered.{freed_regions}
use Rattle.hist.specs.History.{digest_of}
use Rattle.loaded_pages.specs.Content.{Content, region_zeroed, content_put, content_by, content_after}
use Rattle.loaded_pages.proofs.Idle.{assign_idle}
use Rattle.protocol.specs.Places.{Row, Memory}
use Rattle.protocol.specs.CallTree.{Issuer, onto, early_if, finish, decided_by}
use Rattle.protocol.specs.Records.{withdraws_any}
use Rattle.protocol_laws.specs.Known.{IsSound}
use Rattle.protocol_laws.specs.Safe.{Safe}
use Rattle.protocol_laws.proofs.Places.{row_own}
use Rattle.protocol_laws.proofs.Agreeing.{in_onto, onto_in, agree_refl}
use Rattle.protocol_laws.proofs.Standing.{stand_true, words_look}
use Rattle.protocol_laws.proofs.Locking.{can_read, tried_is_there, AllHeld}
use Rattle.protocol_laws.proofs.Writing.{regions_in, safe_early}
use Rattle.protocol_laws.proofs.Finishing.{known_is, has_found, rows_after, safe_finish}

pub clash : {X : Type 0} → true ≡ false → X
clash e = absurd (cc)

-- ---- calls that load nothing

plain_decided : (call : Call) → is_load call ≡ false → IsDecidedByRecords call
plain_decided (calls.LoadTable e va level page) h = clash h
plain_decided (calls.LoadPage e va page src perms) h = clash h
plain_decided (calls.Reserve e va page perms) h = clash h
plain_decided _ h = tt

plain_page : (call : Call) (done : Bool) → is_load call ≡ false → false ≡ cond (is_load_page call) done false
plain_page (calls.LoadPage e va page src perms) done h = clash h
plain_page _ done h = refl

-- a region that is given away was idle
given_idle : (to : Option Enclave) (g : Region) → is_done (assign_reply to g) ≡ true → is_idle g ≡ true
given_idle (Some x) g d = assign_idle x g d
given_idle None regions.Free d = refl
given_idle None (regions.Owned owner since) d = absurd (cc)
given_idle None (regions.Blocked owner since at) d = absurd (cc)
given_idle None (regions.Offered to at) d = absurd (cc)

-- what such a call makes of the content: it frees the region of the word, or leaves it
plain_if : (b : Bool) (t : State) (call : Call) (words : List ℕ) (now : Content) (i : ℕ) → is_load call ≡ false → ((r to : ℕ) → call ≡ calls.Assign r to → b ≡ true → region_of_word t.shape i ≡ r → now i ≡ 0) →
    (cond b (freed_where_ok call) None ≡ Some (region_of_word t.shape i)) ⊎ (cond b (content_by t call words now) now i ≡ now i)
unfolding content_put region_zeroed
plain_if false t call words now i h zeros = inr refl
plain_if true t (calls.Free r) words now i h zeros = elim (cases_eq (region_of_word t.shape i) r) [
  | inl e ↦ inl (ap Some (sym e))
  | inr ne ↦ inr (ap (λ b. cond b 0 (now i)) (ne_eqb (region_of_word t.shape i) r ne))
]
plain_if true t (calls.Assign r to) words now i h zeros = elim (cases_eq (region_of_word t.shape i) r) [
  | inl e ↦ inr (ap (λ b. cond b 0 (now i)) (eq-eqb (region_of_word t.shape i) r e) ∙ sym (zeros r to refl refl e))
  | inr ne ↦ inr (ap (λ b. cond b 0 (now i)) (ne_eqb (region_of_word t.shape i) r ne))
]
plain_if true t (calls.LoadTable e va level page) words now i h zeros = clash h
plain_if true t (calls.LoadPage e va page src perms) words now i h zeros = clash h
plain_if true t (calls.Reserve e va page perms) words now i h zeros = clash h
plain_if true t _ words now i h zeros = inr refl

assigned_zero : (core : ℕ) (t : State) (now : Content) (call : Call) (i r to : ℕ) → IsSound core t now → call ≡ calls.Assign r to → is_done (reply_of t core call) ≡ true → region_of_word t.shape i ≡ r → now i ≡ 0
assigned_zero core t now call i r to sound is d e =
    let held = (carried t core (calls.Assign r to) (subst (λ z. is_done (reply_of t core z) ≡ true) is d)).held in
    sound.holds.zeros i (ap (λ z. is_idle (region_at t z)) e ∙ given_idle (assignee t to) (region_at t r) held)

content_plain : (core : ℕ) (t : State) (now : Content) (call : Call) (reply : Reply) (words : List ℕ) (i : ℕ) → IsSound core t now → is_load call ≡ false → reply ≡ reply_of t core call →
    (freed reply call ≡ Some (region_of_word t.shape i)) ⊎ (content_after t reply call words now i ≡ now i)
unfolding freed content_after
content_plain core t now call reply words i sound h reply_is =
    plain_if (is_done reply) t call words now i h (λ r to is d e. assigned_zero core t now call i r to sound is (ap is_done (sym reply_is) ∙ d) e)

-- ---- early words

fit_sub : (few many : List ObjectId) → ((o : ObjectId) → In o few → In o many) → (ps : List (ℕ × ℕ)) → AllByRecursion (IsEarlyFor few) ps → AllByRecursion (IsEarlyFor many) ps
fit_sub few many sub [] h = tt
fit_sub few many sub (p ∷ ps) h =
    ((in_contains many (objects.Region p.0) (sub (objects.Region p.0) (contains_in few (objects.Region p.0) h.0.0)), h.0.1), fit_sub few many sub ps h.1)

fit_if : (b : Bool) (s : State) (call : Call) (held : List ObjectId) → (b ≡ true → AllByRecursion (IsEarlyFor held) (early_words s call)) → AllByRecursion (IsEarlyFor held) (early_if b s call)
unfolding early_if
fit_if true s call held h = h refl
fit_if false s call held h = tt

first_if : (b : Bool) (s : State) (call : Call) (r : ℕ) → b ≡ true → In r (regions_in (early_words s call)) → In r (regions_in (early_if b s call))
unfolding early_if
first_if true s call r e h = h
first_if false s call r e h = clash (sym e)

-- only a call that withdraws regions has any
withdraws_some : (s : State) (call : Call) (p : ℕ × ℕ) → In p (early_words s call) → withdraws_any call ≡ true
unfolding early_words
withdraws_some s (calls.Block r) p h = refl
withdraws_some s (calls.Delete e) p h = refl
withdraws_some s _ p h = absurd h

withdraws_if : (b : Bool) (s : State) (call : Call) (p : ℕ × ℕ) → In p (early_if b s call) → withdraws_any call ≡ true
unfolding early_if
withdraws_if true s call p h = withdraws_some s call p h
withdraws_if false s call p h = absurd h

no_early : (b : Bool) (s : State) (call : Call) → b ≡ false → early_if b s call ≡ []
unfolding early_if
no_early true s call e = clash e
no_early false s call e = refl

-- ---- the call

module _ (by : Issuer) (call : Call) where
  pub safe_plain : (found : Found) (shape : Shape) (s : State) (content : Content) (answers : List ℕ) (memory : Memory) → s.shape ≡ shape → by.mode ≡ mode_of s by.core → is_load call ≡ false → AllHeld by call found s content memory →
      Safe by call s content answers (objects_of found) memory (decided_by false by call (state_of shape by.mode found) found)
  unfolding decided_by
  safe_plain found shape s content answers memory of_shape of_mode plain all =
      let held : List ObjectId = objects_of found in
      let known : State = state_of shape by.mode found in
      let reply : Reply = reply_of known by.core call in
      let replies : (t : State) (now : Content) → IsSound by.core t now → AgreeOn s t by.core held → reply ≡ reply_of t by.core call = λ t now sound agree.
      ap (λ z. reply_of z by.core call) (known_is by found shape s t held of_shape of_mode agree)
      ∙ rebuilt_answers t by.core call found (can_read by.core t now sound) (has_found by call found s t now all.are_rows all.planned sound agree) (plain_decided call plain) in
      let same = agree_refl s by.core held in
      let tried_is : tries known by.core call ≡ onto held [] =
      ap (λ z. tries z by.core call) (known_is by found shape s s held of_shape of_mode same)
      ∙ rebuilt_tries s by.core call found (can_read by.core s content all.sound) (has_found by call found s s content all.are_rows all.planned all.sound same)
      ∙ all.planned s content all.sound same in
      let held_in : (o : ObjectId) → In o (tries known by.core call) → In o held = λ o h. elim (onto_in held [] o (subst (In o) tried_is h)) [ inl g ↦ g | inr g ↦ absurd g ] in
      safe_early by call (early_if (is_done reply) known call) found (finish by call reply None held known) held s content answers memory (withdraws_if (is_done reply) known call)
      (fit_if (is_done reply) known call held (λ d. fit_sub (tries known by.core call) held held_in (early_words known call) (early_fit known by.core call d)))
      (λ o i h b. all.rows o h i b ∙ ap (λ ws. get_or ws i 0) (sym (words_known found s o all.are_rows h)))
      (λ o h. ap length (words_known found s o all.are_rows h) ∙ rows_long s o (can_read by.core s content all.sound))
      (stand_true held s memory all.rows) all.words
      (λ stands m said long are words dead none. safe_finish by call reply None found stands shape s content answers m of_shape of_mode all.are_rows all.planned said long
      (λ d. none (no_early (is_done reply) known call d)) replies (plain_page call (is_done reply) plain) tt
      (λ t now ticket r sound agree h live.
      let digest : List ℕ = digest_of None in
      let is_known = known_is by found shape s t held of_shape of_mode agree in
      let has = has_found by call found s t now all.are_rows all.planned sound agree in
      let tried : In (objects.Region r) (tries t by.core call) = subst (In (objects.Region r)) (sym (all.planned t now sound agree)) (in_onto held [] (objects.Region r) (inl h)) in
      let few : r < t.shape.regions = tried_is_there by.core t now call (objects.Region r) sound tried in
      let region_is : region_at known r ≡ region_at t r = ap (λ z. region_at z r) is_known ∙ region_known t by.core found (can_read by.core t now sound) has.rows r h few in
      let truth : m (Row (objects.Region r) 0) ≡ own_word (region_at known r) = are r h live ∙ ap own_word (sym (agree.region r (in_contains held (objects.Region r) h))) ∙ ap own_word (sym region_is) in
      let rows_are = rows_after by.core call found known t now reply digest ticket (objects.Region r) is_known (replies t now sound agree) sound has (in_contains (tries t by.core call) (objects.Region r) tried) in
      elim (changed_early known by.core call digest ticket r (ap (λ z. z % 4) (sym truth) ∙ live)) [
        | inl stayed ↦ truth ∙ ap own_word (sym stayed) ∙ sym (row_own (after known by.core call digest ticket) r) ∙ ap (λ ws. get_or ws 0 0) rows_are ∙ row_own (after t by.core call digest ticket) r
        | inr early ↦ absurd (dead r (inl (first_if (is_done reply) known call r early.0 (contains_in (regions_in (early_words known call)) r early.1))) live)
      ])
      (λ t now m1 looks sound i. elim (content_plain by.core t now call reply [] i sound plain (replies t now sound looks.agree)) [
        | inl f ↦ inr (inl (λ o a. (freed_regions t by.core call [] 0 (region_of_word t.shape i) sound.facts (ap (λ z. freed z call) (sym (replies t now sound looks.agree)) ∙ f)).unused o a))
        | inr e ↦ inl e
      ])
      (λ t now m1 looks sound i b kept. elim (content_plain by.core t now call reply [] i sound plain (replies t now sound looks.agree)) [
        | inl f ↦ inl f
        | inr e ↦ inr (words_look by.core s content held m t now m1 looks words kept.who kept.held_is i b kept.answers ∙ sym e)
      ]))
