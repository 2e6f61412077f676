-- Who answers for the words of a region: what a call makes somebody answer for was answered for before by an object that
-- it tries, or is freed by it.
use Rattle.std.proofs.Common.{◌≡◌, ◌⊎◌, inl, inr, ◌∙◌, ℕ, zero, suc, Bool, true, false, cond, eqb, Some, None, List, [], ◌∷◌, ap, sym, refl, subst, get_or, set}
use Rattle.std.specs.List.{Contains}
use Rattle.std.proofs.lemmas.Bool.{cases_eq}
use Rattle.mon_types.specs.Bits.{has_bit, with_bit, without_bit}
use Rattle.mon_types.specs.Owns.{os_word}
use Rattle.mon_types.specs.Replies.{is_done}
use Rattle.mon_types.specs.Modes.{own_slot}
use Rattle.mon_types.specs.Enclaves.{empty_enclave}
use Rattle.mon_types.specs.declared.region.Owner.TheVariants as owners
use Rattle.mon_types.specs.declared.region.Region.{Region}
use Rattle.mon_types.specs.declared.region.Region.TheVariants as regions
use Rattle.mon_types.specs.declared.enclave.Mailbox.TheVariants as boxes
use Rattle.mon_types.specs.declared.enclave.Enclave.{Enclave}
use Rattle.mon_types.specs.declared.enclave.Loaded.{Loaded}
use Rattle.mon_types.specs.declared.thread.Mode.{Mode}
use Rattle.mon_types.specs.declared.thread.Mode.TheVariants as modes
use Rattle.mon_types.specs.declared.call.Call.{Call}
use Rattle.mon_types.specs.declared.call.Call.TheVariants as calls
use Rattle.mon_types.specs.declared.reply.Reply.TheVariants as replies
use Rattle.mon_types.specs.declared.object.ObjectId.{ObjectId}
use Rattle.mon_types.specs.declared.object.ObjectId.TheVariants as objects
use Rattle.mon_model.specs.State.{State, region_at, enclave_at, mode_of, with_region, with_enclave, with_slot}
use Rattle.mon_model.specs.RegionCalls.{blocked, free_reply, assigned, with_assigned, assign_reply, accept_region_reply, is_loading, is_empty, is_initialized, gains_region, loses_region}
use Rattle.mon_model.specs.EnclaveCalls.{created, with_table, with_page, with_reserved, initialized, deleted}
use Rattle.mon_model.specs.ThreadCalls.{with_thread_loaded, without_thread}
use Rattle.mon_model.specs.MailCalls.{with_mailbox, sent}
use Rattle.mon_model.specs.Step.{reply_of, held_reply, after, effect, without_own_region, with_deleted, regions_of}
use Rattle.mon_model.specs.Tries.{tries, held_tries}
use Rattle.mon_model.proofs.Carried.{carried}
use Rattle.mon_model.proofs.Tried.{behind_own, freed_in}
use Rattle.mon_model.proofs.Bits.{none-has, with-other, without-same, without-other}
use Rattle.mon_facts.specs.Facts.{FactsHold, is_owned_by}
use Rattle.mon_facts.proofs.SetFacts.{owned-one}
use Rattle.mon_model.specs.RegionStep.{is_idle}
use Rattle.mon_records.specs.Answers.{AnswersFor, Answers, freed_where_ok, freed}
use Rattle.mon_records.specs.AnswerLaws.{WasAnswered, IsFreed}
use Rattle.mon_model.proofs.Writes.{at_set}
use Rattle.mon_records.specs.Members.{In}
use Rattle.mon_records.proofs.Members.{contains_in, in_contains}
use Rattle.mon_records.proofs.Early.{if_free, done_tries}

-- ---- what is set

region_set : (s : State) (q : ℕ) (x : Region) (o : ObjectId) (r : ℕ) → AnswersFor (with_region s q x) o r → ((o ≡ objects.Region q) × (q ≡ r) × (is_idle x ≡ true)) ⊎ AnswersFor s o r
region_set s q x (objects.Enclave e) r a = inr a
region_set s q x (objects.Thread t) r a = inr a
region_set s q x (objects.Cell c) r a = inr a
region_set s q x (objects.Region p) r a = elim (at_set s.regions q p x regions.Free) [
  | inl h ↦ inl (ap (λ z. objects.Region z) h.0, sym h.0 ∙ a.0, ap is_idle (sym h.1) ∙ a.1)
  | inr e ↦ inr (a.0, ap is_idle (sym e) ∙ a.1)
]

enclave_set : (s : State) (e : ℕ) (x : Enclave) (o : ObjectId) (r : ℕ) → AnswersFor (with_enclave s e x) o r → ((o ≡ objects.Enclave e) × (is_loading x.stage ≡ true) × (has_bit x.regions r ≡ true)) ⊎ AnswersFor s o r
enclave_set s e x (objects.Thread t) r a = inr a
enclave_set s e x (objects.Cell c) r a = inr a
enclave_set s e x (objects.Region p) r a = inr a
enclave_set s e x (objects.Enclave d) r a = elim (at_set s.enclaves e d x empty_enclave) [
  | inl h ↦ inl (ap (λ z. objects.Enclave z) h.0, ap (λ z. is_loading z.stage) (sym h.1) ∙ a.0, ap (λ z. has_bit z.regions r) (sym h.1) ∙ a.1)
  | inr f ↦ inr (ap (λ z. is_loading z.stage) (sym f) ∙ a.0, ap (λ z. has_bit z.regions r) (sym f) ∙ a.1)
]

-- somebody answered before: who answers now, or an object that is tried
pub record Before (s : State) (tried : List ObjectId) (o : ObjectId) (r : ℕ) : Type 0 where
  pub who : ObjectId
  pub place : (who ≡ o) ⊎ In who tried
  pub answers : AnswersFor s who r

self : (s : State) (tried : List ObjectId) (o : ObjectId) (r : ℕ) → AnswersFor s o r → Before s tried o r
self s tried o r a = record { who = o; place = inl refl; answers = a }

-- an enclave's new record gives it no region
no_more : (s : State) (tried : List ObjectId) (e : ℕ) (x : Enclave) (o : ObjectId) (r : ℕ) → (is_loading x.stage ≡ true → has_bit x.regions r ≡ true → AnswersFor s (objects.Enclave e) r) → AnswersFor (with_enclave s e x) o r → Before s tried o r
no_more s tried e x o r h a = elim (enclave_set s e x o r a) [
  | inl g ↦ record { who = objects.Enclave e; place = inl (sym g.0); answers = h g.1 g.2 }
  | inr b ↦ self s tried o r b
]

no_free : (s : State) (tried : List ObjectId) (q : ℕ) (x : Region) (o : ObjectId) (r : ℕ) → (is_idle x ≡ true → is_idle (region_at s q) ≡ true) → AnswersFor (with_region s q x) o r → Before s tried o r
no_free s tried q x o r h a = elim (region_set s q x o r a) [
  | inl g ↦ record { who = objects.Region q; place = inl (sym g.0); answers = (g.1, h g.2) }
  | inr b ↦ self s tried o r b
]

pub blocked_idle : (g : Region) (k : ℕ) → is_idle (blocked g k) ≡ true → is_idle g ≡ true
blocked_idle regions.Free k e = refl
blocked_idle (regions.Owned o since) k e = e
blocked_idle (regions.Blocked o since at) k e = e
blocked_idle (regions.Offered to at) k e = refl

pub deleted_idle : (g : Region) (k : ℕ) → is_idle (deleted g k) ≡ true → is_idle g ≡ true
deleted_idle regions.Free k e = refl
deleted_idle (regions.Owned o since) k e = e
deleted_idle (regions.Blocked o since at) k e = e
deleted_idle (regions.Offered to at) k e = refl

pub lost : (w q r : ℕ) → has_bit (without_bit w q) r ≡ true → has_bit w r ≡ true
lost w q r h = elim (cases_eq r q) [
  | inl e ↦ absurd (clash (sym (without-same w q) ∙ ap (has_bit (without_bit w q)) (sym e) ∙ h))
  | inr ne ↦ sym (without-other w q r ne) ∙ h
]
  where
    clash : false ≡ true → ⊥
    clash e = cc

pub gained : (w q r : ℕ) → has_bit (with_bit w q) r ≡ true → (r ≡ q) ⊎ (has_bit w r ≡ true)
gained w q r h = elim (cases_eq r q) [ inl e ↦ inl e | inr ne ↦ inr (sym (with-other w q r ne) ∙ h) ]

given_idle : (b : Bool) (g : Region) → is_done (cond b replies.InvalidState (if_free g)) ≡ true → is_idle g ≡ true
given_idle true g d = absurd (cc)
given_idle false regions.Free d = refl
given_idle false (regions.Owned o since) d = absurd (cc)
given_idle false (regions.Blocked o since at) d = absurd (cc)
given_idle false (regions.Offered to at) d = absurd (cc)

pub assign_idle : (to : Enclave) (g : Region) → is_done (assign_reply (Some to) g) ≡ true → is_idle g ≡ true
assign_idle to g d = given_idle (is_empty to.stage) g d

pub accept_idle : (own : ℕ) (g : Region) → is_done (accept_region_reply own g) ≡ true → is_idle g ≡ true
accept_idle own regions.Free d = absurd (cc)
accept_idle own (regions.Owned o since) d = absurd (cc)
accept_idle own (regions.Blocked o since at) d = absurd (cc)
accept_idle own (regions.Offered to at) d = refl

-- ---- calls

own_answers : (s : State) (mode : Mode) (q : ℕ) (o : ObjectId) (r : ℕ) → AnswersFor (without_own_region s mode q) o r → AnswersFor s o r
own_answers s modes.Os q o r a = a
own_answers s (modes.Inside e t) q o r a = elim (enclave_set s e (loses_region (enclave_at s e) q) o r a) [
  | inl g ↦ subst (λ z. AnswersFor s z r) (sym g.0) (g.1, lost (enclave_at s e).regions q r g.2)
  | inr b ↦ b
]

block_answers : (s : State) (tried : List ObjectId) (mode : Mode) (q k : ℕ) (o : ObjectId) (r : ℕ) → AnswersFor (with_region (without_own_region s mode q) q (blocked (region_at s q) k)) o r → Before s tried o r
block_answers s tried mode q k o r a = elim (region_set (without_own_region s mode q) q (blocked (region_at s q) k) o r a) [
  | inl g ↦ record { who = objects.Region q; place = inl (sym g.0); answers = (g.1, blocked_idle (region_at s q) k g.2) }
  | inr b ↦ self s tried o r (own_answers s mode q o r b)
]

-- a region that was is_idle and is tried goes to an enclave, or is offered to it
given_answers : (s : State) (tried : List ObjectId) (q e : ℕ) (x : Region) (y : Enclave) (o : ObjectId) (r : ℕ) → is_idle (region_at s q) ≡ true → In (objects.Region q) tried → ((is_loading y.stage ≡ true) → has_bit y.regions r ≡ true → (r ≡ q) ⊎ AnswersFor s (objects.Enclave e) r) →
    AnswersFor (with_enclave (with_region s q x) e y) o r → Before s tried o r
given_answers s tried q e x y o r free m h a = elim (enclave_set (with_region s q x) e y o r a) [
  | inl g ↦ elim (h g.1 g.2) [
    | inl f ↦ record { who = objects.Region q; place = inr m; answers = (sym f, free) }
    | inr b ↦ record { who = objects.Enclave e; place = inl (sym g.0); answers = b }
  ]
  | inr b ↦ no_free s tried q x o r (λ i. free) b
]

assigned_more : (b : Bool) (s : State) (e q r : ℕ) → let y : Enclave = cond b (enclave_at s e) (gains_region (enclave_at s e) q) in is_loading y.stage ≡ true → has_bit y.regions r ≡ true → (r ≡ q) ⊎ AnswersFor s (objects.Enclave e) r
assigned_more true s e q r l h = inr (l, h)
assigned_more false s e q r l h = elim (gained (enclave_at s e).regions q r h) [ inl f ↦ inl f | inr g ↦ inr (l, g) ]

assign_answers : (b : Bool) (s : State) (q to k : ℕ) (o : ObjectId) (r : ℕ) → is_done (assign_reply (cond b None (Some (enclave_at s to))) (region_at s q)) ≡ true →
    AnswersFor (cond b (with_region s q (regions.Owned owners.Os k)) (with_enclave (with_region s q (assigned (enclave_at s to).stage to k)) to (with_assigned (enclave_at s to) q))) o r → Before s (cond b (objects.Region q ∷ []) (objects.Enclave to ∷ objects.Region q ∷ [])) o r
assign_answers true s q to k o r d a = no_free s _ q (regions.Owned owners.Os k) o r (λ i. absurd (cc)) a
assign_answers false s q to k o r d a =
    given_answers s _ q to (assigned (enclave_at s to).stage to k) (with_assigned (enclave_at s to) q) o r (assign_idle (enclave_at s to) (region_at s q) d) (inr (inl refl)) (assigned_more (is_initialized (enclave_at s to).stage) s to q r) a

deletes_answer : (s : State) (rs : List ℕ) (k : ℕ) (o : ObjectId) (r : ℕ) → AnswersFor (with_deleted s rs k) o r → AnswersFor s o r
deletes_answer s [] k o r a = a
deletes_answer s (q ∷ rs) k o r a = elim (region_set s q (deleted (region_at s q) k) o r (deletes_answer (with_region s q (deleted (region_at s q) k)) rs k o r a)) [
  | inl g ↦ subst (λ z. AnswersFor s z r) (sym g.0) (g.1, deleted_idle (region_at s q) k g.2)
  | inr b ↦ b
]

abbrev pub Freed : Call → ℕ → Type 0
Freed (calls.Free q) r = q ≡ r
Freed _ r = ⊥

-- the same for a slot whose items change too
slot_answers : (s : State) (tried : List ObjectId) (e : ℕ) (x : Enclave) (items : List Loaded) (o : ObjectId) (r : ℕ) → (is_loading x.stage ≡ true → has_bit x.regions r ≡ true → AnswersFor s (objects.Enclave e) r) → AnswersFor (with_slot s e x items) o r → Before s tried o r
slot_answers s tried e x items (objects.Enclave d) r h a = no_more s tried e x (objects.Enclave d) r h a
slot_answers s tried e x items (objects.Thread t) r h a = absurd a
slot_answers s tried e x items (objects.Region q) r h a = self s tried (objects.Region q) r a
slot_answers s tried e x items (objects.Cell c) r h a = absurd a

same_answers : (s t : State) (tried : List ObjectId) (o : ObjectId) (r : ℕ) → t.regions ≡ s.regions → t.enclaves ≡ s.enclaves → AnswersFor t o r → Before s tried o r
same_answers s t tried (objects.Enclave e) r f g a = self s tried (objects.Enclave e) r (ap (λ z. is_loading (get_or z e empty_enclave).stage) (sym g) ∙ a.0, ap (λ z. has_bit (get_or z e empty_enclave).regions r) (sym g) ∙ a.1)
same_answers s t tried (objects.Thread i) r f g a = absurd a
same_answers s t tried (objects.Region q) r f g a = self s tried (objects.Region q) r (a.0, ap (λ z. is_idle (get_or z q regions.Free)) (sym f) ∙ a.1)
same_answers s t tried (objects.Cell c) r f g a = absurd a

-- the thread table alone, or the mode, differ besides an enclave's record
beside : (s t u : State) (tried : List ObjectId) (o : ObjectId) (r : ℕ) → t.regions ≡ u.regions → t.enclaves ≡ u.enclaves → ((p : ObjectId) → AnswersFor u p r → Before s tried p r) → AnswersFor t o r → Before s tried o r
beside s t u tried (objects.Enclave e) r f g h a = h (objects.Enclave e) (ap (λ z. is_loading (get_or z e empty_enclave).stage) (sym g) ∙ a.0, ap (λ z. has_bit (get_or z e empty_enclave).regions r) (sym g) ∙ a.1)
beside s t u tried (objects.Thread i) r f g h a = absurd a
beside s t u tried (objects.Region q) r f g h a = h (objects.Region q) (a.0, ap (λ z. is_idle (get_or z q regions.Free)) (sym f) ∙ a.1)
beside s t u tried (objects.Cell c) r f g h a = absurd a

delete_answers : (s : State) (tried : List ObjectId) (u : State) (e : ℕ) (o : ObjectId) (r : ℕ) → ((p : ObjectId) → AnswersFor u p r → AnswersFor s p r) → AnswersFor (with_slot u e empty_enclave []) o r → Before s tried o r
delete_answers s tried u e o r h a =
    let b = slot_answers u tried e empty_enclave [] o r (λ l g. absurd (cc)) a in record { who = b.who; place = b.place; answers = h b.who b.answers }

effect_answers : (s : State) (core : ℕ) (call : Call) (digest : List ℕ) (k : ℕ) (o : ObjectId) (r : ℕ) → is_done (held_reply s core call) ≡ true → AnswersFor (effect s core call digest k) o r → Freed call r ⊎ Before s (held_tries s core call) o r
effect_answers s core (calls.Block q) digest k o r d a = inr (block_answers s _ (mode_of s core) q k o r a)
effect_answers s core (calls.Free q) digest k o r d a = elim (region_set s q regions.Free o r a) [ inl g ↦ inl g.1 | inr b ↦ inr (self s _ o r b) ]
effect_answers s core (calls.Assign q to) digest k o r d a = inr (assign_answers (eqb to os_word) s q to k o r d a)
effect_answers s core (calls.Create e base size) digest k o r d a = inr (slot_answers s _ e (created base size) [] o r (λ l h. absurd (clash (sym (none-has r) ∙ h))) a)
  where
    clash : false ≡ true → ⊥
    clash e = cc
effect_answers s core (calls.LoadTable e va level page) digest k o r d a = inr (beside s (effect s core (calls.LoadTable e va level page) digest k) (with_enclave s e (with_table (enclave_at s e) va level page)) _ o r refl refl (λ p b. no_more s _ e (with_table (enclave_at s e) va level page) p r (λ l h. (l, h)) b) a)
effect_answers s core (calls.LoadPage e va page src perms) digest k o r d a = inr (beside s (effect s core (calls.LoadPage e va page src perms) digest k) (with_enclave s e (with_page (enclave_at s e) va page perms digest)) _ o r refl refl (λ p b. no_more s _ e (with_page (enclave_at s e) va page perms digest) p r (λ l h. (l, h)) b) a)
effect_answers s core (calls.Reserve e va page perms) digest k o r d a = inr (beside s (effect s core (calls.Reserve e va page perms) digest k) (with_enclave s e (with_reserved (enclave_at s e) va page perms)) _ o r refl refl (λ p b. no_more s _ e (with_reserved (enclave_at s e) va page perms) p r (λ l h. (l, h)) b) a)
effect_answers s core (calls.LoadThread e t entry sp) digest k o r d a =
    inr (beside s (effect s core (calls.LoadThread e t entry sp) digest k) (with_enclave s e (with_thread_loaded (enclave_at s e) entry sp)) _ o r refl refl (λ p b. no_more s _ e (with_thread_loaded (enclave_at s e) entry sp) p r (λ l h. (l, h)) b) a)
effect_answers s core (calls.Init e) digest k o r d a = inr (no_more s _ e (initialized (enclave_at s e)) o r (λ l h. absurd (cc)) a)
effect_answers s core (calls.DeleteThread e t) digest k o r d a =
    inr (beside s (effect s core (calls.DeleteThread e t) digest k) (with_enclave s e (without_thread (enclave_at s e))) _ o r refl refl (λ p b. no_more s _ e (without_thread (enclave_at s e)) p r (λ l h. (l, h)) b) a)
effect_answers s core (calls.Delete e) digest k o r d a =
    inr (delete_answers s (held_tries s core (calls.Delete e)) (with_deleted s (regions_of s e) k) e o r (λ p b. deletes_answer s (regions_of s e) k p r b) a)
effect_answers s core (calls.Enter e t) digest k o r d a = inr (same_answers s (effect s core (calls.Enter e t) digest k) _ o r refl refl a)
effect_answers s core calls.Exit digest k o r d a = inr (same_answers s (effect s core calls.Exit digest k) _ o r refl refl a)
effect_answers s core (calls.Aex saved) digest k o r d a = inr (same_answers s (effect s core (calls.Aex saved) digest k) _ o r refl refl a)
effect_answers s core calls.Restore digest k o r d a = inr (same_answers s (effect s core calls.Restore digest k) _ o r refl refl a)
effect_answers s core calls.Flush digest k o r d a = inr (same_answers s (effect s core calls.Flush digest k) _ o r refl refl a)
effect_answers s core (calls.Accept m from) digest k o r d a = inr (no_more s _ (own_slot (mode_of s core)) (with_mailbox (enclave_at s (own_slot (mode_of s core))) m (boxes.Expecting from)) o r (λ l h. (l, h)) a)
effect_answers s core (calls.Send to m w0 w1 w2 w3) digest k o r d a = inr (no_more s _ to (with_mailbox (enclave_at s to) m (sent (own_slot (mode_of s core)) (w0 ∷ w1 ∷ w2 ∷ w3 ∷ []) (enclave_at s (own_slot (mode_of s core))).measure)) o r (λ l h. (l, h)) a)
effect_answers s core (calls.Read m) digest k o r d a = inr (no_more s _ (own_slot (mode_of s core)) (with_mailbox (enclave_at s (own_slot (mode_of s core))) m boxes.Closed) o r (λ l h. (l, h)) a)
effect_answers s core (calls.AcceptRegion q) digest k o r d a =
    inr (given_answers s _ q (own_slot (mode_of s core)) (regions.Owned (owners.Enclave (own_slot (mode_of s core))) k) (gains_region (enclave_at s (own_slot (mode_of s core))) q) o r (accept_idle (own_slot (mode_of s core)) (region_at s q) d) (contains_in _ _ (behind_own (mode_of s core) q).place) (assigned_more false s (own_slot (mode_of s core)) q r) a)
effect_answers s core _ digest k o r d a = inr (self s _ o r a)

pub after_answers : (s : State) (core : ℕ) (call : Call) (digest : List ℕ) (k : ℕ) (o : ObjectId) (r : ℕ) → AnswersFor (after s core call digest k) o r → ((is_done (reply_of s core call) ≡ true) × Freed call r) ⊎ Before s (tries s core call) o r
after_answers s core call digest k o r a = by_done (is_done (reply_of s core call)) refl a
  where
    by_done : (b : Bool) → is_done (reply_of s core call) ≡ b → AnswersFor (cond b (effect s core call digest k) s) o r → ((b ≡ true) × Freed call r) ⊎ Before s (tries s core call) o r
    by_done true d a = elim (effect_answers s core call digest k o r (carried s core call d).held a) [
      | inl f ↦ inl (refl, f)
      | inr b ↦ inr (subst (λ z. Before s z o r) (sym (done_tries s core call d)) b)
    ]
    by_done false d a = inr (self s _ o r a)

-- ---- the laws

is_freed : (b : Bool) (call : Call) (r : ℕ) → b ≡ true → Freed call r → cond b (freed_where_ok call) None ≡ Some r
is_freed true (calls.Free q) r d f = ap Some f
is_freed true _ r d f = absurd f
is_freed false call r d f = absurd (cc)

pub answered_before : (s : State) (core : ℕ) (call : Call) (digest : List ℕ) (k : ℕ) (o : ObjectId) (r : ℕ) → Answers (after s core call digest k) o r → (freed (reply_of s core call) call ≡ Some r) ⊎ WasAnswered s (tries s core call) o r
unfolding freed
answered_before s core call digest k o r a = elim (after_answers s core call digest k o r a.is) [
  | inl f ↦ inl (is_freed (is_done (reply_of s core call)) call r f.0 f.1)
  | inr b ↦ inr (record {
    who = b.who;
    place = elim b.place [ inl e ↦ inl e | inr m ↦ inr (in_contains (tries s core call) b.who m) ];
    answers = record { is = b.answers };
  })
]

one_owner : (g : Region) (e d : ℕ) → is_owned_by e g ≡ true → is_owned_by d g ≡ true → e ≡ d
one_owner g e d a b = elim (cases_eq e d) [
  | inl same ↦ same
  | inr ne ↦ absurd (clash (sym (owned-one e d g b ne) ∙ a))
]
  where
    clash : false ≡ true → ⊥
    clash f = cc

owned_idle : (g : Region) (e : ℕ) → is_owned_by e g ≡ true → is_idle g ≡ true → ⊥
owned_idle regions.Free e a b = absurd (cc)
owned_idle (regions.Owned o since) e a b = absurd (cc)
owned_idle (regions.Blocked o since at) e a b = absurd (cc)
owned_idle (regions.Offered to at) e a b = absurd (cc)

one_for : (s : State) (r : ℕ) (o other : ObjectId) → FactsHold s → AnswersFor s o r → AnswersFor s other r → o ≡ other
one_for s r (objects.Enclave e) (objects.Enclave d) facts a b =
    ap (λ z. objects.Enclave z) (one_owner (region_at s r) e d (sym (facts.sets e r) ∙ a.1) (sym (facts.sets d r) ∙ b.1))
one_for s r (objects.Enclave e) (objects.Region q) facts a b =
    absurd (owned_idle (region_at s r) e (sym (facts.sets e r) ∙ a.1) (ap (λ z. is_idle (region_at s z)) (sym b.0) ∙ b.1))
one_for s r (objects.Region q) (objects.Enclave d) facts a b =
    absurd (owned_idle (region_at s r) d (sym (facts.sets d r) ∙ b.1) (ap (λ z. is_idle (region_at s z)) (sym a.0) ∙ a.1))
one_for s r (objects.Region q) (objects.Region p) facts a b = ap (λ z. objects.Region z) (a.0 ∙ sym b.0)
one_for s r (objects.Thread t) other facts a b = absurd a
one_for s r (objects.Cell c) other facts a b = absurd a
one_for s r (objects.Enclave e) (objects.Thread t) facts a b = absurd b
one_for s r (objects.Enclave e) (objects.Cell c) facts a b = absurd b
one_for s r (objects.Region q) (objects.Thread t) facts a b = absurd b
one_for s r (objects.Region q) (objects.Cell c) facts a b = absurd b

pub one_answers : (s : State) (r : ℕ) (o other : ObjectId) → FactsHold s → Answers s o r → Answers s other r → o ≡ other
one_answers s r o other facts a b = one_for s r o other facts a.is b.is

-- ---- a region that is freed

none_some : {r : ℕ} → None ≡ Some r → ⊥
none_some e = cc

some_same : {q r : ℕ} → Some q ≡ Some r → q ≡ r
some_same e = cc

freed_is : (b : Bool) (call : Call) (r : ℕ) → cond b (freed_where_ok call) None ≡ Some r → (b ≡ true) × (call ≡ calls.Free r)
freed_is true (calls.Free q) r e = (refl, ap (λ z. calls.Free z) (some_same e))
freed_is true _ r e = absurd (none_some e)
freed_is false call r e = absurd (none_some e)

free_blocked : (g : Region) (flushed : List ℕ) → is_done (free_reply g flushed) ≡ true → (is_idle g ≡ false) × ((e : ℕ) → is_owned_by e g ≡ false)
free_blocked regions.Free flushed d = absurd (cc)
free_blocked (regions.Owned o since) flushed d = absurd (cc)
free_blocked (regions.Blocked o since at) flushed d = (refl, λ e. refl)
free_blocked (regions.Offered to at) flushed d = absurd (cc)

set_free : (xs : List Region) (r : ℕ) → is_idle (get_or (set xs r regions.Free) r regions.Free) ≡ true
set_free [] r = refl
set_free (x ∷ xs) zero = refl
set_free (x ∷ xs) (suc r) = set_free xs r

nobody : (s : State) (r : ℕ) (o : ObjectId) → FactsHold s → AnswersFor s o r → (is_idle (region_at s r) ≡ false) × ((e : ℕ) → is_owned_by e (region_at s r) ≡ false) → ⊥
nobody s r (objects.Enclave e) facts a g = clash (sym (g.1 e) ∙ sym (facts.sets e r) ∙ a.1)
  where
    clash : false ≡ true → ⊥
    clash f = cc
nobody s r (objects.Thread t) facts a g = a
nobody s r (objects.Region q) facts a g = clash (sym g.0 ∙ ap (λ z. is_idle (region_at s z)) (sym a.0) ∙ a.1)
  where
    clash : false ≡ true → ⊥
    clash f = cc
nobody s r (objects.Cell c) facts a g = a

free_is_freed : (s : State) (core : ℕ) (digest : List ℕ) (k r : ℕ) → FactsHold s → is_done (reply_of s core (calls.Free r)) ≡ true → IsFreed s core (calls.Free r) digest k r
free_is_freed s core digest k r facts d = record {
  tried = subst (λ held. Contains held (objects.Region r)) (sym (done_tries s core (calls.Free r) d)) (freed_in s.shape.cores r (region_at s r)).place;
  unused = λ o a. nobody s r o facts a.is (free_blocked (region_at s r) s.flushed (carried s core (calls.Free r) d).held);
  idle = ap (λ b. is_idle (region_at (cond b (effect s core (calls.Free r) digest k) s) r)) d ∙ set_free s.regions r;
}

pub freed_regions : (s : State) (core : ℕ) (call : Call) (digest : List ℕ) (k r : ℕ) → FactsHold s → freed (reply_of s core call) call ≡ Some r → IsFreed s core call digest k r
unfolding freed
freed_regions s core call digest k r facts e =
    let f = freed_is (is_done (reply_of s core call)) call r e in
    subst (λ c. IsFreed s core c digest k r) (sym f.1)
    (free_is_freed s core digest k r facts (subst (λ c. is_done (reply_of s core c) ≡ true) f.1 f.0))
