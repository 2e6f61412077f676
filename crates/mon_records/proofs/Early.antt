-- Early own-words: of tried regions, never Owned, as they stay; and what is Owned and changes has one.
use Rattle.std.proofs.Common.{◌≡◌, ◌≢◌, ◌⊎◌, inl, inr, ◌+◌, ◌*◌, ◌%◌, ◌∙◌, ℕ, zero, suc, Bool, true, false, cond, eqb, Option, Some, None, List, [], ◌∷◌, ◌++◌, map, ap, sym, refl, subst, get_or, set, arith}
use Rattle.std.specs.Prelude.{slice_index_or}
use Rattle.std.specs.List.{AllByRecursion, Contains}
use Rattle.std.proofs.lemmas.Bool.{cases_eq}
use Rattle.std.proofs.lemmas.List.{get_or-set_other}
use Rattle.mon_types.specs.Owns.{own_word, owner_code, os_word}
use Rattle.mon_types.specs.Replies.{done, is_done}
use Rattle.mon_types.specs.Modes.{own_slot}
use Rattle.mon_types.specs.declared.region.Owner.{Owner}
use Rattle.mon_types.specs.declared.region.Region.{Region}
use Rattle.mon_types.specs.declared.region.Region.TheVariants as regions
use Rattle.mon_types.specs.declared.enclave.Enclave.{Enclave}
use Rattle.mon_types.specs.declared.thread.Mode.{Mode}
use Rattle.mon_types.specs.declared.thread.Mode.TheVariants as modes
use Rattle.mon_types.specs.declared.call.Call.{Call}
use Rattle.mon_types.specs.declared.call.Call.TheVariants as calls
use Rattle.mon_types.specs.declared.reply.Reply.{Reply}
use Rattle.mon_types.specs.declared.reply.Reply.TheVariants as replies
use Rattle.mon_types.specs.declared.object.ObjectId.{ObjectId}
use Rattle.mon_types.specs.declared.object.ObjectId.TheVariants as objects
use Rattle.mon_model.specs.State.{State, region_at, mode_of, with_region}
use Rattle.mon_model.specs.RegionCalls.{blocked, block_reply, free_reply, assign_reply, is_empty, is_free, accept_region_reply}
use Rattle.mon_model.specs.EnclaveCalls.{deleted}
use Rattle.mon_model.specs.Step.{reply_of, held_reply, after, effect, assignee, without_own_region, with_deleted, regions_of}
use Rattle.mon_model.specs.Tries.{tries, held_tries}
use Rattle.mon_model.proofs.Carried.{carried}
use Rattle.mon_model.proofs.Tried.{behind_own}
use Rattle.lock_plan.specs.EveryPlan.{tries_held}
use Rattle.mon_records.specs.EarlyWords.{ReadsOwned, withdrawn_word, withdrawn_words, early_words}
use Rattle.mon_records.specs.EarlyLaws.{early_regions}
use Rattle.mon_model.proofs.Writes.{at_set}
use Rattle.mon_records.specs.Members.{In}
use Rattle.mon_records.proofs.Members.{in_contains}

-- ---- words that do not read Owned

dead_word : (o since : ℕ) → ReadsOwned (2 + 4 * o + 64 * since) → ⊥
dead_word o since e = omega arith

blocked_dead : (g : Region) (k : ℕ) → ReadsOwned (own_word (blocked g k)) → ⊥
blocked_dead regions.Free k e = absurd (omega arith)
blocked_dead (regions.Owned o since) k e = dead_word (owner_code o) since e
blocked_dead (regions.Blocked o since at) k e = dead_word (owner_code o) since e
blocked_dead (regions.Offered to at) k e = dead_word (1 + to) at e

-- ---- early words fit

-- of a list of pairs, each has what is said
abbrev pub EarlyFit : List ObjectId → List (ℕ × ℕ) → Type 0
EarlyFit held ps = AllByRecursion (λ p. Contains held (objects.Region p.0) × (ReadsOwned p.1 → ⊥)) ps

all_append : {X : Type 0} (P : X → Type 0) (xs ys : List X) → AllByRecursion P xs → AllByRecursion P ys → AllByRecursion P (xs ++ ys)
all_append P [] ys h k = k
all_append P (x ∷ xs) ys h k = (h.0, all_append P xs ys h.1 k)

-- the objects of a call that is Ok
pub done_tries : (s : State) (core : ℕ) (call : Call) → is_done (reply_of s core call) ≡ true → tries s core call ≡ held_tries s core call
done_tries s core call d = tries_held s core call (carried s core call d).none

word_fit : (held : List ObjectId) (r : ℕ) (g : Region) → In (objects.Region r) held → EarlyFit held (withdrawn_word r g)
word_fit held r regions.Free m = tt
word_fit held r (regions.Owned o since) m = ((in_contains held (objects.Region r) m, dead_word (owner_code o) since), tt)
word_fit held r (regions.Blocked o since at) m = tt
word_fit held r (regions.Offered to at) m = tt

words_fit : (s : State) (held : List ObjectId) (rs : List ℕ) → ((o : ObjectId) → In o (map (λ r. objects.Region r) rs) → In o held) → EarlyFit held (withdrawn_words s rs)
words_fit s held [] sub = tt
words_fit s held (r ∷ rs) sub =
    all_append _ (withdrawn_word r (region_at s r)) (withdrawn_words s rs)
    (word_fit held r (region_at s r) (sub (objects.Region r) (inl refl))) (words_fit s held rs (λ o h. sub o (inr h)))

pub early_fit : (s : State) (core : ℕ) (call : Call) → is_done (reply_of s core call) ≡ true → EarlyFit (tries s core call) (early_words s call)
unfolding early_words
early_fit s core (calls.Block r) d =
    ((subst (λ held. Contains held (objects.Region r)) (sym (done_tries s core (calls.Block r) d)) (behind_own (mode_of s core) r).place, blocked_dead (region_at s r) 0), tt)
early_fit s core (calls.Delete e) d =
    subst (λ held. EarlyFit held (early_words s (calls.Delete e))) (sym (done_tries s core (calls.Delete e) d))
    (words_fit s (objects.Enclave e ∷ map (λ r. objects.Region r) (regions_of s e)) (regions_of s e) (λ o h. inr h))
early_fit s core _ d = tt

-- ---- Owned regions that change

-- one region is set to something else, which was not Owned or has an early word
set_live : (s : State) (q r : ℕ) (x : Region) (ps : List ℕ) → (q ≡ r → In r ps) → (region_at (with_region s q x) r ≡ region_at s r) ⊎ In r ps
set_live s q r x ps h = elim (cases_eq r q) [
  | inl e ↦ inr (h (sym e))
  | inr ne ↦ inl (get_or-set_other s.regions q r x regions.Free ne)
]

own_live : (s : State) (mode : Mode) (q r : ℕ) → region_at (without_own_region s mode q) r ≡ region_at s r
own_live s modes.Os q r = refl
own_live s (modes.Inside e t) q r = refl

not_live : (s : State) (q r : ℕ) (ps : List ℕ) → (ReadsOwned (own_word (region_at s q)) → ⊥) → ReadsOwned (own_word (region_at s r)) → q ≡ r → In r ps
not_live s q r ps dead live e = absurd (dead (ap (λ z. own_word (region_at s z) % 4) e ∙ live))

free_dead : (g : Region) (flushed : List ℕ) → is_done (free_reply g flushed) ≡ true → ReadsOwned (own_word g) → ⊥
free_dead regions.Free flushed d e = absurd (cc)
free_dead (regions.Owned o since) flushed d e = absurd (cc)
free_dead (regions.Blocked o since at) flushed d e = dead_word (owner_code o) since e
free_dead (regions.Offered to at) flushed d e = absurd (cc)

abbrev pub if_free : Region → Reply
if_free g = cond (is_free g) done replies.InvalidState

given_dead : (b : Bool) (g : Region) → is_done (cond b replies.InvalidState (if_free g)) ≡ true → ReadsOwned (own_word g) → ⊥
given_dead true g d e = absurd (cc)
given_dead false regions.Free d e = absurd (omega arith)
given_dead false (regions.Owned o since) d e = absurd (cc)
given_dead false (regions.Blocked o since at) d e = absurd (cc)
given_dead false (regions.Offered to at) d e = absurd (cc)

assign_dead : (to : Option Enclave) (g : Region) → is_done (assign_reply to g) ≡ true → ReadsOwned (own_word g) → ⊥
assign_dead None g d e = given_dead false g d e
assign_dead (Some x) g d e = given_dead (is_empty x.stage) g d e

accept_dead : (own : ℕ) (g : Region) → is_done (accept_region_reply own g) ≡ true → ReadsOwned (own_word g) → ⊥
accept_dead own regions.Free d e = absurd (cc)
accept_dead own (regions.Owned o since) d e = absurd (cc)
accept_dead own (regions.Blocked o since at) d e = absurd (cc)
accept_dead own (regions.Offered to at) d e = absurd (omega arith)

assign_live : (b : Bool) (s t : State) (q r : ℕ) (x y : Region) (ps : List ℕ) → (q ≡ r → In r ps) → t.regions ≡ (with_region s q y).regions → (region_at (cond b (with_region s q x) t) r ≡ region_at s r) ⊎ In r ps
assign_live true s t q r x y ps h e = set_live s q r x ps h
assign_live false s t q r x y ps h e = elim (set_live s q r y ps h) [ inl f ↦ inl (ap (λ z. slice_index_or z r regions.Free) e ∙ f) | inr g ↦ inr g ]

abbrev pub firsts : List (ℕ × ℕ) → List ℕ
firsts ps = map (λ p. p.0) ps

owned_first : (r : ℕ) (g : Region) (ps : List (ℕ × ℕ)) → ReadsOwned (own_word g) → In r (firsts (withdrawn_word r g ++ ps))
owned_first r regions.Free ps live = absurd (omega arith)
owned_first r (regions.Owned o since) ps live = inl refl
owned_first r (regions.Blocked o since at) ps live = absurd (dead_word (owner_code o) since live)
owned_first r (regions.Offered to at) ps live = absurd (omega arith)

behind_first : (q r : ℕ) (g : Region) (ps : List (ℕ × ℕ)) → In r (firsts ps) → In r (firsts (withdrawn_word q g ++ ps))
behind_first q r regions.Free ps m = m
behind_first q r (regions.Owned o since) ps m = inr m
behind_first q r (regions.Blocked o since at) ps m = m
behind_first q r (regions.Offered to at) ps m = m

delete_live : (s t : State) (rs : List ℕ) (k r : ℕ) → ReadsOwned (own_word (region_at t r)) → (region_at (with_deleted s rs k) r ≡ region_at s r) ⊎ In r (firsts (withdrawn_words t rs))
delete_live s t [] k r live = inl refl
delete_live s t (q ∷ rs) k r live = elim (cases_eq r q) [
  | inl e ↦ inr (subst (λ z. In r (firsts (withdrawn_word z (region_at t z) ++ withdrawn_words t rs))) e (owned_first r (region_at t r) (withdrawn_words t rs) live))
  | inr ne ↦ elim (delete_live (with_region s q (deleted (region_at s q) k)) t rs k r live) [
    | inl f ↦ inl (f ∙ get_or-set_other s.regions q r (deleted (region_at s q) k) regions.Free ne)
    | inr g ↦ inr (behind_first q r (region_at t q) (withdrawn_words t rs) g)
  ]
]

effect_live : (s : State) (core : ℕ) (call : Call) (digest : List ℕ) (k r : ℕ) → is_done (reply_of s core call) ≡ true → ReadsOwned (own_word (region_at s r)) → (region_at (effect s core call digest k) r ≡ region_at s r) ⊎ In r (early_regions s call)
unfolding early_words
effect_live s core (calls.Block q) digest k r d live =
    elim (set_live (without_own_region s (mode_of s core) q) q r (blocked (region_at s q) k) (q ∷ []) (λ e. inl (sym e))) [
      | inl f ↦ inl (f ∙ own_live s (mode_of s core) q r)
      | inr g ↦ inr g
    ]
effect_live s core (calls.Free q) digest k r d live =
    set_live s q r regions.Free [] (not_live s q r [] (free_dead (region_at s q) s.flushed (carried s core (calls.Free q) d).held) live)
effect_live s core (calls.Assign q to) digest k r d live =
    assign_live (eqb to os_word) s _ q r _ _ [] (not_live s q r [] (assign_dead (assignee s to) (region_at s q) (carried s core (calls.Assign q to) d).held) live) refl
effect_live s core (calls.AcceptRegion q) digest k r d live =
    set_live s q r _ [] (not_live s q r [] (accept_dead (own_slot (mode_of s core)) (region_at s q) (carried s core (calls.AcceptRegion q) d).held) live)
effect_live s core (calls.Delete e) digest k r d live = delete_live s s (regions_of s e) k r live
effect_live s core _ digest k r d live = inl refl

pub changed_early : (s : State) (core : ℕ) (call : Call) (digest : List ℕ) (k r : ℕ) → ReadsOwned (own_word (region_at s r)) → (region_at (after s core call digest k) r ≡ region_at s r) ⊎ ((is_done (reply_of s core call) ≡ true) × Contains (early_regions s call) r)
changed_early s core call digest k r live = by_done (is_done (reply_of s core call)) refl
  where
    by_done : (b : Bool) → is_done (reply_of s core call) ≡ b → (region_at (cond b (effect s core call digest k) s) r ≡ region_at s r) ⊎ ((b ≡ true) × Contains (early_regions s call) r)
    by_done true d = elim (effect_live s core call digest k r d live) [ inl f ↦ inl f | inr g ↦ inr (refl, in_contains (early_regions s call) r g) ]
    by_done false d = inl refl

-- ---- early words stay

abbrev pub Stays : State → List (ℕ × ℕ) → Type 0
Stays u ps = AllByRecursion (λ p. p.1 ≡ own_word (region_at u p.0)) ps

-- a region that is there is what it was set to
set_there : (xs : List Region) (i : ℕ) (x : Region) → get_or xs i regions.Free ≢ regions.Free → get_or (set xs i x) i regions.Free ≡ x
set_there [] i x h = absurd (h refl)
set_there (y ∷ ys) zero x h = refl
set_there (y ∷ ys) (suc i) x h = set_there ys i x h

owned_there : (g : Region) (o : Owner) (since : ℕ) → g ≡ regions.Owned o since → g ≢ regions.Free
owned_there g o since e f = cc

stays_blocked : (s : State) (rs : List ℕ) (k r : ℕ) (o : Owner) (since at : ℕ) → region_at s r ≡ regions.Blocked o since at → region_at (with_deleted s rs k) r ≡ regions.Blocked o since at
stays_blocked s [] k r o since at e = e
stays_blocked s (q ∷ rs) k r o since at e =
    stays_blocked (with_region s q (deleted (region_at s q) k)) rs k r o since at (elim (at_set s.regions q r (deleted (region_at s q) k) regions.Free) [
      | inl g ↦ g.1 ∙ ap (λ z. deleted (region_at s z) k) (sym g.0) ∙ ap (λ x. deleted x k) e
      | inr same ↦ same ∙ e
    ])

becomes_blocked : (s : State) (rs : List ℕ) (k r : ℕ) (o : Owner) (since : ℕ) → In r rs → region_at s r ≡ regions.Owned o since → region_at (with_deleted s rs k) r ≡ regions.Blocked o since k
becomes_blocked s [] k r o since m e = absurd m
becomes_blocked s (q ∷ rs) k r o since m e = elim (cases_eq r q) [
  | inl f ↦
      let now : region_at (with_region s q (deleted (region_at s q) k)) r ≡ regions.Blocked o since k =
      ap (λ z. region_at (with_region s z (deleted (region_at s z) k)) r) (sym f) ∙ set_there s.regions r (deleted (region_at s r) k) (owned_there (region_at s r) o since e) ∙ ap (λ x. deleted x k) e in
      stays_blocked (with_region s q (deleted (region_at s q) k)) rs k r o since k now
  | inr ne ↦ elim m [
    | inl f ↦ absurd (ne f)
    | inr n ↦ becomes_blocked (with_region s q (deleted (region_at s q) k)) rs k r o since n (get_or-set_other s.regions q r (deleted (region_at s q) k) regions.Free ne ∙ e)
  ]
]

word_stays : (u : State) (k r : ℕ) (g : Region) → ((o : Owner) (since : ℕ) → g ≡ regions.Owned o since → region_at u r ≡ regions.Blocked o since k) → Stays u (withdrawn_word r g)
word_stays u k r regions.Free h = tt
word_stays u k r (regions.Owned o since) h = (sym (ap own_word (h o since refl)), tt)
word_stays u k r (regions.Blocked o since at) h = tt
word_stays u k r (regions.Offered to at) h = tt

words_stay : (s u : State) (k : ℕ) (rs : List ℕ) → ((r : ℕ) (o : Owner) (since : ℕ) → In r rs → region_at s r ≡ regions.Owned o since → region_at u r ≡ regions.Blocked o since k) → Stays u (withdrawn_words s rs)
words_stay s u k [] h = tt
words_stay s u k (r ∷ rs) h =
    all_append _ (withdrawn_word r (region_at s r)) (withdrawn_words s rs)
    (word_stays u k r (region_at s r) (λ o since e. h r o since (inl refl) e)) (words_stay s u k rs (λ q o since m e. h q o since (inr m) e))

block_there : (mode : Mode) (g : Region) → is_done (block_reply mode g) ≡ true → g ≢ regions.Free
block_there mode regions.Free d e = absurd (cc)
block_there mode (regions.Owned o since) d e = cc
block_there mode (regions.Blocked o since at) d e = cc
block_there mode (regions.Offered to at) d e = cc

same_own : (g : Region) (k : ℕ) → own_word (blocked g 0) ≡ own_word (blocked g k)
same_own regions.Free k = refl
same_own (regions.Owned o since) k = refl
same_own (regions.Blocked o since at) k = refl
same_own (regions.Offered to at) k = refl

effect_stays : (s : State) (core : ℕ) (call : Call) (digest : List ℕ) (k : ℕ) → is_done (held_reply s core call) ≡ true → Stays (effect s core call digest k) (early_words s call)
unfolding early_words
effect_stays s core (calls.Block r) digest k d =
    let there = set_there (without_own_region s (mode_of s core) r).regions r (blocked (region_at s r) k)
    (λ e. block_there (mode_of s core) (region_at s r) d (sym (own_live s (mode_of s core) r r) ∙ e)) in
    (same_own (region_at s r) k ∙ ap own_word (sym there), tt)
effect_stays s core (calls.Delete e) digest k d =
    words_stay s (effect s core (calls.Delete e) digest k) k (regions_of s e) (λ r o since m f. becomes_blocked s (regions_of s e) k r o since m f)
effect_stays s core _ digest k d = tt

pub early_stay : (s : State) (core : ℕ) (call : Call) (digest : List ℕ) (k : ℕ) → is_done (reply_of s core call) ≡ true → Stays (after s core call digest k) (early_words s call)
early_stay s core call digest k d =
    let same : after s core call digest k ≡ effect s core call digest k = ap (λ b. cond b (effect s core call digest k) s) d in
    subst (λ u. Stays u (early_words s call)) (sym same) (effect_stays s core call digest k (carried s core call d).held)
