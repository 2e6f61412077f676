-- A look that is good tells the truth, at a held region too; and who has touched a period keeps all others from answering
-- for its words.
use Rattle.std.proofs.Common.{◌≡◌, inl, inr, ◌<◌, ◌%◌, ◌/◌, ◌∙◌, ℕ, Bool, true, false, cond, eqb, Some, None, List, ap, sym, refl, subst}
use Rattle.std.proofs.lemmas.Bool.{eqb-true}
use Rattle.mon_types.specs.Shape.{Shape}
use Rattle.mon_types.specs.Owns.{own_word, owner_from, offered_to, region_by, region_parts, region_from}
use Rattle.mon_types.specs.declared.region.Owner.{Owner}
use Rattle.mon_types.specs.declared.region.Owner.TheVariants as owners
use Rattle.mon_types.specs.declared.region.Region.{Region}
use Rattle.mon_types.specs.declared.region.Region.TheVariants as regions
use Rattle.mon_types.specs.declared.enclave.Stage.{Stage}
use Rattle.mon_types.specs.declared.enclave.Stage.TheVariants as stages
use Rattle.mon_types.specs.declared.thread.Mode.{Mode}
use Rattle.mon_types.specs.declared.thread.Mode.TheVariants as modes
use Rattle.mon_types.specs.declared.object.ObjectId.{ObjectId}
use Rattle.mon_types.specs.declared.object.ObjectId.TheVariants as objects
use Rattle.mon_model.specs.State.{State, region_at, enclave_at, mode_of}
use Rattle.mon_model.specs.RegionCalls.{is_loading, is_initialized}
use Rattle.mon_model.specs.RegionStep.{is_idle}
use Rattle.mon_facts.specs.Facts.{FactsHold, is_enclave, is_owned_by}
use Rattle.mon_records.specs.Answers.{AnswersFor, Answers}
use Rattle.mon_records.specs.EarlyWords.{ReadsOwned}
use Rattle.core_access.specs.Looks.{is_owner, owned_since, since_in_word}
use Rattle.core_access.proofs.Told.{words_tell}
use Rattle.hist.specs.declared.event.Entry.{Entry}
use Rattle.hist.specs.SafeLog.{IsOpenTo}
use Rattle.hist_stands.specs.Held.{IsHeld}
use Rattle.loaded_pages.specs.Content.{Content}
use Rattle.protocol.specs.Places.{Row, Memory}
use Rattle.protocol.specs.Views.{Moves}
use Rattle.protocol_laws.proofs.Places.{row_own}
use Rattle.protocol_steps.proofs.Kept.{Kept}
use Rattle.protocol_steps.proofs.Moving.{wide_region}

-- ---- own-words

parts_owned : (same one two three : Bool) (permitted owner : Owner) (since at a : ℕ) → owned_since permitted (cond same (cond one (regions.Owned owner since) (cond two (regions.Blocked owner since at) (cond three (offered_to owner since) regions.Free))) regions.Free) ≡ Some a → one ≡ true
parts_owned false one two three permitted owner since at a e = absurd (cc)
parts_owned true true two three permitted owner since at a e = refl
parts_owned true false true three permitted owner since at a e = absurd (cc)
parts_owned true false false true permitted owners.Os since at a e = absurd (cc)
parts_owned true false false true permitted (owners.Enclave to) since at a e = absurd (cc)
parts_owned true false false false permitted owner since at a e = absurd (cc)

-- a good look finds a word that reads Owned
pub look_low : (owner : Owner) (word a : ℕ) → since_in_word owner word ≡ Some a → ReadsOwned word
unfolding region_from region_parts region_by
look_low owner word a e = eqb-true (word % 4) 1 (parts_owned _ (eqb (word % 4) 1) (eqb (word % 4) 2) (eqb (word % 4) 3) owner (owner_from (word / 4 % 16)) _ _ a e)

owner_is : (a b : Owner) → is_owner a b ≡ true → b ≡ a
owner_is owners.Os owners.Os e = refl
owner_is owners.Os (owners.Enclave f) e = absurd (cc)
owner_is (owners.Enclave e) owners.Os h = absurd (cc)
owner_is (owners.Enclave e) (owners.Enclave f) h = ap (λ z. owners.Enclave z) (sym (eqb-true e f h))

since_if : (b : Bool) (since a : ℕ) → cond b (Some since) None ≡ Some a → (b ≡ true) × (since ≡ a)
since_if true since a e = (refl, cc)
since_if false since a e = absurd (cc)

owned_is : (permitted : Owner) (g : Region) (a : ℕ) → owned_since permitted g ≡ Some a → g ≡ regions.Owned permitted a
owned_is permitted regions.Free a e = absurd (cc)
owned_is permitted (regions.Owned owner since) a e =
    let f = since_if (is_owner permitted owner) since a e in
    ap (λ z. regions.Owned z since) (owner_is permitted owner f.0) ∙ ap (λ z. regions.Owned permitted z) f.1
owned_is permitted (regions.Blocked owner since at) a e = absurd (cc)
owned_is permitted (regions.Offered to at) a e = absurd (cc)

module _ (shape : Shape) (memory : Memory) (moved : ℕ → Moves) (h : List Entry) (s : State) (content : Content) (kept : Kept shape memory moved h s content) where
  -- an own-word that reads Owned is true, whoever holds the region
  pub word_true : (r : ℕ) → ReadsOwned (memory (Row (objects.Region r) 0)) → memory (Row (objects.Region r) 0) ≡ own_word (region_at s r)
  word_true r e = elim (kept.locked (objects.Region r)) [
    | inl free ↦ kept.rows (objects.Region r) free 0 (wide_region r) ∙ row_own s r
    | inr x ↦ (kept.cores x.0 x.1).true_words r x.2 e
  ]

  -- so a good look finds the region Owned
  pub look_true : (core : ℕ) → core < shape.cores → (r : ℕ) (owner : Owner) (a : ℕ) → since_in_word owner (memory (Row (objects.Region r) 0)) ≡ Some a → region_at s r ≡ regions.Owned owner a
  look_true core lt r owner a e =
      let is = word_true r (look_low owner (memory (Row (objects.Region r) 0)) a e) in
      owned_is owner (region_at s r) a (sym (words_tell owner (region_at s r) ((kept.sound core lt).ranges.region r)) ∙ ap (since_in_word owner) (sym is) ∙ e)

-- ---- nobody else answers for a held region

never : {X : Type 0} → false ≡ true → X
never e = absurd (cc)

not_loading : (g : Stage) → is_initialized g ≡ true → is_loading g ≡ true → ⊥
not_loading stages.Empty a b = absurd (cc)
not_loading stages.Loading a b = absurd (cc)
not_loading stages.Initialized a b = absurd (cc)

is_running : (s : State) → FactsHold s → (core e : ℕ) (mode : Mode) → mode_of s core ≡ mode → IsOpenTo mode (owners.Enclave e) → is_loading (enclave_at s e).stage ≡ true → ⊥
is_running s facts core e modes.Os is opened loading = opened
is_running s facts core e (modes.Inside f t) is opened loading =
    not_loading (enclave_at s e).stage (subst (λ z. is_initialized (enclave_at s z).stage ≡ true) opened (facts.initialized f t (facts.inside core f t is))) loading

by_owner : (core : ℕ) (s : State) → FactsHold s → (e : ℕ) (owner : Owner) → IsOpenTo (mode_of s core) owner → is_enclave e owner ≡ true → is_loading (enclave_at s e).stage ≡ true → ⊥
by_owner core s facts e owners.Os opened is loading = never is
by_owner core s facts e (owners.Enclave f) opened is loading =
    is_running s facts core e (mode_of s core) refl (subst (λ z. IsOpenTo (mode_of s core) (owners.Enclave z)) (sym (eqb-true e f is)) opened) loading

unanswered : (core : ℕ) (s : State) → FactsHold s → (h : List Entry) (r a : ℕ) → IsHeld h s core r a → (o : ObjectId) → AnswersFor s o r → ⊥
unanswered core s facts h r a held (objects.Enclave e) ans =
    let owns : is_owned_by e (region_at s r) ≡ true = sym (facts.sets e r) ∙ ans.1 in
    elim held.region [
      | inl owned ↦ by_owner core s facts e held.owner held.opens (ap (λ z. is_owned_by e z) (sym owned) ∙ owns) ans.0
      | inr ended ↦ never (ap (λ z. is_owned_by e z) (sym ended.1) ∙ owns)
    ]
unanswered core s facts h r a held (objects.Region q) ans =
    let free : is_idle (region_at s r) ≡ true = subst (λ z. is_idle (region_at s z) ≡ true) ans.0 ans.1 in
    elim held.region [
      | inl owned ↦ never (ap is_idle (sym owned) ∙ free)
      | inr ended ↦ never (ap is_idle (sym ended.1) ∙ free)
    ]
unanswered core s facts h r a held (objects.Thread t) ans = ans
unanswered core s facts h r a held (objects.Cell c) ans = ans

pub held_unanswered : (core : ℕ) (s : State) → FactsHold s → (h : List Entry) (r a : ℕ) → IsHeld h s core r a → (o : ObjectId) → Answers s o r → ⊥
held_unanswered core s facts h r a held o ans = unanswered core s facts h r a held o ans.is
