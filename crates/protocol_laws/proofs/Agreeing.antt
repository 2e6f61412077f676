-- States that agree on what a core holds, and calls that change no more.
use Rattle.std.proofs.Common.{◌≡◌, ◌⊎◌, inl, inr, ◌∙◌, ◌++◌, ℕ, List, [], ◌∷◌, ap, sym, refl, subst, append_assoc}
use Rattle.std.specs.List.{Contains}
use Rattle.mon_types.specs.Bits.{has_bit}
use Rattle.mon_types.specs.declared.object.ObjectId.{ObjectId}
use Rattle.mon_types.specs.declared.object.ObjectId.TheVariants as objects
use Rattle.mon_model.specs.State.{State}
use Rattle.mon_model.specs.RegionCalls.{is_loading}
use Rattle.mon_model.specs.RegionStep.{is_idle}
use Rattle.mon_model.specs.Laws.{AgreeOn, ChangesOnly}
use Rattle.dram_map.specs.Addresses.{region_of_word}
use Rattle.mon_records.specs.Answers.{AnswersFor, Answers}
use Rattle.mon_records.specs.Members.{In}
use Rattle.mon_records.proofs.Members.{contains_in, in_contains}
use Rattle.loaded_pages.specs.Content.{Content}
use Rattle.protocol.specs.Places.{Memory}
use Rattle.protocol.specs.CallTree.{onto}
use Rattle.protocol_laws.specs.Known.{Keeps, KeepsLoading, LooksSame}

-- ---- lists of objects

pub in_onto : (xs ys : List ObjectId) (o : ObjectId) → In o xs ⊎ In o ys → In o (onto xs ys)
unfolding onto
in_onto [] ys o h = elim h [ inl h ↦ absurd h | inr h ↦ h ]
in_onto (x ∷ xs) ys o h = in_onto xs (x ∷ ys) o (elim h [
  | inl h ↦ elim h [ inl e ↦ inr (inl e) | inr h ↦ inl h ]
  | inr h ↦ inr (inr h)
])

pub onto_in : (xs ys : List ObjectId) (o : ObjectId) → In o (onto xs ys) → In o xs ⊎ In o ys
unfolding onto
onto_in [] ys o h = inr h
onto_in (x ∷ xs) ys o h = elim (onto_in xs (x ∷ ys) o h) [
  | inl h ↦ inl (inr h)
  | inr h ↦ elim h [ inl e ↦ inl (inl e) | inr h ↦ inr h ]
]

-- behind the turned list stands what was there
pub onto_append : (xs ys : List ObjectId) → onto xs ys ≡ onto xs [] ++ ys
unfolding onto
onto_append [] ys = refl
onto_append (x ∷ xs) ys =
    onto_append xs (x ∷ ys) ∙ sym (append_assoc (onto xs []) (x ∷ []) ys)
    ∙ ap (λ zs. zs ++ ys) (sym (onto_append xs (x ∷ [])))

-- ---- agreeing

carry : (few many : List ObjectId) → ((o : ObjectId) → In o few → In o many) → (o : ObjectId) → Contains few o → Contains many o
carry few many sub o c = in_contains many o (sub o (contains_in few o c))

pub agree_refl : (s : State) (core : ℕ) (held : List ObjectId) → AgreeOn s s core held
agree_refl s core held = record {
  shape = refl;
  region = λ r c. refl;
  enclave = λ e c. refl;
  items = λ e c. refl;
  thread = λ h c. refl;
  cell = λ c h. refl;
  mode = refl;
}

pub agree_trans : (s t u : State) (core : ℕ) (held : List ObjectId) → AgreeOn s t core held → AgreeOn t u core held → AgreeOn s u core held
agree_trans s t u core held a b = record {
  shape = b.shape ∙ a.shape;
  region = λ r c. b.region r c ∙ a.region r c;
  enclave = λ e c. b.enclave e c ∙ a.enclave e c;
  items = λ e c. b.items e c ∙ a.items e c;
  thread = λ h c. b.thread h c ∙ a.thread h c;
  cell = λ i c. b.cell i c ∙ a.cell i c;
  mode = b.mode ∙ a.mode;
}

pub agree_sym : (s t : State) (core : ℕ) (held : List ObjectId) → AgreeOn s t core held → AgreeOn t s core held
agree_sym s t core held a = record {
  shape = sym a.shape;
  region = λ r c. sym (a.region r c);
  enclave = λ e c. sym (a.enclave e c);
  items = λ e c. sym (a.items e c);
  thread = λ h c. sym (a.thread h c);
  cell = λ i c. sym (a.cell i c);
  mode = sym a.mode;
}

pub agree_sub : (s t : State) (core : ℕ) (few many : List ObjectId) → ((o : ObjectId) → In o few → In o many) → AgreeOn s t core many → AgreeOn s t core few
agree_sub s t core few many sub a = record {
  shape = a.shape;
  region = λ r c. a.region r (carry few many sub _ c);
  enclave = λ e c. a.enclave e (carry few many sub _ c);
  items = λ e c. a.items e (carry few many sub _ c);
  thread = λ h c. a.thread h (carry few many sub _ c);
  cell = λ i c. a.cell i (carry few many sub _ c);
  mode = a.mode;
}

pub changes_sub : (s t : State) (core : ℕ) (few many : List ObjectId) → ((o : ObjectId) → In o few → In o many) → ChangesOnly s t core few → ChangesOnly s t core many
changes_sub s t core few many sub a = record {
  shape = a.shape;
  region = λ r c. a.region r (λ h. c (carry few many sub _ h));
  enclave = λ e c. a.enclave e (λ h. c (carry few many sub _ h));
  items = λ e c. a.items e (λ h. c (carry few many sub _ h));
  thread = λ h c. a.thread h (λ i. c (carry few many sub _ i));
  cell = λ i c. a.cell i (λ h. c (carry few many sub _ h));
  mode = a.mode;
}

pub looks_refl : (core : ℕ) (s : State) (content : Content) (held : List ObjectId) (memory : Memory) → LooksSame core s content held memory s content memory
looks_refl core s content held memory =
    record { agree = agree_refl s core held; rows = λ o i h b. refl; words = λ i k. refl; kept = λ i k. refl }

-- ---- who answers

answers_for : (s t : State) (core : ℕ) (held : List ObjectId) → AgreeOn s t core held → (o : ObjectId) → In o held → (r : ℕ) → AnswersFor s o r → AnswersFor t o r
answers_for s t core held agree (objects.Enclave e) h r a =
    let same = agree.enclave e (in_contains held (objects.Enclave e) h) in
    (ap (λ z. is_loading z.stage) same ∙ a.0, ap (λ z. has_bit z.regions r) same ∙ a.1)
answers_for s t core held agree (objects.Thread i) h r a = a
answers_for s t core held agree (objects.Region q) h r a = (a.0, ap is_idle (agree.region q (in_contains held (objects.Region q) h)) ∙ a.1)
answers_for s t core held agree (objects.Cell c) h r a = a

-- a held object answers for a word as it did
pub answers_agree : (s t : State) (core : ℕ) (held : List ObjectId) → AgreeOn s t core held → (o : ObjectId) → In o held → (i : ℕ) → Answers s o (region_of_word s.shape i) → Answers t o (region_of_word t.shape i)
answers_agree s t core held agree o h i a =
    subst (λ z. Answers t o (region_of_word z i)) (sym agree.shape)
    (record { is = answers_for s t core held agree o h (region_of_word s.shape i) a.is })

pub keeps_agree : (s t : State) (core : ℕ) (held : List ObjectId) → AgreeOn s t core held → (i : ℕ) → Keeps s held i → Keeps t held i
keeps_agree s t core held agree i k =
    record { who = k.who; held_is = k.held_is; answers = answers_agree s t core held agree k.who k.held_is i k.answers }

pub loading_agree : (s t : State) (core : ℕ) (held : List ObjectId) → AgreeOn s t core held → (i : ℕ) → KeepsLoading s held i → KeepsLoading t held i
loading_agree s t core held agree i k =
    record { slot = k.slot; held_is = k.held_is; answers = answers_agree s t core held agree (objects.Enclave k.slot) k.held_is i k.answers }

pub loading_kept : (s : State) (held : List ObjectId) (i : ℕ) → KeepsLoading s held i → Keeps s held i
loading_kept s held i k = record { who = objects.Enclave k.slot; held_is = k.held_is; answers = k.answers }
