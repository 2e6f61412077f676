-- What one core's move leaves alone of what another core holds: a Draw, a row, a word of DRAM, a lock word.
use Rattle.std.proofs.Common.{◌≢◌, inl, inr, ◌∙◌, ℕ, List, sym, refl, subst}
use Rattle.mon_types.specs.declared.object.ObjectId.{ObjectId}
use Rattle.mon_types.specs.declared.object.ObjectId.TheVariants as objects
use Rattle.mon_model.specs.State.{State}
use Rattle.mon_model.specs.Laws.{ChangesOnly}
use Rattle.mon_facts.specs.Facts.{FactsHold}
use Rattle.dram_map.specs.Addresses.{region_of_word}
use Rattle.mon_records.specs.Members.{In}
use Rattle.mon_records.proofs.Members.{contains_in}
use Rattle.mon_records.proofs.Answered.{one_answers}
use Rattle.loaded_pages.specs.Content.{Content}
use Rattle.protocol.specs.Places.{Counter, Lock, Row, Dram, Memory, same_place, with_word}
use Rattle.protocol_laws.specs.Known.{Keeps, IsUnused, LooksSame}
use Rattle.protocol_laws.specs.Safe.{StaysOrKept}
use Rattle.protocol_laws.proofs.Places.{at_place, row_object, dram_index, row_dram, dram_row}
use Rattle.protocol_laws.proofs.Agreeing.{agree_refl, agree_trans, keeps_agree}

-- no object is held by both
abbrev pub AreApart : List ObjectId → List ObjectId → Type 0
AreApart held others = (o : ObjectId) → In o held → In o others → ⊥

pub looks_trans : (core : ℕ) (s t u : State) (f g h : Content) (held : List ObjectId) (l m n : Memory) → LooksSame core s f held l t g m → LooksSame core t g held m u h n → LooksSame core s f held l u h n
looks_trans core s t u f g h held l m n a b = record {
  agree = agree_trans s t u core held a.agree b.agree;
  rows = λ o i k small. b.rows o i k small ∙ a.rows o i k small;
  words = λ i k. b.words i (keeps_agree s t core held a.agree i k) ∙ a.words i k;
  kept = λ i k. b.kept i (keeps_agree s t core held a.agree i k) ∙ a.kept i k;
}

-- a word that one core keeps is kept by no other
pub kept_apart : (t : State) (held others : List ObjectId) (i : ℕ) → FactsHold t → AreApart held others → Keeps t held i → Keeps t others i → ⊥
kept_apart t held others i facts apart k q =
    apart k.who k.held_is (subst (λ z. In z others) (one_answers t (region_of_word t.shape i) q.who k.who facts q.answers k.answers) q.held_is)

-- another core draws a ticket
pub looks_draw : (core other : ℕ) (t u : State) (now later : Content) (held others : List ObjectId) (m : Memory) → core ≢ other → AreApart held others → FactsHold t → ChangesOnly t u other others → StaysOrKept t others now later → LooksSame core t now held m u later m
looks_draw core other t u now later held others m ne apart facts only stays = record {
  agree = record {
    shape = only.shape;
    region = λ r c. only.region r (λ q. apart (objects.Region r) (contains_in held (objects.Region r) c) (contains_in others (objects.Region r) q));
    enclave = λ e c. only.enclave e (λ q. apart (objects.Enclave e) (contains_in held (objects.Enclave e) c) (contains_in others (objects.Enclave e) q));
    items = λ e c. only.items e (λ q. apart (objects.Enclave e) (contains_in held (objects.Enclave e) c) (contains_in others (objects.Enclave e) q));
    thread = λ h c. only.thread h (λ q. apart (objects.Thread h) (contains_in held (objects.Thread h) c) (contains_in others (objects.Thread h) q));
    cell = λ i c. only.cell i (λ q. apart (objects.Cell i) (contains_in held (objects.Cell i) c) (contains_in others (objects.Cell i) q));
    mode = only.mode core ne;
  };
  rows = λ o i h b. refl;
  words = λ i k. refl;
  kept = λ i k. elim (stays i) [
    | inl e ↦ e
    | inr x ↦ elim x [
      | inl unused ↦ absurd (unused k.who k.answers)
      | inr q ↦ absurd (kept_apart t held others i facts apart k q)
    ]
  ];
}

-- it writes a word of a row that it holds
pub looks_write : (core : ℕ) (t : State) (now : Content) (held others : List ObjectId) (m : Memory) (o : ObjectId) (i word : ℕ) → AreApart held others → In o others → LooksSame core t now held m t now (with_word m (Row o i) word)
looks_write core t now held others m o i word apart h = record {
  agree = agree_refl t core held;
  rows = λ p j k b. elim (at_place m (Row o i) word (Row p j)) [
    | inl f ↦ absurd (apart p k (subst (λ z. In z others) (row_object f.0) h))
    | inr f ↦ f.1
  ];
  words = λ j k. row_dram m o i word j;
  kept = λ j k. refl;
}

-- it stores a word of DRAM that no object of this core answers for
pub looks_store : (core : ℕ) (t : State) (now : Content) (held : List ObjectId) (m : Memory) (i word : ℕ) → (Keeps t held i → ⊥) → LooksSame core t now held m t now (with_word m (Dram i) word)
looks_store core t now held m i word not_kept = record {
  agree = agree_refl t core held;
  rows = λ p j k b. dram_row m i word p j;
  words = λ j k. elim (at_place m (Dram i) word (Dram j)) [
    | inl f ↦ absurd (not_kept (subst (λ z. Keeps t held z) (sym (dram_index f.0)) k))
    | inr f ↦ f.1
  ];
  kept = λ j k. refl;
}

-- one that it keeps itself, or for which nobody answers, is none
pub not_kept_by : (t : State) (held others : List ObjectId) (i : ℕ) → FactsHold t → AreApart held others → Keeps t others i → Keeps t held i → ⊥
not_kept_by t held others i facts apart q k = kept_apart t held others i facts apart k q

pub not_kept_unused : (t : State) (held : List ObjectId) (i : ℕ) → IsUnused t i → Keeps t held i → ⊥
not_kept_unused t held i unused k = unused k.who k.answers

-- lock words and the counter are of no row and no word of DRAM
pub looks_lock : (core : ℕ) (t : State) (now : Content) (held : List ObjectId) (m : Memory) (o : ObjectId) (word : ℕ) → LooksSame core t now held m t now (with_word m (Lock o) word)
unfolding with_word same_place
looks_lock core t now held m o word = record { agree = agree_refl t core held; rows = λ p j k b. refl; words = λ j k. refl; kept = λ j k. refl }

pub looks_counter : (core : ℕ) (t : State) (now : Content) (held : List ObjectId) (m : Memory) (word : ℕ) → LooksSame core t now held m t now (with_word m Counter word)
unfolding with_word same_place
looks_counter core t now held m word = record { agree = agree_refl t core held; rows = λ p j k b. refl; words = λ j k. refl; kept = λ j k. refl }
