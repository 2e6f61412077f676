-- What stands in the rows and the words that a core holds, and how it gets from the rows that it found to those of a
-- later state.
use Rattle.std.proofs.Common.{◌≡◌, ◌⊎◌, inl, inr, ◌<◌, ◌%◌, ◌∙◌, ℕ, zero, suc, true, false, cond, List, [], ◌∷◌, length, ap, sym, refl, subst, get_or, drop, arith}
use Rattle.std.proofs.lemmas.Bool.{cases_Bool}
use Rattle.std.proofs.lemmas.List.{length-drop}
use Rattle.mon_types.specs.Objects.{width}
use Rattle.mon_types.specs.declared.object.ObjectId.{ObjectId}
use Rattle.mon_types.specs.declared.object.ObjectId.TheVariants as objects
use Rattle.mon_model.specs.State.{State}
use Rattle.mon_records.specs.Rows.{Found, same_object, words_of}
use Rattle.mon_records.specs.Members.{In}
use Rattle.mon_records.proofs.Members.{in_contains}
use Rattle.mon_records.proofs.RebuiltStates.{same_object-true, same_object-refl, agreed_row}
use Rattle.dram_map.specs.Addresses.{word_total}
use Rattle.loaded_pages.specs.Content.{Content}
use Rattle.protocol.specs.Places.{Row, Dram, Memory, with_word, row_word}
use Rattle.protocol_laws.specs.Known.{Keeps, RowStands, WordsStand, OwnedAreTrue, LooksSame}
use Rattle.protocol_laws.proofs.Places.{at_place, row_object, row_index, dram_row, row_dram, row_at, row_own}
use Rattle.protocol_laws.proofs.Agreeing.{agree_sym, answers_agree}

-- ---- what stands

-- each held row stands
abbrev pub RowsStand : List ObjectId → State → Memory → Type 0
RowsStand held s memory = (o : ObjectId) → In o held → RowStands o s memory

-- and the words of each
abbrev pub AllWordsStand : List ObjectId → State → Content → Memory → Type 0
AllWordsStand held s content memory = (o : ObjectId) → In o held → WordsStand o s content memory

pub rows_look : (core : ℕ) (s : State) (content : Content) (held : List ObjectId) (memory : Memory) (t : State) (now : Content) (m : Memory) → LooksSame core s content held memory t now m → RowsStand held s memory → RowsStand held t m
rows_look core s content held memory t now m looks stand o h i b =
    looks.rows o i h b ∙ stand o h i b ∙ ap (λ z. get_or z i 0) (sym (agreed_row s t core held looks.agree o (in_contains held o h)))

pub words_look : (core : ℕ) (s : State) (content : Content) (held : List ObjectId) (memory : Memory) (t : State) (now : Content) (m : Memory) → LooksSame core s content held memory t now m → AllWordsStand held s content memory → AllWordsStand held t now m
words_look core s content held memory t now m looks all o h i b a =
    let before = answers_agree t s core held (agree_sym s t core held looks.agree) o h i a in
    let kept : Keeps s held i = record { who = o; held_is = h; answers = before } in
    looks.words i kept ∙ all o h i (subst (λ z. i < word_total z) looks.agree.shape b) before ∙ sym (looks.kept i kept)

pub stand_true : (held : List ObjectId) (s : State) (memory : Memory) → RowsStand held s memory → OwnedAreTrue s held memory
unfolding width
stand_true held s memory stand r h e = stand (objects.Region r) h 0 (omega arith) ∙ row_own s r

-- one object more
pub rows_more : (o : ObjectId) (held : List ObjectId) (s : State) (memory : Memory) → RowStands o s memory → RowsStand held s memory → RowsStand (o ∷ held) s memory
rows_more o held s memory first others p h = elim h [
  | inl e ↦ subst (λ z. RowStands z s memory) (sym e) first
  | inr g ↦ others p g
]

pub words_more : (o : ObjectId) (held : List ObjectId) (s : State) (content : Content) (memory : Memory) → WordsStand o s content memory → AllWordsStand held s content memory → AllWordsStand (o ∷ held) s content memory
words_more o held s content memory first others p h = elim h [
  | inl e ↦ subst (λ z. WordsStand z s content memory) (sym e) first
  | inr g ↦ others p g
]

-- ---- what was found stands in the rows

-- each word
abbrev pub IsSaid : List ObjectId → Found → Memory → Type 0
IsSaid held found memory = (o : ObjectId) (i : ℕ) → In o held → i < width o → memory (Row o i) ≡ get_or (words_of found o) i 0

-- each row is as long as it should be
abbrev pub AreLong : List ObjectId → Found → Type 0
AreLong held found = (o : ObjectId) → In o held → length (words_of found o) ≡ width o

pub words_same : (o : ObjectId) (words : List ℕ) (found : Found) → words_of ((o, words) ∷ found) o ≡ words
unfolding words_of
words_same o words found = ap (λ b. cond b words (words_of found o)) (same_object-refl o)

pub words_other : (o : ObjectId) (words : List ℕ) (found : Found) (p : ObjectId) → same_object o p ≡ false → words_of ((o, words) ∷ found) p ≡ words_of found p
unfolding words_of
words_other o words found p e = ap (λ b. cond b words (words_of found p)) e

behind_at : (words : List ℕ) (i : ℕ) → get_or (drop 1 words) i 0 ≡ get_or words (suc i) 0
behind_at [] i = refl
behind_at (x ∷ xs) i = refl

-- what was found, once this own-word of a region is written
abbrev pub written : Found → ℕ → ℕ → Found
written found r word = (objects.Region r, word ∷ drop 1 (words_of found (objects.Region r))) ∷ found

pub said_write : (held : List ObjectId) (found : Found) (memory : Memory) (r word : ℕ) → IsSaid held found memory → IsSaid held (written found r word) (with_word memory (Row (objects.Region r) 0) word)
said_write held found memory r word said o i h b = elim (cases_Bool (same_object (objects.Region r) o)) [
  | inl e ↦ subst
      (λ z. In z held → (j : ℕ) → j < width z → with_word memory (Row (objects.Region r) 0) word (Row z j) ≡ get_or (words_of (written found r word) z) j 0)
      (same_object-true (objects.Region r) o e) own h i b
  | inr e ↦ elim (at_place memory (Row (objects.Region r) 0) word (Row o i)) [
    | inl f ↦ absurd (clash (sym e ∙ ap (same_object (objects.Region r)) (sym (row_object f.0)) ∙ same_object-refl (objects.Region r)))
    | inr f ↦ f.1 ∙ said o i h b ∙ ap (λ ws. get_or ws i 0) (sym (words_other (objects.Region r) _ found o e))
  ]
]
  where
    clash : false ≡ true → ⊥
    clash e = cc

    first : (j : ℕ) → 0 ≡ j → word ≡ get_or (word ∷ drop 1 (words_of found (objects.Region r))) j 0
    first zero e = refl
    first (suc j) e = absurd (omega arith)

    other : (j : ℕ) → (Row (objects.Region r) 0 ≡ Row (objects.Region r) j → ⊥) → memory (Row (objects.Region r) j) ≡ get_or (words_of found (objects.Region r)) j 0 → memory (Row (objects.Region r) j) ≡ get_or (word ∷ drop 1 (words_of found (objects.Region r))) j 0
    other zero ne e = absurd (ne refl)
    other (suc j) ne e = e ∙ sym (behind_at (words_of found (objects.Region r)) j)

    own : In (objects.Region r) held → (j : ℕ) → j < width (objects.Region r) → with_word memory (Row (objects.Region r) 0) word (Row (objects.Region r) j) ≡ get_or (words_of (written found r word) (objects.Region r)) j 0
    own m j c = elim (at_place memory (Row (objects.Region r) 0) word (Row (objects.Region r) j)) [
      | inl f ↦ f.1 ∙ first j (row_index f.0) ∙ ap (λ ws. get_or ws j 0) (sym (words_same (objects.Region r) _ found))
      | inr f ↦ f.1 ∙ other j f.0 (said (objects.Region r) j m c) ∙ ap (λ ws. get_or ws j 0) (sym (words_same (objects.Region r) _ found))
    ]

pub long_write : (held : List ObjectId) (found : Found) (r word : ℕ) → AreLong held found → AreLong held (written found r word)
unfolding width
long_write held found r word long o h = elim (cases_Bool (same_object (objects.Region r) o)) [
  | inl e ↦ subst (λ z. In z held → length (words_of (written found r word) z) ≡ width z) (same_object-true (objects.Region r) o e) own h
  | inr e ↦ ap length (words_other (objects.Region r) _ found o e) ∙ long o h
]
  where
    own : In (objects.Region r) held → length (words_of (written found r word) (objects.Region r)) ≡ 2
    own m = ap length (words_same (objects.Region r) _ found) ∙ omega (arith, length-drop 1 (words_of found (objects.Region r)), long (objects.Region r) m)

-- ---- words on the way to the rows of a later state

-- no word that is right already is lost
abbrev pub IsBetter : List ObjectId → State → Memory → Memory → Type 0
IsBetter held s memory later = (o : ObjectId) (i : ℕ) → In o held → i < width o → memory (Row o i) ≡ row_word s o i → later (Row o i) ≡ row_word s o i

pub better_write : (held : List ObjectId) (s : State) (memory : Memory) (o : ObjectId) (i : ℕ) → IsBetter held s memory (with_word memory (Row o i) (row_word s o i))
better_write held s memory o i p j h b e = elim (at_place memory (Row o i) (row_word s o i) (Row p j)) [
  | inl f ↦ f.1 ∙ row_at s f.0
  | inr f ↦ f.1 ∙ e
]

-- each word is what was found or what it is to be
abbrev pub IsBetween : List ObjectId → Found → State → Memory → Type 0
IsBetween held found s memory = (o : ObjectId) (i : ℕ) → In o held → i < width o → (memory (Row o i) ≡ get_or (words_of found o) i 0) ⊎ (memory (Row o i) ≡ row_word s o i)

pub between_write : (held : List ObjectId) (found : Found) (s : State) (memory : Memory) (o : ObjectId) (i : ℕ) → IsBetween held found s memory → IsBetween held found s (with_word memory (Row o i) (row_word s o i))
between_write held found s memory o i between p j h b = elim (between p j h b) [
  | inl e ↦ elim (at_place memory (Row o i) (row_word s o i) (Row p j)) [
    | inl f ↦ inr (f.1 ∙ row_at s f.0)
    | inr f ↦ inl (f.1 ∙ e)
  ]
  | inr e ↦ inr (better_write held s memory o i p j h b e)
]

pub true_write : (held : List ObjectId) (s : State) (memory : Memory) (o : ObjectId) (i : ℕ) → OwnedAreTrue s held memory → OwnedAreTrue s held (with_word memory (Row o i) (row_word s o i))
true_write held s memory o i are r h e = elim (at_place memory (Row o i) (row_word s o i) (Row (objects.Region r) 0)) [
  | inl f ↦ f.1 ∙ row_at s f.0 ∙ row_own s r
  | inr f ↦ f.1 ∙ are r h (ap (λ z. z % 4) (sym f.1) ∙ e)
]

-- a word of a row is no word of DRAM, and the other way round
pub words_write : (held : List ObjectId) (s : State) (content : Content) (memory : Memory) (o : ObjectId) (i word : ℕ) → AllWordsStand held s content memory → AllWordsStand held s content (with_word memory (Row o i) word)
words_write held s content memory o i word all p h j b a = row_dram memory o i word j ∙ all p h j b a

pub true_store : (held : List ObjectId) (s : State) (memory : Memory) (i word : ℕ) → OwnedAreTrue s held memory → OwnedAreTrue s held (with_word memory (Dram i) word)
true_store held s memory i word are r h e =
    let w = dram_row memory i word (objects.Region r) 0 in w ∙ are r h (ap (λ z. z % 4) (sym w) ∙ e)
