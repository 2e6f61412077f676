-- Writes and Stores of a call, once for all calls: early own-words, the rows of a later state, and zeros in a region.
use Rattle.std.proofs.Common.{◌≡◌, ◌⊎◌, inl, inr, ◌<◌, ◌≤◌, ◌+◌, ◌%◌, ◌∙◌, ℕ, zero, suc, Bool, true, false, cond, eqb, List, [], ◌∷◌, map, length, ap, sym, refl, subst, get_or, arith}
use Rattle.std.specs.Prelude.{filter}
use Rattle.std.specs.List.{range_with_len, AllByRecursion}
use Rattle.std.proofs.lemmas.Bool.{eqb-true, eq-eqb, cases_eq}
use Rattle.mon_types.specs.Shape.{Shape}
use Rattle.mon_types.specs.Objects.{width}
use Rattle.mon_types.specs.declared.call.Call.{Call}
use Rattle.mon_types.specs.declared.object.ObjectId.{ObjectId}
use Rattle.mon_types.specs.declared.object.ObjectId.TheVariants as objects
use Rattle.mon_model.specs.State.{State}
use Rattle.dram_map.specs.Addresses.{word_total, region_of_word}
use Rattle.mon_enclaves.specs.LoadReply.{is_load}
use Rattle.mon_records.specs.Rows.{Found, row_words, words_of}
use Rattle.mon_records.specs.EarlyWords.{ReadsOwned}
use Rattle.mon_records.specs.EarlyLaws.{IsEarlyFor}
use Rattle.mon_records.specs.Members.{In}
use Rattle.mon_records.proofs.Members.{contains_in}
use Rattle.loaded_pages.specs.Content.{Content}
use Rattle.protocol.specs.declared.action.Action.TheVariants as actions
use Rattle.protocol.specs.Places.{Row, Dram, Memory, with_word, row_word}
use Rattle.protocol.specs.CallTree.{Tree, Issuer, then_, onto, unlocks, words_in_region, zeros, write_unless, row_writes, late_writes, early_writes}
use Rattle.protocol.specs.Records.{withdraws_any}
use Rattle.protocol_laws.specs.Known.{Keeps, RowStands, OwnedAreTrue}
use Rattle.protocol_laws.specs.Safe.{Safe}
use Rattle.protocol_laws.proofs.Places.{at_place, here, dram_index, dram_row}
use Rattle.protocol_laws.proofs.Agreeing.{in_onto, onto_in}
use Rattle.protocol_laws.proofs.Standing.{RowsStand, AllWordsStand, IsSaid, AreLong, written, said_write, long_write, IsBetter, better_write, IsBetween, between_write, true_write, words_write}
use Rattle.protocol_laws.proofs.Locking.{safe_unlocks}

-- the own-word of a region does not read Owned
abbrev pub IsDead : Memory → ℕ → Type 0
IsDead memory r = ReadsOwned (memory (Row (objects.Region r) 0)) → ⊥

-- the regions of these own-words
abbrev pub regions_in : List (ℕ × ℕ) → List ℕ
regions_in ps = map (λ p. p.0) ps

dead_write : (memory : Memory) (q word r : ℕ) → (ReadsOwned word → ⊥) → (q ≡ r) ⊎ IsDead memory r → IsDead (with_word memory (Row (objects.Region q) 0) word) r
dead_write memory q word r dead was e = elim (at_place memory (Row (objects.Region q) 0) word (Row (objects.Region r) 0)) [
  | inl f ↦ dead (ap (λ z. z % 4) (sym f.1) ∙ e)
  | inr f ↦ elim was [
    | inl same ↦ f.0 (ap (λ z. Row (objects.Region z) 0) same)
    | inr d ↦ d (ap (λ z. z % 4) (sym f.1) ∙ e)
  ]
]

-- ---- the words of a region

in_range : (a n j : ℕ) → In j (range_with_len a n) → (a ≤ j) × (j < a + n)
in_range a zero j h = absurd h
in_range a (suc n) j h = elim h [
  | inl e ↦ (omega (arith, e), omega (arith, e))
  | inr g ↦ let r = in_range (a + 1) n j g in (omega (arith, r.0), omega (arith, r.1))
]

range_in : (a n j : ℕ) → a ≤ j → j < a + n → In j (range_with_len a n)
range_in a zero j l h = absurd (omega arith)
range_in a (suc n) j l h = elim (cases_eq j a) [
  | inl e ↦ inl e
  | inr ne ↦ inr (range_in (a + 1) n j (omega (arith, ne)) (omega arith))
]

in_cond : (b : Bool) (x j : ℕ) (xs : List ℕ) → In j (cond b (x ∷ xs) xs) → ((b ≡ true) × (j ≡ x)) ⊎ In j xs
in_cond true x j xs h = elim h [ inl e ↦ inl (refl, e) | inr g ↦ inr g ]
in_cond false x j xs h = inr h

cond_in : (b : Bool) (x j : ℕ) (xs : List ℕ) → In j xs → In j (cond b (x ∷ xs) xs)
cond_in true x j xs h = inr h
cond_in false x j xs h = h

in_filter : (p : ℕ → Bool) (xs : List ℕ) (j : ℕ) → In j (filter p xs) → In j xs × (p j ≡ true)
in_filter p [] j h = absurd h
in_filter p (x ∷ xs) j h = elim (in_cond (p x) x j (filter p xs) h) [
  | inl f ↦ (inl f.1, ap p f.1 ∙ f.0)
  | inr g ↦ let r = in_filter p xs j g in (inr r.0, r.1)
]

filter_in : (p : ℕ → Bool) (xs : List ℕ) (j : ℕ) → In j xs → p j ≡ true → In j (filter p xs)
filter_in p [] j h t = absurd h
filter_in p (x ∷ xs) j h t = elim h [
  | inl e ↦ subst (λ b. In j (cond b (x ∷ filter p xs) (filter p xs))) (sym (ap p (sym e) ∙ t)) (inl e)
  | inr g ↦ cond_in (p x) x j (filter p xs) (filter_in p xs j g t)
]

pub in_region : (m : Shape) (r j : ℕ) → In j (words_in_region m r) → (j < word_total m) × (region_of_word m j ≡ r)
in_region m r j h =
    let f = in_filter (λ i. eqb (region_of_word m i) r) (range_with_len 0 (word_total m)) j h in
    let g = in_range 0 (word_total m) j f.0 in
    (omega (arith, g.1), eqb-true (region_of_word m j) r f.1)

pub region_in : (m : Shape) (r j : ℕ) → j < word_total m → region_of_word m j ≡ r → In j (words_in_region m r)
region_in m r j b e = filter_in (λ i. eqb (region_of_word m i) r) (range_with_len 0 (word_total m)) j (range_in 0 (word_total m) j (omega arith) (omega (arith, b))) (eq-eqb (region_of_word m j) r e)

module _ (by : Issuer) (call : Call) where
  -- ---- early writes

  some_early : {p : ℕ × ℕ} {ps : List (ℕ × ℕ)} → p ∷ ps ≡ [] → ⊥
  some_early e = cc

  pub safe_early : (ps : List (ℕ × ℕ)) (stands : Found) (next : Found → Tree) (held : List ObjectId) (s : State) (content : Content) (answers : List ℕ) (memory : Memory) → ((p : ℕ × ℕ) → In p ps → withdraws_any call ≡ true) → AllByRecursion (IsEarlyFor held) ps → IsSaid held stands memory → AreLong held stands → OwnedAreTrue s held memory → AllWordsStand held s content memory →
      ((stands1 : Found) (m : Memory) → IsSaid held stands1 m → AreLong held stands1 → OwnedAreTrue s held m → AllWordsStand held s content m → ((r : ℕ) → In r (regions_in ps) ⊎ IsDead memory r → IsDead m r) → (ps ≡ [] → stands1 ≡ stands) → Safe by call s content answers held m (next stands1)) →
      Safe by call s content answers held memory (early_writes ps stands next)
  unfolding early_writes width
  safe_early [] stands next held s content answers memory withdraws fit said long are words cont = cont stands memory said long are words (λ r h. elim h [ inl f ↦ absurd f | inr d ↦ d ]) (λ e. refl)
  safe_early (p ∷ ps) stands next held s content answers memory withdraws fit said long are words cont =
      let dead : ReadsOwned p.1 → ⊥ = fit.0.1 in
      let m1 : Memory = with_word memory (Row (objects.Region p.0) 0) p.1 in
      let are1 : OwnedAreTrue s held m1 = λ r h e. elim (at_place memory (Row (objects.Region p.0) 0) p.1 (Row (objects.Region r) 0)) [
        | inl f ↦ absurd (dead (ap (λ z. z % 4) (sym f.1) ∙ e))
        | inr f ↦ f.1 ∙ are r h (ap (λ z. z % 4) (sym f.1) ∙ e)
      ] in (
        contains_in held (objects.Region p.0) fit.0.0,
        omega arith,
        inr (withdraws p (inl refl)),
        are1,
        safe_early ps (written stands p.0 p.1) next held s content answers m1 (λ q g. withdraws q (inr g)) fit.1 (said_write held stands memory p.0 p.1 said) (long_write held stands p.0 p.1 long) are1 (words_write held s content memory (objects.Region p.0) 0 p.1 words)
            (λ stands2 m2 said2 long2 are2 words2 still none. cont stands2 m2 said2 long2 are2 words2
            (λ r h. elim h [
              | inl f ↦ elim f [
                | inl e ↦ still r (inr (dead_write memory p.0 p.1 r dead (inl (sym e))))
                | inr g ↦ still r (inl g)
              ]
              | inr d ↦ still r (inr (dead_write memory p.0 p.1 r dead (inr d)))
            ]) (λ e. absurd (some_early e))),
      )

  -- ---- late writes, to the rows of u

  module _ (held : List ObjectId) (u : State) (content : Content) (answers : List ℕ) (stands : Found) where
    -- one word
    safe_unless : (c : Bool) (o : ObjectId) → In o held → (i word : ℕ) (memory : Memory) (next : Tree) → i < width o → word ≡ row_word u o i → (c ≡ true → memory (Row o i) ≡ row_word u o i) → IsBetween held stands u memory → OwnedAreTrue u held memory → AllWordsStand held u content memory →
        ((m : Memory) → IsBetter held u memory m → m (Row o i) ≡ row_word u o i → IsBetween held stands u m → OwnedAreTrue u held m → AllWordsStand held u content m → Safe by call u content answers held m next) →
        Safe by call u content answers held memory (write_unless c o i word next)
    unfolding write_unless
    safe_unless true o h i word memory next b target now between are words cont = cont memory (λ p j g d f. f) (now refl) between are words
    safe_unless false o h i word memory next b target now between are words cont =
        subst (λ z. Safe by call u content answers held memory (then_ (actions.Write o i z) next)) (sym target)
        (h, b, inl refl, true_write held u memory o i are, cont (with_word memory (Row o i) (row_word u o i)) (better_write held u memory o i) (here memory (Row o i) (row_word u o i)) (between_write held stands u memory o i between) (true_write held u memory o i are) (words_write held u content memory o i (row_word u o i) words))

    -- one row
    safe_row : (o : ObjectId) → In o held → (wanted : List ℕ) → ((i : ℕ) → get_or wanted i 0 ≡ row_word u o i) →
        (xs : List ℕ) (i : ℕ) (memory : Memory) (next : Tree) → i + length xs ≡ width o → ((j : ℕ) → get_or xs j 0 ≡ get_or (words_of stands o) (i + j) 0) →
        ((j : ℕ) → j < i → memory (Row o j) ≡ row_word u o j) → IsBetween held stands u memory → OwnedAreTrue u held memory → AllWordsStand held u content memory →
        ((m : Memory) → RowStands o u m → IsBetter held u memory m → IsBetween held stands u m → OwnedAreTrue u held m → AllWordsStand held u content m → Safe by call u content answers held m next) →
        Safe by call u content answers held memory (row_writes o i xs wanted next)
    unfolding row_writes
    safe_row o h wanted target [] i memory next e old done between are words cont = cont memory (λ j b. done j (omega arith)) (λ p j g b f. f) between are words
    safe_row o h wanted target (x ∷ xs) i memory next e old done between are words cont =
        let b : i < width o = omega arith in
        let now : x ≡ get_or (words_of stands o) i 0 = old 0 ∙ ap (λ z. get_or (words_of stands o) z 0) (let f : i + 0 ≡ i = omega arith in f) in
        safe_unless (eqb x (get_or wanted i 0)) o h i (get_or wanted i 0) memory (row_writes o (suc i) xs wanted next) b (target i)
        (λ t. elim (between o i h b) [ inl g ↦ g ∙ sym now ∙ eqb-true x (get_or wanted i 0) t ∙ target i | inr g ↦ g ]) between are words
        (λ m better own between1 are1 words1. safe_row o h wanted target xs (suc i) m next (omega arith)
        (λ j. old (suc j) ∙ ap (λ z. get_or (words_of stands o) z 0) (let f : i + suc j ≡ suc i + j = omega arith in f))
        (λ j c. elim (cases_eq j i) [ inl g ↦ subst (λ z. m (Row o z) ≡ row_word u o z) (sym g) own | inr ne ↦ better o j h (omega arith) (done j (omega (arith, ne))) ])
        between1 are1 words1
        (λ m2 row better2 between2 are2 words2. cont m2 row (λ p j g d f. better2 p j g d (better p j g d f)) between2 are2 words2))

    -- all rows
    pub safe_late : (new : State) → ((o : ObjectId) → In o held → row_words new o ≡ row_words u o) → AreLong held stands →
        (os : List ObjectId) → ((o : ObjectId) → In o os → In o held) → (memory : Memory) (next : Tree) → IsBetween held stands u memory → OwnedAreTrue u held memory → AllWordsStand held u content memory →
        ((m : Memory) → RowsStand os u m → IsBetter held u memory m → AllWordsStand held u content m → Safe by call u content answers held m next) →
        Safe by call u content answers held memory (late_writes os stands new next)
    unfolding late_writes
    safe_late new target long [] sub memory next between are words cont = cont memory (λ o h. absurd h) (λ p j g b f. f) words
    safe_late new target long (o ∷ os) sub memory next between are words cont =
        let h = sub o (inl refl) in
        safe_row o h (row_words new o) (λ i. ap (λ ws. get_or ws i 0) (target o h)) (words_of stands o) 0 memory (late_writes os stands new next) (omega (arith, long o h))
        (λ j. ap (λ z. get_or (words_of stands o) z 0) (let f : j ≡ 0 + j = omega arith in f)) (λ j b. absurd (omega arith)) between are words
        (λ m row better between1 are1 words1. safe_late new target long os (λ p g. sub p (inr g)) m next between1 are1 words1
        (λ m2 all better2 words2. cont m2
        (λ p g. elim g [
          | inl e ↦ λ i b. better2 p i (sub p (inl e)) b (subst (λ z. RowStands z u m) (sym e) row i b)
          | inr g ↦ all p g
        ])
        (λ p j g b f. better2 p j g b (better p j g b f)) words2))

    -- the late writes of all that is held, and the Unlocks
    pub safe_rest : (new : State) (memory : Memory) → ((o : ObjectId) → In o held → row_words new o ≡ row_words u o) → AreLong held stands → IsSaid held stands memory → OwnedAreTrue u held memory → AllWordsStand held u content memory →
        Safe by call u content answers held memory (late_writes (onto held []) stands new (unlocks held))
    safe_rest new memory target long said are words =
        safe_late new target long (onto held []) (λ o h. elim (onto_in held [] o h) [ inl g ↦ g | inr g ↦ absurd g ]) memory (unlocks held) (λ o i h b. inl (said o i h b)) are words
        (λ m rows better words1. safe_unlocks by call held u content answers m (λ o h. rows o (in_onto held [] o (inl h))) words1)

  -- ---- zeros

  pub safe_zeros : (held : List ObjectId) (u : State) (content : Content) (answers : List ℕ) (is : List ℕ) (memory : Memory) (next : Tree) → is_load call ≡ false → ((i : ℕ) → In i is → (i < word_total u.shape) × Keeps u held i) →
      ((m : Memory) → ((j : ℕ) → In j is ⊎ (memory (Dram j) ≡ 0) → m (Dram j) ≡ 0) → ((j : ℕ) → (In j is → ⊥) → m (Dram j) ≡ memory (Dram j)) → ((o : ObjectId) (j : ℕ) → m (Row o j) ≡ memory (Row o j)) → Safe by call u content answers held m next) →
      Safe by call u content answers held memory (zeros is next)
  unfolding zeros
  safe_zeros held u content answers [] memory next plain keeps cont = cont memory (λ j h. elim h [ inl f ↦ absurd f | inr e ↦ e ]) (λ j n. refl) (λ o j. refl)
  safe_zeros held u content answers (i ∷ is) memory next plain keeps cont =
      let first = keeps i (inl refl) in (
        first.0,
        inr (plain, refl, first.1),
        safe_zeros held u content answers is (with_word memory (Dram i) 0) next plain (λ j h. keeps j (inr h))
            (λ m zeroed others rows. cont m
            (λ j h. zeroed j (elim h [
              | inl f ↦ elim f [
                | inl e ↦ inr (ap (λ z. with_word memory (Dram i) 0 (Dram z)) e ∙ here memory (Dram i) 0)
                | inr g ↦ inl g
              ]
              | inr e ↦ inr (elim (at_place memory (Dram i) 0 (Dram j)) [ inl f ↦ f.1 | inr f ↦ f.1 ∙ e ])
            ]))
            (λ j n. others j (λ g. n (inr g)) ∙ elim (at_place memory (Dram i) 0 (Dram j)) [
              | inl f ↦ absurd (n (inl (sym (dram_index f.0))))
              | inr f ↦ f.1
            ])
            (λ o j. rows o j ∙ dram_row memory i 0 o j)),
      )
