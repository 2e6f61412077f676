-- A reader takes the parts of words and keeps them where their row is these words: what this gives, for any kind of
-- record.
use Rattle.std.proofs.Common.{◌≡◌, ◌≢◌, ◌<◌, ◌≤◌, ◌+◌, ◌^◌, ◌∙◌, ℕ, zero, suc, Bool, true, false, true≢false, List, [], ◌∷◌, ap, sym, refl, get_or, take, drop, replicate, arith}
use Rattle.std.specs.Prelude.{if◌then◌else◌}
use Rattle.std.proofs.lemmas.Slice.Eq.{bytes_eq-Decides}
use Rattle.std.proofs.lemmas.Bool.Decides.{nat_tests}
use Rattle.std.proofs.lemmas.List.{length-take, length-drop}
use Rattle.std.specs.List.{AllByRecursion}
use Rattle.mon_types.specs.Words.{AreWords, fitting, same_words}

-- ---- rows that are the same

pub same_row : (xs ys : List ℕ) → same_words xs ys ≡ true → xs ≡ ys
same_row xs ys = (bytes_eq-Decides xs ys).0

pub other_row : (xs ys : List ℕ) → same_words xs ys ≡ false → xs ≢ ys
other_row xs ys e same = true≢false (sym ((bytes_eq-Decides xs ys).1 same) ∙ e)

-- ---- parts that are kept where they are the words' record

pub kept_where_same : {A : Type 0} (row : A → List ℕ) (x none : A) (words : List ℕ) → row x ≡ words → (if same_words (row x) words then x else none) ≡ x
kept_where_same row x none words e =
    ap (λ b. if b then x else none) ((bytes_eq-Decides (row x) words).1 e)

pub none_where_other : {A : Type 0} (row : A → List ℕ) (x none : A) (words : List ℕ) → row x ≢ words → (if same_words (row x) words then x else none) ≡ none
none_where_other row x none words other = by (same_words (row x) words) (same_row (row x) words)
  where
    by : (b : Bool) → (b ≡ true → row x ≡ words) → (if b then x else none) ≡ none
    by true same = absurd (other (same refl))
    by false same = refl

-- a record comes back where its parts do
pub row_back : {A : Type 0} (row : A → List ℕ) (parts : List ℕ → A) (x none : A) → parts (row x) ≡ x → (if same_words (row (parts (row x))) (row x) then parts (row x) else none) ≡ x
row_back row parts x none e =
    ap (λ y. if same_words (row y) (row x) then y else none) e ∙ kept_where_same row x none (row x) refl

pub kept_or_none : {A : Type 0} (P : A → Type 0) (b : Bool) (x none : A) → P x → P none → P (if b then x else none)
kept_or_none P true x none h k = h
kept_or_none P false x none h k = k

-- ---- words in range

abbrev pub Fits : ℕ → Type 0
Fits w = w < 2 ^ 64

pub fitting_is : (limit word : ℕ) → word < limit → fitting limit word ≡ word
unfolding fitting
fitting_is limit word h = grind (arith, nat_tests)

pub fitting_less : (limit word : ℕ) → 0 < limit → fitting limit word < limit
unfolding fitting
fitting_less limit word h = grind (arith, nat_tests)

pub all_at : (P : ℕ → Type 0) (xs : List ℕ) (i : ℕ) → P 0 → AllByRecursion P xs → P (get_or xs i 0)
all_at P [] i z h = z
all_at P (x ∷ xs) zero z h = h.0
all_at P (x ∷ xs) (suc i) z h = all_at P xs i z h.1

all_drop : (P : ℕ → Type 0) (n : ℕ) (xs : List ℕ) → AllByRecursion P xs → AllByRecursion P (drop n xs)
all_drop P zero xs h = h
all_drop P (suc n) [] h = tt
all_drop P (suc n) (x ∷ xs) h = all_drop P n xs h.1

all_take : (P : ℕ → Type 0) (n : ℕ) (xs : List ℕ) → AllByRecursion P xs → AllByRecursion P (take n xs)
all_take P zero xs h = tt
all_take P (suc n) [] h = tt
all_take P (suc n) (x ∷ xs) h = (h.0, all_take P n xs h.1)

-- the words of a part of a row
pub part : (words : List ℕ) (at n long : ℕ) → at + n ≤ long → AreWords long words → AreWords n (take n (drop at words))
part words at n long l h = record {
  many = grind (arith, length-take, length-drop, h.many);
  fit = all_take Fits n (drop at words) (all_drop Fits at words h.fit);
}

pub zeros_fit : (n : ℕ) → AllByRecursion Fits (replicate n 0)
zeros_fit zero = tt
zeros_fit (suc n) = (omega arith, zeros_fit n)
