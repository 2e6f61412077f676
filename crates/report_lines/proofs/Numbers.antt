-- Numbers that stand one after the other.
use Rattle.std.proofs.Common.{◌≡◌, ℕ, zero, suc, ◌+◌, ◌-◌, ◌<◌, ◌≤◌, ◌^◌, List, [], ◌∷◌, ◌++◌, length, take, drop, replicate, get_or, set, Option, Some, None, refl, sym, ap, subst, ◌∙◌, arith, append_assoc}
use Rattle.std.specs.Prelude.{map}
use Rattle.std.specs.List.{AllByRecursion}
use Rattle.std.specs.Option.{option_map}
use Rattle.std.specs.Fmt.{decimal}
use Rattle.std.proofs.lemmas.List.{append-nil, length-append, length-replicate, length-set, take_more_set, drop-set-lt, at_drop_more, take-append-drop, length-take}
use Rattle.text_in.specs.Numbers.{canonical_of, up_to}
use Rattle.text_in.proofs.Numbers.{up_to_is, up_to_read, canonical_read}
use Rattle.report_lines.specs.Fits.{IsWord}
use Rattle.report_lines.specs.Reading.{number_at, with_number, numbers_at, padded}

-- ---- what is printed is read

pub number_read : (most n : ℕ) (words : List (List ℕ)) → n ≤ most → most < 2 ^ 64 → number_at most (decimal n ∷ words) ≡ Some (n, words)
number_read most n words le lt = ap (option_map (λ (m : ℕ). (m, words))) (up_to_read most (canonical_of (decimal n)) n (canonical_read n (omega arith)) le)

one_number : (n : ℕ) (words : List (List ℕ)) (found : ℕ × List (List ℕ)) → number_at (2 ^ 64 - 1) words ≡ Some found → numbers_at (suc n) words ≡ (found.0 ∷ (numbers_at n found.1).0, (numbers_at n found.1).1)
unfolding numbers_at
one_number n words found e = ap (λ (o : Option (ℕ × List (List ℕ))). with_number o words (numbers_at n)) e

no_number : (n : ℕ) (words : List (List ℕ)) → number_at (2 ^ 64 - 1) words ≡ None → numbers_at n words ≡ ([], words)
unfolding numbers_at
no_number zero words e = refl
no_number (suc n) words e = ap (λ (o : Option (ℕ × List (List ℕ))). with_number o words (numbers_at n)) e

-- numbers, and behind them a word that is none
pub numbers_read : (n : ℕ) (ns : List ℕ) (words : List (List ℕ)) → length ns ≤ n → AllByRecursion IsWord ns → number_at (2 ^ 64 - 1) words ≡ None → numbers_at n (map decimal ns ++ words) ≡ (ns, words)
numbers_read n [] words le h none = no_number n words none
numbers_read zero (m ∷ ns) words le h none = absurd (omega arith)
numbers_read (suc n) (m ∷ ns) words le h none =
    let later = numbers_read n ns words (omega arith) h.1 none in
    one_number n (decimal m ∷ (map decimal ns ++ words)) (m, map decimal ns ++ words) (number_read (2 ^ 64 - 1) m (map decimal ns ++ words) (omega (arith, h.0)) (omega arith))
    ∙ ap (λ (found : List ℕ × List (List ℕ)). (m ∷ found.0, found.1)) later

-- ---- what is read

bounded : (most : ℕ) (word : List ℕ) (words : List (List ℕ)) (found : ℕ × List (List ℕ)) (read : Option ℕ) → up_to most (canonical_of word) ≡ read → option_map (λ (m : ℕ). (m, words)) read ≡ Some found → found.0 ≤ most
bounded most word words found None is e = absurd cc
bounded most word words found (Some m) is e =
    let pair : (m, words) ≡ found = cc in
    let same : m ≡ found.0 = ap (λ (p : ℕ × List (List ℕ)). p.0) pair in
    omega (arith, (up_to_is most (canonical_of word) m is).1)

-- a number that is read is at most this
pub number_found : (most : ℕ) (words : List (List ℕ)) (found : ℕ × List (List ℕ)) → number_at most words ≡ Some found → found.0 ≤ most
number_found most [] found e = absurd cc
number_found most (word ∷ words) found e = bounded most word words found (up_to most (canonical_of word)) refl e

-- the numbers that are read are words, and no more than asked for
pub record AreNumbers (n : ℕ) (ns : List ℕ) : Type 0 where
  pub words : AllByRecursion IsWord ns
  pub few : length ns ≤ n

first_found : (n : ℕ) (words : List (List ℕ)) (o : Option (ℕ × List (List ℕ))) → number_at (2 ^ 64 - 1) words ≡ o → ((rest : List (List ℕ)) → AreNumbers n (numbers_at n rest).0)
    → AreNumbers (suc n) (with_number o words (numbers_at n)).0
first_found n words None is h = record { words = tt; few = omega arith }
first_found n words (Some found) is h =
    let later : AreNumbers n (numbers_at n found.1).0 = h found.1 in
    let small : found.0 ≤ 2 ^ 64 - 1 = number_found (2 ^ 64 - 1) words found is in
    record { words = (omega arith, later.words); few = omega (arith, later.few) }

pub numbers_found : (n : ℕ) (words : List (List ℕ)) → AreNumbers n (numbers_at n words).0
unfolding numbers_at
numbers_found zero words = record { words = tt; few = omega arith }
numbers_found (suc n) words = first_found n words (number_at (2 ^ 64 - 1) words) refl (λ rest. numbers_found n rest)

all_append : (P : ℕ → Type 0) (xs ys : List ℕ) → AllByRecursion P xs → AllByRecursion P ys → AllByRecursion P (xs ++ ys)
all_append P [] ys h k = k
all_append P (x ∷ xs) ys h k = (h.0, all_append P xs ys h.1 k)

zeros_are_words : (n : ℕ) → AllByRecursion IsWord (replicate n 0)
zeros_are_words zero = tt
zeros_are_words (suc n) = (omega arith, zeros_are_words n)

pub padded_words : (n : ℕ) (ns : List ℕ) → AllByRecursion IsWord ns → AllByRecursion IsWord (padded n ns)
padded_words n ns h = all_append IsWord ns (replicate (n - length ns) 0) h (zeros_are_words (n - length ns))

pub padded_long : (n : ℕ) (ns : List ℕ) → length ns ≤ n → length (padded n ns) ≡ n
padded_long n ns le = omega (arith, length-append {A = ℕ} ns (replicate (n - length ns) 0), length-replicate {A = ℕ} (n - length ns) 0)

pub padded_full : (n : ℕ) (ns : List ℕ) → length ns ≡ n → padded n ns ≡ ns
padded_full n ns e =
    let none : n - length ns ≡ 0 = omega arith in
    ap (λ (k : ℕ). ns ++ replicate k 0) none ∙ append-nil ns

-- ---- reading them into an array

-- numbers before those that were read
abbrev pub behind_front : List ℕ → List ℕ × List (List ℕ) → List ℕ × List (List ℕ)
behind_front front read = (front ++ read.0, read.1)

-- one number before them
abbrev pub with_first : ℕ → List ℕ × List (List ℕ) → List ℕ × List (List ℕ)
with_first x read = (x ∷ read.0, read.1)

-- numbers, and the words behind them
abbrev pub with_second : List (List ℕ) → List ℕ → List ℕ × List (List ℕ)
with_second words front = (front, words)

-- what was read so far, and then what is still read
abbrev pub read_on : ℕ → List ℕ → List (List ℕ) → List ℕ × List (List ℕ)
read_on n front words = behind_front front (numbers_at n words)

-- n words are left, of which one is read
read_next : (n place x : ℕ) (numbers : List ℕ) (rest words : List (List ℕ)) (all : List ℕ × List (List ℕ)) → place < length numbers → length numbers ≡ n → number_at (2 ^ 64 - 1) words ≡ Some (x, rest)
    → read_on (n - place) (take place numbers) words ≡ all → read_on (n - (place + 1)) (take (place + 1) (set numbers place x)) rest ≡ all
read_next n place x numbers rest words all lt size e so_far =
    let up : n - place ≡ suc (n - (place + 1)) = omega arith in
    let step : numbers_at (n - place) words ≡ with_first x (numbers_at (n - (place + 1)) rest) = ap (λ (k : ℕ). numbers_at k words) up ∙ one_number (n - (place + 1)) words (x, rest) e in
    ap (λ (front : List ℕ). read_on (n - (place + 1)) front rest) (take_more_set numbers place x lt)
    ∙ ap (with_second (numbers_at (n - (place + 1)) rest).1) (append_assoc (take place numbers) (x ∷ []) (numbers_at (n - (place + 1)) rest).0)
    ∙ ap (behind_front (take place numbers)) (sym step)
    ∙ so_far

pub one_more_read : (place x : ℕ) (numbers : List ℕ) (rest words total : List (List ℕ)) → place < length numbers → number_at (2 ^ 64 - 1) words ≡ Some (x, rest)
    → read_on (length numbers - place) (take place numbers) words ≡ numbers_at (length numbers) total
    → read_on (length (set numbers place x) - (place + 1)) (take (place + 1) (set numbers place x)) rest ≡ numbers_at (length (set numbers place x)) total
one_more_read place x numbers rest words total lt e so_far =
    subst (λ (n : ℕ). read_on (n - (place + 1)) (take (place + 1) (set numbers place x)) rest ≡ numbers_at n total) (sym (length-set numbers place x))
    (read_next (length numbers) place x numbers rest words (numbers_at (length numbers) total) lt refl e so_far)

-- one zero fewer is left
pub zeros_fewer : (place x : ℕ) (numbers : List ℕ) → place < length numbers → drop place numbers ≡ replicate (length numbers - place) 0
    → drop (place + 1) (set numbers place x) ≡ replicate (length (set numbers place x) - (place + 1)) 0
zeros_fewer place x numbers lt zeros =
    let up : length numbers - place ≡ suc (length numbers - (place + 1)) = omega arith in
    let size : length numbers - (place + 1) ≡ length (set numbers place x) - (place + 1) = omega (arith, length-set numbers place x) in
    let one : get_or numbers place 0 ∷ drop (place + 1) numbers ≡ 0 ∷ replicate (length numbers - (place + 1)) 0 = sym (at_drop_more (λ (l : List ℕ). l) numbers place 0 lt) ∙ zeros ∙ ap (λ (k : ℕ). replicate k 0) up in
    let fewer : drop (place + 1) numbers ≡ replicate (length numbers - (place + 1)) 0 = cc in
    drop-set-lt (place + 1) numbers place x (omega arith) ∙ fewer ∙ ap (λ (k : ℕ). replicate k 0) size

-- what holds where no more is read
pub record IsRead (n place : ℕ) (numbers : List ℕ) (words : List (List ℕ)) (all : List ℕ × List (List ℕ)) : Type 0 where
  pub numbers_are : numbers ≡ padded n all.0
  pub count : place ≡ length all.0
  pub rest : words ≡ all.1

filled : (n place : ℕ) (numbers : List ℕ) (words : List (List ℕ)) (all : List ℕ × List (List ℕ)) → place ≤ n → length numbers ≡ n → drop place numbers ≡ replicate (n - place) 0
    → with_second words (take place numbers) ≡ all → IsRead n place numbers words all
filled n place numbers words all le size zeros e =
    let count : length (take place numbers) ≡ place = omega (arith, length-take place numbers) in
    let same : n - place ≡ n - length (take place numbers) = omega arith in
    let front : take place numbers ≡ all.0 = ap (λ (r : List ℕ × List (List ℕ)). r.0) e in
    record {
      numbers_are =
          sym (take-append-drop place numbers) ∙ ap (λ (x : List ℕ). take place numbers ++ x) (zeros ∙ ap (λ (k : ℕ). replicate k 0) same)
          ∙ ap (padded n) front;
      count = sym count ∙ ap length front;
      rest = ap (λ (r : List ℕ × List (List ℕ)). r.1) e;
    }

nothing_more : (n : ℕ) (front : List ℕ) (words : List (List ℕ)) → numbers_at n words ≡ ([], words) → with_second words front ≡ read_on n front words
nothing_more n front words e = ap (with_second words) (sym (append-nil front)) ∙ ap (behind_front front) (sym e)

-- behind them stands no number
pub stopped : (n place : ℕ) (numbers : List ℕ) (words total : List (List ℕ)) → place ≤ n → length numbers ≡ n → number_at (2 ^ 64 - 1) words ≡ None → drop place numbers ≡ replicate (length numbers - place) 0
    → read_on (length numbers - place) (take place numbers) words ≡ numbers_at (length numbers) total → IsRead n place numbers words (numbers_at n total)
stopped n place numbers words total le size none zeros so_far =
    filled n place numbers words (numbers_at n total) le size (zeros ∙ ap (λ (k : ℕ). replicate (k - place) 0) size)
    (nothing_more (length numbers - place) (take place numbers) words (no_number (length numbers - place) words none) ∙ so_far ∙ ap (λ (k : ℕ). numbers_at k total) size)

none_wanted : (words : List (List ℕ)) → numbers_at 0 words ≡ ([], words)
unfolding numbers_at
none_wanted words = refl

-- all that there is room for were read
pub full : (n place : ℕ) (numbers : List ℕ) (words total : List (List ℕ)) → place ≡ n → length numbers ≡ n → drop place numbers ≡ replicate (length numbers - place) 0
    → read_on (length numbers - place) (take place numbers) words ≡ numbers_at (length numbers) total → IsRead n place numbers words (numbers_at n total)
full n place numbers words total end size zeros so_far =
    let over : length numbers - place ≡ 0 = omega arith in
    filled n place numbers words (numbers_at n total) (omega arith) size (zeros ∙ ap (λ (k : ℕ). replicate (k - place) 0) size)
    (nothing_more (length numbers - place) (take place numbers) words (ap (λ (k : ℕ). numbers_at k words) over ∙ none_wanted words) ∙ so_far ∙ ap (λ (k : ℕ). numbers_at k total) size)
