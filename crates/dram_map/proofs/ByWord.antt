-- What stores in DRAM make of each word.
use Rattle.std.proofs.Common.{◌≡◌, inl, inr, ℕ, zero, suc, ◌+◌, ◌-◌, ◌*◌, ◌%◌, ◌<◌, ◌≤◌, Bool, true, false, cond, ◌&&◌, nat_eq, nat_lt, List, ◌++◌, length, take, drop, get_or, refl, sym, ap, ◌∙◌, append_assoc, arith}
use Rattle.std.proofs.lemmas.Bool.{cases_lt, cases_eq, eq-eqb, ne_eqb, lt-ltb, le-ltb}
use Rattle.std.proofs.lemmas.List.{get_or_append_left, get_or-append_right, get_or-take, get_or-drop, get_or-replicate, get_or-set_same, get_or-set_other, length-append, length-take-le, length-drop}
use Rattle.mon_types.specs.Shape.{Shape, page_total, region_of_page}
use Rattle.mon_types.specs.Sizes.{page_words}
use Rattle.dram_map.specs.Addresses.{first_word, page_of_word, region_of_word}
use Rattle.dram_map.specs.Words.{zero_page, words_of_page, page_cleared, pages_cleared}
use Rattle.dram_map.specs.ByWord.{PutByWord, CopiedByWord, ClearedByWord, RegionClearedByWord}

-- ---- a list whose k items from place a on were exchanged

front : (xs ys : List ℕ) (a k i : ℕ) → a + k ≤ length xs → i < a → get_or (take a xs ++ (ys ++ drop (a + k) xs)) i 0 ≡ get_or xs i 0
front xs ys a k i fits h =
    get_or_append_left (take a xs) _ 0 i (omega (arith, length-take-le a xs (omega arith))) ∙ get_or-take a xs i 0 h

middle : (xs ys : List ℕ) (a k i : ℕ) → a + k ≤ length xs → length ys ≡ k → a ≤ i → i < a + k → get_or (take a xs ++ (ys ++ drop (a + k) xs)) i 0 ≡ get_or ys (i - a) 0
middle xs ys a k i fits long from below =
    get_or-append_right (take a xs) _ a i 0 (length-take-le a xs (omega arith)) from
    ∙ get_or_append_left ys _ 0 (i - a) (omega arith)

behind : (xs ys : List ℕ) (a k i : ℕ) → a + k ≤ length xs → length ys ≡ k → a + k ≤ i → get_or (take a xs ++ (ys ++ drop (a + k) xs)) i 0 ≡ get_or xs i 0
behind xs ys a k i fits long from =
    let place : a + k + (i - a - k) ≡ i = omega arith in
    get_or-append_right (take a xs) _ a i 0 (length-take-le a xs (omega arith)) (omega arith)
    ∙ get_or-append_right ys _ k (i - a) 0 long (omega arith)
    ∙ get_or-drop (a + k) xs (i - a - k) 0
    ∙ ap (λ (n : ℕ). get_or xs n 0) place

-- a page whose words were exchanged
in_page : (xs ys : List ℕ) (page i : ℕ) → first_word page + page_words ≤ length xs → length ys ≡ page_words
    → get_or (take (first_word page) xs ++ (ys ++ drop (first_word page + page_words) xs)) i 0
    ≡ cond (nat_eq (page_of_word i) page) (get_or ys (i % page_words) 0) (get_or xs i 0)
in_page xs ys page i fits long =
    elim (cases_eq (page_of_word i) page) [
      | inl same ↦
          let place : i - first_word page ≡ i % page_words = omega arith in
          rw (eq-eqb (page_of_word i) page same) (middle xs ys (first_word page) page_words i fits long (omega arith) (omega arith) ∙ ap (λ (n : ℕ). get_or ys n 0) place)
      | inr other ↦
          rw (ne_eqb (page_of_word i) page other) (elim (cases_lt i (first_word page)) [
            | inl below ↦ front xs ys (first_word page) page_words i fits below
            | inr from ↦ behind xs ys (first_word page) page_words i fits long (omega (arith, other))
          ])
    ]

-- ---- the laws

pub put_by_word : PutByWord
put_by_word words place value i h =
    elim (cases_eq place i) [
      | inl same ↦ rw (eq-eqb place i same, ← same) (get_or-set_same words place value 0 h)
      | inr other ↦ rw (ne_eqb place i other) (get_or-set_other words place i value 0 (λ (e : i ≡ place). other (sym e)))
    ]

pub copied_by_word : CopiedByWord
copied_by_word words src page i from fits =
    let a : ℕ = first_word page in
    let from_src : List ℕ = drop (first_word src) words in
    let k : ℕ = first_word src + page_words - first_word src in
    let whole : k ≡ page_words = omega arith in
    let long : length (words_of_page words src) ≡ page_words = length-take-le page_words from_src (omega (arith, length-drop (first_word src) words)) in
    let same : get_or (words_of_page words src) (i % page_words) 0 ≡ get_or words (first_word src + i % page_words) 0 =
    get_or-take page_words from_src (i % page_words) 0 (omega arith) ∙ get_or-drop (first_word src) words (i % page_words) 0 in
    ap (λ (l : List ℕ). get_or l i 0) (append_assoc (take a words) (take k from_src) (drop (a + k) words))
    ∙ ap (λ (n : ℕ). get_or (take a words ++ (take n from_src ++ drop (a + n) words)) i 0) whole
    ∙ in_page words (words_of_page words src) page i fits long
    ∙ ap (λ (v : ℕ). cond (nat_eq (page_of_word i) page) v (get_or words i 0)) same

pub cleared_by_word : ClearedByWord
cleared_by_word words page i fits =
    in_page words zero_page page i fits refl
    ∙ ap (λ (v : ℕ). cond (nat_eq (page_of_word i) page) v (get_or words i 0)) (get_or-replicate page_words (i % page_words) 0 0 (omega arith))

-- ---- a region, page by page

length_cleared : (words : List ℕ) (page : ℕ) → first_word page + page_words ≤ length words → length (page_cleared words page) ≡ length words
length_cleared words page fits =
    let rest : List ℕ = drop (first_word page + page_words) words in
    omega (arith, length-append (take (first_word page) words) (zero_page ++ rest), length-append zero_page rest, length-take-le (first_word page) words (omega arith), length-drop (first_word page + page_words) words, zeros)
  where
    zeros : length zero_page ≡ page_words
    zeros = refl

length_pages : (shape : Shape) (r : ℕ) (words : List ℕ) (n : ℕ) → page_words * n ≤ length words → length (pages_cleared shape r words n) ≡ length words
length_pages shape r words zero fits = refl
length_pages shape r words (suc n) fits = by (nat_eq (region_of_page shape n) r) (length_pages shape r words n (omega arith))
  where
    by : (b : Bool) → length (pages_cleared shape r words n) ≡ length words → length (cond b (page_cleared (pages_cleared shape r words n) n) (pages_cleared shape r words n)) ≡ length words
    by true e = length_cleared (pages_cleared shape r words n) n (omega (arith, e, fits)) ∙ e
    by false e = e

-- whether a page is below n + 1, but for page n itself
next_below : (p n : ℕ) → (p ≡ n → ⊥) → nat_lt p (suc n) ≡ nat_lt p n
next_below p n other = elim (cases_lt p n) [
  | inl below ↦ lt-ltb p (suc n) (omega arith) ∙ sym (lt-ltb p n below)
  | inr from ↦ le-ltb p (suc n) (omega (arith, other)) ∙ sym (le-ltb p n from)
]

-- a word after one more page
next_page : (shape : Shape) (r : ℕ) (words : List ℕ) (i n : ℕ) → page_words * suc n ≤ length words
    → get_or (pages_cleared shape r words n) i 0 ≡ cond (nat_lt (page_of_word i) n && nat_eq (region_of_word shape i) r) 0 (get_or words i 0)
    → get_or (pages_cleared shape r words (suc n)) i 0 ≡ cond (nat_lt (page_of_word i) (suc n) && nat_eq (region_of_word shape i) r) 0 (get_or words i 0)
next_page shape r words i n fits so_far =
    elim (cases_eq (page_of_word i) n) [
      | inl same ↦ here same (nat_eq (region_of_page shape n) r) refl
      | inr other ↦
          there other (nat_eq (region_of_page shape n) r)
          ∙ ap (λ (b : Bool). cond (b && nat_eq (region_of_word shape i) r) 0 (get_or words i 0)) (sym (next_below (page_of_word i) n other))
    ]
  where
    one : get_or (page_cleared (pages_cleared shape r words n) n) i 0 ≡ cond (nat_eq (page_of_word i) n) 0 (get_or (pages_cleared shape r words n) i 0)
    one = cleared_by_word (pages_cleared shape r words n) n i (omega (arith, fits, length_pages shape r words n (omega arith)))

    here : page_of_word i ≡ n → (b : Bool) → nat_eq (region_of_page shape n) r ≡ b
        → get_or (cond b (page_cleared (pages_cleared shape r words n) n) (pages_cleared shape r words n)) i 0
        ≡ cond (nat_lt (page_of_word i) (suc n) && nat_eq (region_of_word shape i) r) 0 (get_or words i 0)
    here same true is =
        let region : nat_eq (region_of_word shape i) r ≡ true = ap (λ (p : ℕ). nat_eq (region_of_page shape p) r) same ∙ is in
        let zero_there : cond (nat_eq (page_of_word i) n) 0 (get_or (pages_cleared shape r words n) i 0) ≡ 0 = ap (λ (b : Bool). cond b 0 (get_or (pages_cleared shape r words n) i 0)) (eq-eqb (page_of_word i) n same) in
        let whole : (nat_lt (page_of_word i) (suc n) && nat_eq (region_of_word shape i) r) ≡ true = ap (λ (b : Bool). b && nat_eq (region_of_word shape i) r) (lt-ltb (page_of_word i) (suc n) (omega arith)) ∙ region in
        one ∙ zero_there ∙ sym (ap (λ (b : Bool). cond b 0 (get_or words i 0)) whole)
    here same false is =
        let region : nat_eq (region_of_word shape i) r ≡ false = ap (λ (p : ℕ). nat_eq (region_of_page shape p) r) same ∙ is in
        let before : (nat_lt (page_of_word i) n && nat_eq (region_of_word shape i) r) ≡ false = ap (λ (b : Bool). b && nat_eq (region_of_word shape i) r) (le-ltb (page_of_word i) n (omega arith)) in
        let after : (nat_lt (page_of_word i) (suc n) && nat_eq (region_of_word shape i) r) ≡ false = ap (λ (b : Bool). b && nat_eq (region_of_word shape i) r) (lt-ltb (page_of_word i) (suc n) (omega arith)) ∙ region in
        so_far ∙ ap (λ (b : Bool). cond b 0 (get_or words i 0)) (before ∙ sym after)

    there : (page_of_word i ≡ n → ⊥) → (b : Bool)
        → get_or (cond b (page_cleared (pages_cleared shape r words n) n) (pages_cleared shape r words n)) i 0
        ≡ cond (nat_lt (page_of_word i) n && nat_eq (region_of_word shape i) r) 0 (get_or words i 0)
    there other true = one ∙ ap (λ (b : Bool). cond b 0 (get_or (pages_cleared shape r words n) i 0)) (ne_eqb (page_of_word i) n other) ∙ so_far
    there other false = so_far

pages_by_word : (shape : Shape) (r : ℕ) (words : List ℕ) (i n : ℕ) → page_words * n ≤ length words
    → get_or (pages_cleared shape r words n) i 0 ≡ cond (nat_lt (page_of_word i) n && nat_eq (region_of_word shape i) r) 0 (get_or words i 0)
pages_by_word shape r words i zero fits =
    ap (λ (b : Bool). cond (b && nat_eq (region_of_word shape i) r) 0 (get_or words i 0)) (sym (le-ltb (page_of_word i) 0 (omega arith)))
pages_by_word shape r words i (suc n) fits = next_page shape r words i n fits (pages_by_word shape r words i n (omega arith))

pub region_cleared_by_word : RegionClearedByWord
region_cleared_by_word shape r words i size h =
    pages_by_word shape r words i (page_total shape) (omega (arith, size))
    ∙ ap (λ (b : Bool). cond (b && nat_eq (region_of_word shape i) r) 0 (get_or words i 0)) (lt-ltb (page_of_word i) (page_total shape) (omega arith))
