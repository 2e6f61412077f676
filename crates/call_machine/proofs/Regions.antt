-- The words of a region, page after page, and how many there are.
use Rattle.std.proofs.Common.{◌≡◌, inl, inr, ◌∙◌, ◌+◌, ◌-◌, ◌*◌, ◌/◌, ◌%◌, ◌^◌, ◌<◌, ◌≤◌, ℕ, zero, suc, Bool, true, false, cond, eqb, List, [], ◌∷◌, length, filter, ap, sym, refl, arith, max}
use Rattle.std.specs.Prelude.{nat_lt}
use Rattle.std.specs.List.{range_with_len}
use Rattle.std.proofs.Math.Nat.{add-mul, mul_assoc, mul_comm, mod-add-div', zero-add}
use Rattle.std.proofs.lemmas.Nat.{div-mul-add, mod-mul-add}
use Rattle.std.proofs.lemmas.Bool.{ne_eqb, lt-ltb, le-ltb, cases_lt}
use Rattle.std.proofs.lemmas.Bool.Decides.{nat_tests}
use Rattle.mon_types.specs.Shape.{Shape, is_shape, page_total, region_of_page}
use Rattle.dram_map.specs.Addresses.{word_total, region_of_word}
use Rattle.call_machine.specs.Rest.{region_words_from}
use Rattle.call_machine.proofs.Steps.{words_skip, words_end}

module _ (m : Shape) (r from : ℕ) where
  -- no word of this page is one of the region
  pub page_skip : (page : ℕ) → from < 512 * (page + 1) → page < page_total m → (region_of_page m page ≡ r → ⊥)
      → region_words_from m r (max from (512 * page)) ≡ region_words_from m r (max from (512 * (page + 1)))
  page_skip page below there ne =
      let a : ℕ = max from (512 * page) in
      let low : 512 * page ≤ a = omega arith in
      let high : a ≤ 512 * (page + 1) = omega (arith, below) in
      let n : ℕ = 512 * (page + 1) - a in
      let end : a + n ≡ max from (512 * (page + 1)) = omega (arith, below, high) in
      words_skip m r n a (omega (arith, there, high))
      (λ k at less e.
      let is : k / 512 ≡ page = omega (arith, low, high, at, less) in
      ne (ap (region_of_page m) (sym is) ∙ e))
      ∙ ap (region_words_from m r) end

  pub page_hit : (page : ℕ) → from < 512 * (page + 1) → region_of_page m page ≡ r → region_of_word m (max from (512 * page)) ≡ r
  page_hit page below e =
      let is : max from (512 * page) / 512 ≡ page = omega (arith, below) in ap (region_of_page m) is ∙ e

  pub pages_end : (page : ℕ) → page_total m ≤ page → region_words_from m r (max from (512 * page)) ≡ []
  pages_end page h = words_end m r (max from (512 * page)) (omega (arith, h))

-- ---- how many

module _ (m : Shape) (r : ℕ) where
  count : ℕ → ℕ → ℕ
  count i n = length (filter (λ j. eqb (region_of_word m j) r) (range_with_len i n))

  -- one more or not
  if_long : (b : Bool) (x : ℕ) (xs : List ℕ) → length (cond b (x ∷ xs) xs) ≡ cond b 1 0 + length xs
  if_long true x xs = omega arith
  if_long false x xs = omega arith

  abbrev one_if : Bool → ℕ
  one_if b = cond b 1 0

  few_of : (b : Bool) → cond b 1 0 ≤ 1
  few_of true = omega arith
  few_of false = omega arith

  count_one : (i n : ℕ) → count i (suc n) ≡ cond (eqb (region_of_word m i) r) 1 0 + count (i + 1) n
  unfolding count
  count_one i n = if_long (eqb (region_of_word m i) r) i (filter (λ j. eqb (region_of_word m j) r) (range_with_len (i + 1) n))

  count_none : (i : ℕ) → count i 0 ≡ 0
  unfolding count
  count_none i = refl

  count_add : (a b i : ℕ) → count i (a + b) ≡ count i a + count (i + a) b
  count_add zero b i = let e : 0 + b ≡ b = omega arith in let f : i + 0 ≡ i = omega arith in omega (arith, ap (count i) e, count_none i, ap (λ k. count k b) f)
  count_add (suc a) b i =
      let e : suc a + b ≡ suc (a + b) = omega arith in
      let f : i + 1 + a ≡ i + suc a = omega arith in
      omega (arith, ap (count i) e, count_one i (a + b), count_one i a, count_add a b (i + 1), ap (λ k. count k b) f)

  count_le : (n i : ℕ) → count i n ≤ n
  count_le zero i = omega (arith, count_none i)
  count_le (suc n) i = omega (arith, count_one i n, few_of (eqb (region_of_word m i) r), count_le n (i + 1))

  count_zero : (n i : ℕ) → ((k : ℕ) → i ≤ k → k < i + n → region_of_word m k ≡ r → ⊥) → count i n ≡ 0
  count_zero zero i h = count_none i
  count_zero (suc n) i h =
      omega (arith, count_one i n, ap (λ b. one_if b) (ne_eqb (region_of_word m i) r (h i (omega arith) (omega arith))), count_zero n (i + 1) (λ k a b. h k (omega (arith, a)) (omega (arith, b))))

  -- so many pages stand side by side in one region
  abbrev side : ℕ
  side = 2 ^ m.shift

  block_zero : (j : ℕ) → (j % m.regions ≡ r → ⊥) → count (512 * (j * side)) (512 * side) ≡ 0
  block_zero j ne =
      count_zero (512 * side) (512 * (j * side)) (λ k low high e.
      let page : ℕ = k / 512 in
      let from : j * side ≤ page = omega (arith, low) in
      let to : page < j * side + side = omega (arith, high) in
      let is : j * side + (page - j * side) ≡ page = omega (arith, from) in
      let row : page / side ≡ j = ap (λ n. n / side) (sym is) ∙ div-mul-add j side (page - j * side) (omega (arith, from, to)) in
      ne (ap (λ n. n % m.regions) (sym row) ∙ e))

  one_more : (q t : ℕ) → t < m.regions → (x : ℕ) → x ≤ cond (nat_lt r t) (512 * side) 0 → x + count (512 * ((q * m.regions + t) * side)) (512 * side) ≤ cond (nat_lt r (suc t)) (512 * side) 0
  one_more q t h x before =
      let residue : (q * m.regions + t) % m.regions ≡ t = mod-mul-add q m.regions t h in
      let size : ℕ = 512 * side in
      elim (cases_lt r t) [
        | inl below ↦ omega (arith, before, ap (λ b. cond b size 0) (lt-ltb r t below), ap (λ b. cond b size 0) (lt-ltb r (suc t) (omega (arith, below))), block_zero (q * m.regions + t) (λ e. absurd (omega (arith, residue, e, below))))
        | inr above ↦ elim (cases_lt r (suc t)) [
          | inl here ↦ omega (arith, before, ap (λ b. cond b size 0) (le-ltb r t above), ap (λ b. cond b size 0) (lt-ltb r (suc t) here), count_le size (512 * ((q * m.regions + t) * side)))
          | inr far ↦ omega (arith, before, ap (λ b. cond b size 0) (le-ltb r t above), ap (λ b. cond b size 0) (le-ltb r (suc t) far), block_zero (q * m.regions + t) (λ e. absurd (omega (arith, residue, e, far))))
        ]
      ]

  period : (q t : ℕ) → t ≤ m.regions → count (512 * (q * m.regions * side)) (512 * (t * side)) ≤ cond (nat_lt r t) (512 * side) 0
  period q zero h = let e : 512 * (0 * side) ≡ 0 = omega arith in omega (arith, ap (count (512 * (q * m.regions * side))) e, count_none (512 * (q * m.regions * side)))
  period q (suc t) h =
      let start : ℕ = 512 * (q * m.regions * side) in
      let size : 512 * (suc t * side) ≡ 512 * (t * side) + 512 * side = omega arith in
      let next : start + 512 * (t * side) ≡ 512 * ((q * m.regions + t) * side) = omega (arith, add-mul (q * m.regions) t side) in
      let sum : count start (512 * (suc t * side)) ≡ count start (512 * (t * side)) + count (512 * ((q * m.regions + t) * side)) (512 * side) =
      ap (count start) size ∙ count_add (512 * (t * side)) (512 * side) start ∙ ap (λ k. count start (512 * (t * side)) + count k (512 * side)) next in
      omega (arith, sum, one_more q t (omega (arith, h)) (count start (512 * (t * side))) (period q t (omega (arith, h))))

  few_if : (b : Bool) (n : ℕ) → cond b n 0 ≤ n
  few_if true n = omega arith
  few_if false n = omega arith

  total : (q : ℕ) → count 0 (512 * (q * m.regions * side)) ≤ 512 * (q * side)
  total zero = let e : 512 * (0 * m.regions * side) ≡ 0 = omega arith in omega (arith, ap (count 0) e, count_none 0)
  total (suc q) =
      let grows : suc q * m.regions ≡ q * m.regions + m.regions = omega arith in
      let size : 512 * (suc q * m.regions * side) ≡ 512 * (q * m.regions * side) + 512 * (m.regions * side) =
      omega (arith, ap (λ n. n * side) grows, add-mul (q * m.regions) m.regions side) in
      let from : 0 + 512 * (q * m.regions * side) ≡ 512 * (q * m.regions * side) = omega arith in
      let sum = ap (count 0) size ∙ count_add (512 * (q * m.regions * side)) (512 * (m.regions * side)) 0 in
      let last = period q m.regions (omega arith) in
      let more : 512 * (suc q * side) ≡ 512 * (q * side) + 512 * side = omega arith in
      omega (arith, sum, total q, ap (λ k. count k (512 * (m.regions * side))) from, last, few_if (nat_lt r m.regions) (512 * side), more)

  pub region_many : is_shape m ≡ true → length (region_words_from m r 0) ≤ 512 * m.pages
  unfolding count
  region_many valid =
      let whole : m.pages % side ≡ 0 = grind (arith, nat_tests) in
      let q : ℕ = m.pages / side in
      let pages : m.pages ≡ q * side =
      sym (mod-add-div' m.pages side) ∙ ap (λ n. n + q * side) whole ∙ zero-add (q * side) in
      let product : m.regions * m.pages ≡ q * m.regions * side =
      ap (λ n. m.regions * n) pages ∙ sym (mul_assoc m.regions q side) ∙ ap (λ n. n * side) (mul_comm m.regions q) in
      let all : word_total m - 0 ≡ 512 * (q * m.regions * side) = omega (arith, ap (λ n. 512 * n) product) in
      omega (arith, ap (count 0) all, total q, pages)
