-- The first line of a trace and the lines behind it are read as what they are in the grammar, and as nothing else.
use Rattle.std.proofs.Common.{◌≡◌, ℕ, ◌-◌, ◌^◌, ◌<◌, ◌≤◌, Bool, true, cond, List, [], ◌∷◌, Option, Some, None, Ok, refl, sym, ap, subst, ◌∙◌, arith, inl, inr, ◌&&◌}
use Rattle.std.specs.Prelude.{codes, nat_le}
use Rattle.std.specs.Option.{option_and_then, option_map, ok_or}
use Rattle.std.specs.Str.{bytes_eq}
use Rattle.std.proofs.Math.Nat.{le_trans, mul-le-mul_left, mul-le-mul_right}
use Rattle.std.proofs.lemmas.Bool.{cases_Bool, and_parts, leb-true, le-leb, ltb-true}
use Rattle.std.proofs.lemmas.Option.{cond_some}
use Rattle.std.proofs.lemmas.Slice.Eq.{bytes_eq-Decides}
use Rattle.mon_types.specs.Shape.{Shape, shape_of, is_core_count, is_region_count, is_page_count, is_shift, is_shape, page_total}
use Rattle.dram_map.specs.Addresses.{is_in_dram, dram_start, dram_end}
use Rattle.text_in.specs.Cuts.{before_comment}
use Rattle.text_in.specs.Words.{words_of}
use Rattle.text_in.specs.Numbers.{IsUnsigned, unsigned_of, up_to}
use Rattle.text_in.proofs.Lines.{front_is, HasComment, has_comment}
use Rattle.text_in.proofs.Words.{words_are, words_found}
use Rattle.text_in.proofs.Numbers.{unsigned_read, unsigned_is, up_to_is, up_to_read}
use Rattle.llc.specs.declared.fault.TraceFault.TheVariants as faults
use Rattle.llc.specs.declared.line.Head.{Head}
use Rattle.llc.specs.Grammar.{HasWords, AreNumbers, IsHead, IsAddress, IsAccess}
use Rattle.llc.specs.Reading.{words_in, first_number, head_with, at_end, with_ways, with_shift, with_pages, with_regions, head_numbers, head_of, first_of, in_dram, access_with, access_of}

-- ---- limits

least_parts : (a b c d : Bool) → a && b && c && d ≡ true → (b ≡ true) × (c ≡ true) × (d ≡ true)
least_parts a b c d all =
    let abc = and_parts (a && b && c) d all in
    let ab = and_parts (a && b) c abc.0 in
    let a = and_parts a b ab.0 in
    (a.1, ab.1, abc.1)

regions_few : (n : ℕ) → is_region_count n ≡ true → n ≤ 64
regions_few n is = grind arith

pages_few : (n : ℕ) → is_page_count n ≡ true → n ≤ 16
pages_few n is = grind arith

-- the numbers of a machine are small
record IsSmall (shape : Shape) : Type 0 where
  regions : shape.regions ≤ 64
  pages : shape.pages ≤ 16
  shift : shape.shift ≤ 4

is_small : (shape : Shape) → is_shape shape ≡ true → IsSmall shape
is_small shape is =
    let parts = least_parts (is_core_count shape.cores) (is_region_count shape.regions) (is_page_count shape.pages) (is_shift shape.pages shape.shift) is in
    let low = and_parts (nat_le shape.shift 4) _ parts.2 in
    record { regions = regions_few shape.regions parts.0; pages = pages_few shape.pages parts.1; shift = leb-true shape.shift 4 low.0 }

few_pages : (shape : Shape) → is_shape shape ≡ true → page_total shape ≤ 1024
few_pages shape is =
    let small = is_small shape is in
    le_trans (mul-le-mul_right shape.pages small.regions) (mul-le-mul_left 64 small.pages)

-- addresses in DRAM are numbers of 64 bits
dram_small : (shape : Shape) (address : ℕ) → is_shape shape ≡ true → is_in_dram shape address ≡ true → address ≤ 2 ^ 64 - 1
dram_small shape address is there =
    let lt : address < dram_end shape = ltb-true address (dram_end shape) (and_parts (nat_le dram_start address) _ there).1 in
    omega (arith, lt, few_pages shape is)

-- ---- words

pub words_read : (text : List ℕ) (words : List (List ℕ)) → HasWords text words → words_in text ≡ words
words_read text words h =
    ap words_in h.text_is ∙ ap words_of (front_is h.front h.comment h.plain h.is_comment) ∙ words_are h.front words h.are_words

pub words_there : (text : List ℕ) → HasWords text (words_in text)
words_there text =
    let c : HasComment text = has_comment text in
    record {
      front = before_comment text;
      comment = c.comment;
      text_is = c.text_is;
      plain = c.no_sign;
      is_comment = c.is_comment;
      are_words = words_found (before_comment text) (words_in text) refl;
    }

-- ---- the head

number_read : (word : List ℕ) (words : List (List ℕ)) (n : ℕ) → IsUnsigned word n → n ≤ 255 → first_number (word ∷ words) ≡ Some (n, words)
number_read word words n is le = ap (option_map (λ (x : ℕ). (x, words))) (up_to_read 255 (unsigned_of word) n (unsigned_read word n is) le)

numbers_read : (ws : List (List ℕ)) (r p s w : ℕ) → AreNumbers ws (r ∷ p ∷ s ∷ w ∷ []) → r ≤ 255 → p ≤ 255 → s ≤ 255 → w ≤ 255
    → head_numbers ws ≡ head_with r p s w
unfolding head_numbers
numbers_read [] r p s w h kr kp ks kw = absurd h
numbers_read (a ∷ []) r p s w h kr kp ks kw = absurd h.1
numbers_read (a ∷ b ∷ []) r p s w h kr kp ks kw = absurd h.1.1
numbers_read (a ∷ b ∷ c ∷ []) r p s w h kr kp ks kw = absurd h.1.1.1
numbers_read (a ∷ b ∷ c ∷ d ∷ []) r p s w h kr kp ks kw =
    rw (number_read a (b ∷ c ∷ d ∷ []) r h.0 kr, number_read b (c ∷ d ∷ []) p h.1.0 kp, number_read c (d ∷ []) s h.1.1.0 ks, number_read d [] w h.1.1.1.0 kw) refl
numbers_read (a ∷ b ∷ c ∷ d ∷ e ∷ ws) r p s w h kr kp ks kw = absurd h.1.1.1.1

-- the head that a machine and its ways are
abbrev pub head_is : Shape → ℕ → Head
head_is shape ways = record { config = shape; ways = ways }

head_made : (shape : Shape) (ways : ℕ) → shape.cores ≡ 1 → is_shape shape ≡ true → 1 ≤ ways → ways ≤ 16
    → head_with shape.regions shape.pages shape.shift ways ≡ Some (head_is shape ways)
head_made shape ways one is some few =
    let same : shape_of 1 shape.regions shape.pages shape.shift ≡ shape = ap (λ (n : ℕ). shape_of n shape.regions shape.pages shape.shift) (sym one) in
    rw (ap is_shape same ∙ is, le-leb 1 ways some, le-leb ways 16 few) (ap (λ (x : Shape). Some (head_is x ways)) same)

pub head_read : (words : List (List ℕ)) (shape : Shape) (ways : ℕ) → IsHead words shape ways → (n : ℕ) → first_of n words ≡ Ok (Some (head_is shape ways))
head_read words shape ways h n =
    let small = is_small shape h.within in
    let numbers : head_numbers h.numbers ≡ Some (head_is shape ways) =
    numbers_read h.numbers shape.regions shape.pages shape.shift ways h.are_numbers
    (omega (arith, small.regions)) (omega (arith, small.pages)) (omega (arith, small.shift)) (omega (arith, h.few))
    ∙ head_made shape ways h.one_core h.within h.some h.few in
    ap (first_of n) h.words_are ∙ ap (λ (x : Option Head). ok_or (option_map Some x) (faults.BadLine n)) numbers

-- ---- what is read is the head

-- the words are a number of 8 bits, and then these
record IsNumberFirst (words : List (List ℕ)) (n : ℕ) (rest : List (List ℕ)) : Type 0 where
  word : List ℕ
  words_are : words ≡ word ∷ rest
  is_number : IsUnsigned word n

some_mapped : {A B : Type 0} (f : A → B) (o : Option A) (y : B) → option_map f o ≡ Some y → (x : A) × (o ≡ Some x) × (f x ≡ y)
some_mapped f None y h = absurd cc
some_mapped f (Some x) y h = (x, refl, cc)

some_then : {A B : Type 0} (f : A → Option B) (o : Option A) (y : B) → option_and_then f o ≡ Some y → (x : A) × (o ≡ Some x) × (f x ≡ Some y)
some_then f None y h = absurd cc
some_then f (Some x) y h = (x, refl, h)

number_found : (words : List (List ℕ)) (found : ℕ × List (List ℕ)) → first_number words ≡ Some found → IsNumberFirst words found.0 found.1
number_found [] found h = absurd cc
number_found (word ∷ words) found h =
    let m = some_mapped (λ (n : ℕ). (n, words)) (up_to 255 (unsigned_of word)) found h in
    let u = up_to_is 255 (unsigned_of word) m.0 m.1 in
    let first : IsUnsigned word found.0 = subst (IsUnsigned word) (ap (λ (p : ℕ × List (List ℕ)). p.0) m.2) (unsigned_is word m.0 u.0) in
    record { word = word; words_are = ap (λ (x : List (List ℕ)). word ∷ x) (ap (λ (p : ℕ × List (List ℕ)). p.1) m.2); is_number = first }

end_reached : {A : Type 0} (value : Option A) (words : List (List ℕ)) (y : A) → at_end value words ≡ Some y → (words ≡ []) × (value ≡ Some y)
end_reached value [] y h = (refl, h)
end_reached value (word ∷ words) y h = absurd cc

-- a head is made of numbers within their limits
record IsMade (r p s w : ℕ) (head : Head) : Type 0 where
  within : is_shape (shape_of 1 r p s) ≡ true
  some : 1 ≤ w
  few : w ≤ 16
  same : head_is (shape_of 1 r p s) w ≡ head

head_parts : (r p s w : ℕ) (head : Head) → head_with r p s w ≡ Some head → IsMade r p s w head
head_parts r p s w head h =
    let c = cond_some (is_shape (shape_of 1 r p s) && nat_le 1 w && nat_le w 16) (head_is (shape_of 1 r p s) w) head h in
    let outer = and_parts (is_shape (shape_of 1 r p s) && nat_le 1 w) (nat_le w 16) c.0 in
    let inner = and_parts (is_shape (shape_of 1 r p s)) (nat_le 1 w) outer.0 in
    record { within = inner.0; some = leb-true 1 w inner.1; few = leb-true w 16 outer.1; same = c.1 }

head_of_numbers : (words : List (List ℕ)) (r p s w : ℕ) (head : Head) → AreNumbers words (r ∷ p ∷ s ∷ w ∷ []) → IsMade r p s w head
    → IsHead (codes "cache" ∷ words) head.config head.ways
head_of_numbers words r p s w head numbers made =
    subst (λ (x : Head). IsHead (codes "cache" ∷ words) x.config x.ways) made.same
    (record { numbers = words; words_are = refl; are_numbers = numbers; one_core = refl; within = made.within; some = made.some; few = made.few })

numbers_found : (words : List (List ℕ)) (head : Head) → head_numbers words ≡ Some head → IsHead (codes "cache" ∷ words) head.config head.ways
unfolding head_numbers
numbers_found words head h =
    let r = some_then with_regions (first_number words) head h in
    let p = some_then (with_pages r.0.0) (first_number r.0.1) head r.2 in
    let s = some_then (with_shift r.0.0 p.0.0) (first_number p.0.1) head p.2 in
    let w = some_then (with_ways r.0.0 p.0.0 s.0.0) (first_number s.0.1) head s.2 in
    let end = end_reached (head_with r.0.0 p.0.0 s.0.0 w.0.0) w.0.1 head w.2 in
    let one = number_found words r.0 r.1 in
    let two = number_found r.0.1 p.0 p.1 in
    let three = number_found p.0.1 s.0 s.1 in
    let four = number_found s.0.1 w.0 w.1 in
    let all : words ≡ one.word ∷ two.word ∷ three.word ∷ four.word ∷ [] =
    one.words_are
    ∙ ap (λ (x : List (List ℕ)). one.word ∷ x) (two.words_are
    ∙ ap (λ (x : List (List ℕ)). two.word ∷ x) (three.words_are
    ∙ ap (λ (x : List (List ℕ)). three.word ∷ x) (four.words_are ∙ ap (λ (x : List (List ℕ)). four.word ∷ x) end.0))) in
    let numbers : AreNumbers words (r.0.0 ∷ p.0.0 ∷ s.0.0 ∷ w.0.0 ∷ []) =
    subst (λ (x : List (List ℕ)). AreNumbers x (r.0.0 ∷ p.0.0 ∷ s.0.0 ∷ w.0.0 ∷ [])) (sym all)
    (one.is_number, (two.is_number, (three.is_number, (four.is_number, tt)))) in
    head_of_numbers words r.0.0 p.0.0 s.0.0 w.0.0 head numbers (head_parts r.0.0 p.0.0 s.0.0 w.0.0 head end.1)

head_found : (words : List (List ℕ)) (head : Head) → head_of words ≡ Some head → IsHead words head.config head.ways
head_found [] head h = absurd cc
head_found (word ∷ words) head h =
    elim (cases_Bool (bytes_eq word (codes "cache"))) [
      | inl t ↦
          let is : word ≡ codes "cache" = (bytes_eq-Decides word (codes "cache")).0 t in
          subst (λ (x : List ℕ). IsHead (x ∷ words) head.config head.ways) (sym is) (numbers_found words head (rw t at h))
      | inr f ↦ let none : None ≡ Some head = rw f at h in absurd cc
    ]

some_read : {A : Type 0} (o : Option A) (n : ℕ) (y : Option A) → ok_or (option_map Some o) (faults.BadLine n) ≡ Ok y → (x : A) × (o ≡ Some x) × (y ≡ Some x)
some_read None n y h = absurd cc
some_read (Some x) n y h = (x, refl, cc)

-- the first line that has words is the head, where it is read
pub first_found : (n : ℕ) (words : List (List ℕ)) (head : Head) → first_of n words ≡ Ok (Some head) → IsHead words head.config head.ways
first_found n [] head h = absurd cc
first_found n (word ∷ words) head h =
    let r = some_read (head_of (word ∷ words)) n (Some head) h in
    head_found (word ∷ words) head (r.1 ∙ sym r.2)

-- and a line without a head is empty
pub first_empty : (n : ℕ) (words : List (List ℕ)) → first_of n words ≡ Ok None → words ≡ []
first_empty n [] h = refl
first_empty n (word ∷ words) h =
    let r = some_read (head_of (word ∷ words)) n None h in absurd cc

-- ---- accesses

pub access_read : (shape : Shape) (n : ℕ) (words : List (List ℕ)) (access : Option ℕ) → is_shape shape ≡ true → IsAccess shape words access
    → access_of shape n words ≡ Ok access
access_read shape n words None is h = ap (access_of shape n) h
access_read shape n words (Some address) is h =
    let number : up_to (2 ^ 64 - 1) (unsigned_of h.word) ≡ Some address =
    up_to_read (2 ^ 64 - 1) (unsigned_of h.word) address (unsigned_read h.word address h.is_number) (dram_small shape address is h.in_dram) in
    let there : in_dram shape (Some address) ≡ Some address = rw h.in_dram refl in
    ap (access_of shape n) h.words_are
    ∙ ap (λ (x : Option ℕ). ok_or (option_map Some (in_dram shape x)) (faults.BadLine n)) number
    ∙ ap (λ (x : Option ℕ). ok_or (option_map Some x) (faults.BadLine n)) there

access_is : (shape : Shape) (word : List ℕ) (words : List (List ℕ)) (address : ℕ) → access_with shape word words ≡ Some address → IsAddress shape (word ∷ words) address
access_is shape word words address h =
    let end = end_reached (in_dram shape (up_to (2 ^ 64 - 1) (unsigned_of word))) words address h in
    let a = some_then (λ (x : ℕ). cond (is_in_dram shape x) (Some x) None) (up_to (2 ^ 64 - 1) (unsigned_of word)) address end.1 in
    let c = cond_some (is_in_dram shape a.0) a.0 address a.2 in
    let u = up_to_is (2 ^ 64 - 1) (unsigned_of word) a.0 a.1 in
    record {
      word = word;
      words_are = ap (λ (x : List (List ℕ)). word ∷ x) end.0;
      is_number = subst (IsUnsigned word) c.1 (unsigned_is word a.0 u.0);
      in_dram = ap (is_in_dram shape) (sym c.1) ∙ c.0;
    }

pub access_found : (shape : Shape) (n : ℕ) (words : List (List ℕ)) (access : Option ℕ) → access_of shape n words ≡ Ok access → IsAccess shape words access
access_found shape n [] None h = refl
access_found shape n [] (Some address) h = absurd cc
access_found shape n (word ∷ words) None h =
    let r = some_read (access_with shape word words) n None h in absurd cc
access_found shape n (word ∷ words) (Some address) h =
    let r = some_read (access_with shape word words) n (Some address) h in
    access_is shape word words address (r.1 ∙ sym r.2)
