-- The reading of operands against their grammar.
use Rattle.std.proofs.Common.{◌≡◌, ℕ, ◌+◌, ◌-◌, ◌*◌, ◌%◌, ◌^◌, ◌≤◌, Bool, true, false, not, ◌&&◌, eqb, List, [], ◌∷◌, ◌++◌, length, take, Option, Some, None, Result, Ok, Err, ℤ, pos, negsuc, neg_ℤ, ◌-ℤ◌, ◌≤ℤ◌, unsigned_abs, refl, sym, ap, subst, ◌∙◌, arith, inl, inr}
use Rattle.std.specs.List.{list_all, position_or_len, before_first}
use Rattle.std.specs.Option.{is_none}
use Rattle.std.proofs.Math.Seq.{take-append_seam, drop-append_seam}
use Rattle.std.proofs.lemmas.List.{length-append, take-append-drop}
use Rattle.std.proofs.lemmas.Int.{ints}
use Rattle.std.proofs.lemmas.Bool.{cases_Bool, cases_lt, eqb-true, eq-eqb, ne_eqb, and_parts, and_from, or_left, both_ways, cond-true, false_from_ne_true, lt-ltb, le-ltb, lt-leb, le-leb}
use Rattle.std.proofs.lemmas.Bool.Decides.{nat_tests}
use Rattle.rv_decode.specs.Formats.{signed_reading}
use Rattle.rv_decode.specs.Table.{IsImmediate}
use Rattle.rv_asm.specs.declared.fault.AsmKind.{AsmKind}
use Rattle.rv_asm.specs.declared.name.Name.{Name}
use Rattle.rv_asm.specs.declared.label.Spot.{Spot}
use Rattle.rv_asm.specs.Names.{name_text, named}
use Rattle.text_in.specs.Numbers.{AreDigits}
use Rattle.rv_asm.specs.Numbers.{IsNumber, number_of, register_of}
use Rattle.text_in.specs.Bytes.{is_name_start, is_name_byte, is_open}
use Rattle.rv_asm.specs.Text.{begins_label, is_label}
use Rattle.text_in.specs.Cuts.{from_first}
use Rattle.rv_asm.specs.Statements.{Spots, ◌>>=◌, or_bad, within, number_in, distance, even, target_in, ends_close, based_of, based_in, displaced_in, fill, fill_in, upper_of}
use Rattle.rv_asm.specs.Grammar.{Label, IsLabel, StandsAt, IsTarget, IsBased, IsDisplaced, IsUpper}
use Rattle.rv_asm.proofs.NumberGrammar.{number_read, number_is, register_read, register_is}
use Rattle.rv_asm.proofs.NameGrammar.{name_read, name_is}
use Rattle.text_in.proofs.Places.{NonePass}

-- ---- steps that may fail

-- a step behind another gives something only behind something
pub bound : {A B : Type 0} (r : Result A AsmKind) (f : A → Result B AsmKind) (y : B) → r >>= f ≡ Ok y → (x : A) × (r ≡ Ok x) × (f x ≡ Ok y)
bound (Ok x) f y h = (x, refl, h)
bound (Err kind) f y h = absurd cc

pub same_ok : {A : Type 0} (x y : A) → ◌≡◌ {A = Result A AsmKind} (Ok x) (Ok y) → x ≡ y
same_ok x y h = cc

pub some_of : {X : Type 0} (o : Option X) (x : X) → or_bad o ≡ Ok x → o ≡ Some x
some_of None x h = absurd cc
some_of (Some y) x h = cc

within_read : (least most n : ℤ) → least ≤ℤ n → n ≤ℤ most → within least most n ≡ Ok n
within_read least most n h k = grind (arith, ints)

within_is : (least most n m : ℤ) → within least most n ≡ Ok m → (n ≡ m) × (least ≤ℤ m) × (m ≤ℤ most)
within_is least most n m h = grind (arith, ints)

-- ---- labels

no_name : (word : List ℕ) (o : Option Name) → named word ≡ o → is_none o ≡ true → (name : Name) → word ≡ name_text name → ⊥
no_name word None e h name w =
    let n = ap named w ∙ name_read name in
    cc
no_name word (Some other) e h name w = cc

none_named : (word : List ℕ) (o : Option Name) → named word ≡ o → ((name : Name) → word ≡ name_text name → ⊥) → is_none o ≡ true
none_named word None e h = refl
none_named word (Some name) e h = absurd (h name (name_is word name e))

-- a label passes the test of labels
pub label_read : (word : List ℕ) → IsLabel word → is_label word ≡ true
label_read word h =
    let bytes = and_from (is_name_byte h.first) (list_all is_name_byte h.more) (or_left (is_name_start h.first) _ h.begins) h.goes_on in
    let form = and_from (begins_label (h.first ∷ h.more)) (list_all is_name_byte (h.first ∷ h.more)) h.begins bytes in
    and_from (begins_label word && list_all is_name_byte word) (is_none (named word)) (rw h.word_is form) (none_named word (named word) refl h.no_name)

-- a word that passes the test of labels is one
pub label_is : (word : List ℕ) → is_label word ≡ true → IsLabel word
label_is [] h = absurd cc
label_is (b ∷ bs) h =
    let p = and_parts (is_name_start b && list_all is_name_byte (b ∷ bs)) (is_none (named (b ∷ bs))) h in
    let q = and_parts (is_name_start b) (list_all is_name_byte (b ∷ bs)) p.0 in
    record {
      first = b;
      more = bs;
      word_is = refl;
      begins = q.0;
      goes_on = (and_parts (is_name_byte b) (list_all is_name_byte bs) q.1).1;
      no_name = no_name (b ∷ bs) (named (b ∷ bs)) refl p.1;
    }

-- ---- targets

-- the spots are those of the labels
abbrev pub Agrees : List Label → Spots → Type 0
Agrees labels spots = (word : List ℕ) → IsLabel word → ((there : ℕ) → StandsAt labels word there → (line : ℕ) × (spots word ≡ Some (record { line = line; words = there }))) × ((spot : Spot) → spots word ≡ Some spot → StandsAt labels word spot.words)

-- a number from least to most is read
pub number_in_read : (least most n : ℤ) (word : List ℕ) → IsNumber word n → least ≤ℤ n → n ≤ℤ most → number_in least most word ≡ Ok n
number_in_read least most n word is h k = rw (number_read word n is) (within_read least most n h k)

-- what is read as a number from least to most is that number
pub number_in_is : (least most n : ℤ) (word : List ℕ) → number_in least most word ≡ Ok n → IsNumber word n × (least ≤ℤ n) × (n ≤ℤ most)
number_in_is least most n word h =
    let b = bound (or_bad (number_of word)) (within least most) n h in
    let w = within_is least most b.0 n b.2 in
    (number_is word n (some_of _ _ b.1 ∙ ap (λ (m : ℤ). Some m) w.0), w.1, w.2)

even_read : (n : ℤ) → unsigned_abs n % 2 ≡ 0 → even n ≡ Ok n
even_read n h = cond-true _ _ _ (eq-eqb _ 0 h)

even_is : (n m : ℤ) → even n ≡ Ok m → n ≡ m
even_is n m h = grind (arith, nat_tests)

-- a target in range is read as its distance
pub target_read : (labels : List Label) (spots : Spots) (half words : ℕ) (operand : List ℕ) (n : ℤ) → Agrees labels spots → IsTarget labels words operand n → IsImmediate half 2 n → target_in spots (pos half) words operand ≡ Ok n
target_read labels spots half words operand n agrees (inl (label, (there, stands, e))) fits =
    let spot = (agrees operand label).0 there stands in
    rw (label_read operand label, spot.1, ← e) (within_read _ _ n fits.least (let b = fits.below in omega (arith, ints)))
target_read labels spots half words operand n agrees (inr (none, is)) fits =
    rw (false_from_ne_true (is_label operand) (λ t. none (label_is operand t)), number_in_read (neg_ℤ (pos half)) (pos half -ℤ pos 1) n operand is fits.least (let b = fits.below in omega (arith, ints))) (even_read n fits.multiple)

distance_is : (half n : ℤ) (words : ℕ) (o : Option Spot) → distance half words o ≡ Ok n → (spot : Spot) × (o ≡ Some spot) × (n ≡ pos (4 * spot.words) -ℤ pos (4 * words))
distance_is half n words None h = absurd cc
distance_is half n words (Some spot) h = (spot, refl, sym (within_is _ _ _ n h).0)

-- an operand that is read as a target is one
pub target_is : (labels : List Label) (spots : Spots) (half : ℤ) (words : ℕ) (operand : List ℕ) (n : ℤ) → Agrees labels spots → target_in spots half words operand ≡ Ok n → IsTarget labels words operand n
target_is labels spots half words operand n agrees h =
    elim (cases_Bool (is_label operand)) [
      | inl t ↦
          let label = label_is operand t in
          let d = distance_is half n words (spots operand) (rw t at h) in
          inl (label, (d.0.words, (agrees operand label).1 d.0 d.1, d.2))
      | inr f ↦
          let b = bound (number_in (neg_ℤ half) (half -ℤ pos 1) operand) even n (rw f at h) in
          let e = even_is b.0 n b.2 in
          inr (λ label. both_ways (is_label operand) f (label_read operand label), rw e at (number_in_is (neg_ℤ half) (half -ℤ pos 1) b.0 operand b.1).0)
    ]

-- ---- base registers

close_read : (front : List ℕ) → ends_close (front ++ 41 ∷ []) ≡ true
close_read [] = refl
close_read (x ∷ []) = refl
close_read (x ∷ y ∷ front) = close_read (y ∷ front)

close_is : (bs : List ℕ) → ends_close bs ≡ true → (front : List ℕ) × (bs ≡ front ++ 41 ∷ [])
close_is [] h = absurd cc
close_is (b ∷ []) h = ([], ap (λ (x : ℕ). x ∷ []) (eqb-true b 41 h))
close_is (b ∷ c ∷ bs) h = let r = close_is (c ∷ bs) h in (b ∷ r.0, ap (λ (xs : List ℕ). b ∷ xs) r.1)

without_last : (front : List ℕ) (b : ℕ) → take (length (front ++ b ∷ []) - 1) (front ++ b ∷ []) ≡ front
without_last front b =
    let e : length (front ++ b ∷ []) - 1 ≡ length front = omega (arith, length-append front (b ∷ [])) in
    rw e (take-append_seam front (b ∷ []))

-- a register between parentheses is read
pub based_read : (operand : List ℕ) (r : ℕ) → IsBased operand r → based_of operand ≡ Some r
based_read operand r (word, is, e) = rw (e, close_read word, without_last word 41) (register_read word r is)

wrapped : (b : ℕ) (bs front : List ℕ) → b ≡ 40 → bs ≡ front ++ 41 ∷ [] → b ∷ bs ≡ 40 ∷ front ++ 41 ∷ []
wrapped b bs front h k = cc

-- an operand that is read as a register between parentheses is one
pub based_is : (operand : List ℕ) (r : ℕ) → based_of operand ≡ Some r → IsBased operand r
based_is [] r h = absurd cc
based_is (b ∷ bs) r h =
    elim (cases_Bool (is_open b && ends_close bs)) [
      | inl t ↦
          let p = and_parts (is_open b) (ends_close bs) t in
          let c = close_is bs p.1 in
          let inner = ap (λ (xs : List ℕ). take (length xs - 1) xs) c.1 ∙ without_last c.0 41 in
          (c.0, register_is c.0 r (sym (ap register_of inner) ∙ (rw t at h)), wrapped b bs c.0 (eqb-true b 40 p.0) c.1)
      | inr f ↦ let k = rw f at h in absurd cc
    ]

-- ---- displaced registers

-- the first byte that passes stands behind a front where none passes
pub place_is : (p : ℕ → Bool) (front rest : List ℕ) (b : ℕ) → NonePass p front → p b ≡ true → position_or_len p (front ++ b ∷ rest) ≡ length front
place_is p [] rest b none h = rw h refl
place_is p (x ∷ front) rest b none h =
    let parts = and_parts (not (p x)) (list_all (λ c. not (p c)) front) none in
    rw (parts.0, place_is p front rest b parts.1 h) (omega arith)

-- what stands before the first byte that passes
pub before_is : (p : ℕ → Bool) (front rest : List ℕ) (b : ℕ) → NonePass p front → p b ≡ true → before_first p (front ++ b ∷ rest) ≡ front
before_is p front rest b none h = rw (place_is p front rest b none h) (take-append_seam front (b ∷ rest))

-- the text from the first byte that passes on
pub behind_is : (p : ℕ → Bool) (front rest : List ℕ) (b : ℕ) → NonePass p front → p b ≡ true → from_first p (front ++ b ∷ rest) ≡ b ∷ rest
behind_is p front rest b none h = rw (place_is p front rest b none h) (drop-append_seam front (b ∷ rest))

digits_closed : (base : ℕ) (bytes : List ℕ) (n : ℕ) → AreDigits base bytes n → NonePass is_open bytes
digits_closed base [] n h = refl
digits_closed base (b ∷ bytes) n (digit, behind, lt, is, are, e) =
    let ne : eqb b 40 ≡ false = ne_eqb b 40 (λ k. absurd (grind arith)) in
    rw ne (digits_closed base bytes behind are)

number_closed : (word : List ℕ) (n : ℤ) → IsNumber word n → NonePass is_open word
number_closed word n (size, inl (e, inl h)) = digits_closed 10 word size h.1
number_closed word n (size, inl (e, inr (digits, w, some, are))) = rw w (digits_closed 16 digits size are)
number_closed word n (size, inr (e, (digits, w, (some, are)))) = rw w (digits_closed 10 digits size are)

-- a number in range with a base register right behind it is read
pub displaced_read : (operand : List ℕ) (n : ℤ) (r : ℕ) → IsDisplaced operand n r → neg_ℤ (pos 2048) ≤ℤ n → n ≤ℤ pos 2047 → displaced_in operand ≡ Ok (n, r)
displaced_read operand n r (number, base, is, (word, named, e), w) h k =
    let whole = w ∙ ap (λ (xs : List ℕ). number ++ xs) e in
    let none = number_closed number n is in
    let front = ap (before_first is_open) whole ∙ before_is is_open number (word ++ 41 ∷ []) 40 none refl in
    let back = ap (from_first is_open) whole ∙ behind_is is_open number (word ++ 41 ∷ []) 40 none refl ∙ sym e in
    rw (ap number_of front ∙ number_read number n is, ap based_of back ∙ based_read base r (word, named, e), within_read (neg_ℤ (pos 2048)) (pos 2047) n h k) refl

-- an operand that is read as a number and a base register is these
pub displaced_is : (operand : List ℕ) (n : ℤ) (r : ℕ) → displaced_in operand ≡ Ok (n, r) → IsDisplaced operand n r
displaced_is operand n r h =
    let b = bound (or_bad (number_of (before_first is_open operand))) _ (n, r) h in
    let c = bound (based_in (from_first is_open operand)) _ (n, r) b.2 in
    let d = bound (within (neg_ℤ (pos 2048)) (pos 2047) b.0) _ (n, r) c.2 in
    let i = (within_is (neg_ℤ (pos 2048)) (pos 2047) b.0 d.0 d.1).0 in
    let s = same_ok (d.0, c.0) (n, r) d.2 in
    (before_first is_open operand, from_first is_open operand, number_is _ n (some_of _ _ b.1 ∙ ap (λ (m : ℤ). Some m) (i ∙ ap (λ (p : ℤ × ℕ). p.0) s)), based_is _ r (some_of _ _ c.1 ∙ ap (λ (p : ℤ × ℕ). Some p.1) s), sym (take-append-drop _ operand))

-- ---- upper immediates

upper_same : (n : ℕ) → signed_reading (2 ^ 31) (4096 * n) ≡ upper_of (pos n)
upper_same n =
    elim (cases_lt n (2 ^ 19)) [
      | inl l ↦ rw (lt-ltb (4096 * n) (2 ^ 31) (omega arith), lt-leb (2 ^ 19) n l) refl
      | inr l ↦ rw (le-ltb (4096 * n) (2 ^ 31) (omega arith), le-leb (2 ^ 19) n l) refl
    ]

-- a number from 0 up is its own size
pub natural : (z : ℤ) → pos 0 ≤ℤ z → (n : ℕ) × (z ≡ pos n)
natural (pos n) h = (n, refl)
natural (negsuc n) h = absurd (omega (arith, ints))

-- an upper immediate is read
pub upper_read : (operand : List ℕ) (imm : ℤ) → IsUpper operand imm → (z : ℤ) × (number_in (pos 0) (pos 1048575) operand ≡ Ok z) × (upper_of z ≡ imm)
upper_read operand imm (n, is, lt, e) =
    (pos n, number_in_read (pos 0) (pos 1048575) (pos n) operand is (omega (arith, ints)) (omega (arith, ints)), sym (e ∙ upper_same n))

-- an operand that is read as twenty upper bits is an upper immediate
pub upper_is : (operand : List ℕ) (z : ℤ) → number_in (pos 0) (pos 1048575) operand ≡ Ok z → IsUpper operand (upper_of z)
upper_is operand z h =
    let w = number_in_is (pos 0) (pos 1048575) z operand h in
    let n = natural z w.1 in
    let e = n.1 in
    let most : z ≤ℤ pos 1048575 = w.2 in
    (n.0, subst (λ (x : ℤ). IsNumber operand x) e w.0, omega (arith, ints), ap upper_of e ∙ sym (upper_same n.0))

-- ---- places to fill up to

fill_read : (limit words count : ℕ) → words + count ≤ limit → fill limit words (pos (4 * (words + count))) ≡ Ok count
fill_read limit words count h = grind (arith, nat_tests)

fill_by : (limit words m count : ℕ) → fill limit words (pos m) ≡ Ok count → m ≡ 4 * (words + count)
fill_by limit words m count h = grind (arith, nat_tests)

fill_is : (limit words count : ℕ) (n : ℤ) → fill limit words n ≡ Ok count → n ≡ pos (4 * (words + count))
fill_is limit words count (pos m) h = ap (λ (k : ℕ). pos k) (fill_by limit words m count h)
fill_is limit words count (negsuc m) h = absurd cc

-- a place to fill up to is read, where the words up to it fit
pub fill_in_read : (limit words count : ℕ) (operand : List ℕ) → IsNumber operand (pos (4 * (words + count))) → words + count ≤ limit → fill_in limit words operand ≡ Ok count
fill_in_read limit words count operand is h = rw (number_read operand _ is) (fill_read limit words count h)

-- an operand that is read as a place to fill up to is one
pub fill_in_is : (limit words count : ℕ) (operand : List ℕ) → fill_in limit words operand ≡ Ok count → IsNumber operand (pos (4 * (words + count)))
fill_in_is limit words count operand h =
    let b = bound (or_bad (number_of operand)) (fill limit words) count h in
    number_is operand _ (some_of _ _ b.1 ∙ ap (λ (m : ℤ). Some m) (fill_is limit words count b.0 b.2))
