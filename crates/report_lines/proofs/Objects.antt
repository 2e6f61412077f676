-- Objects and sets of them: what is printed is read, and what is read fits.
use Rattle.std.proofs.Common.{◌≡◌, ℕ, zero, suc, ◌+◌, ◌*◌, ◌/◌, ◌%◌, ◌<◌, ◌≤◌, ◌^◌, Bool, true, false, cond, ltb, List, [], ◌∷◌, ◌++◌, Option, Some, None, refl, sym, ap, subst, ◌∙◌, arith, inl, inr}
use Rattle.std.specs.Prelude.{nat_lt, if◌then◌else◌}
use Rattle.std.specs.Fmt.{decimal}
use Rattle.std.proofs.lemmas.Bool.{cases_Bool, cases_lt, ltb-true, lt-ltb, eqb-true, eqb-false}
use Rattle.std.proofs.lemmas.Nat.{mod-pow-add, pow_pos}
use Rattle.std.proofs.Math.Pow.{pow_mono}
use Rattle.std.proofs.Math.Nat.{pow-succ', div-eq_of_lt, mod-eq_of_lt}
use Rattle.mon_types.specs.Shape.{Shape, is_shape}
use Rattle.mon_types.specs.LimitLaws.{few_cores, few_regions}
use Rattle.mon_types.specs.Bits.{has_bit, member, members}
use Rattle.mon_types.specs.declared.object.ObjectId.{ObjectId}
use Rattle.mon_types.specs.declared.object.ObjectId.TheVariants as objects
use Rattle.mon_types.specs.declared.object.Tried.{Tried}
use Rattle.mon_model.specs.Tries.{tried_set}
use Rattle.lock_plan.specs.Objects.{HasPlace}
use Rattle.text_in.specs.Numbers.{canonical_of, up_to}
use Rattle.text_in.proofs.Numbers.{up_to_read, canonical_read}
use Rattle.report_lines.specs.Fits.{is_of_machine, FitsTried}
use Rattle.report_lines.specs.Reading.{◌>>=◌, lettered_object, of_machine, object_of, has_place, with_object, with_word, tried_from}
use Rattle.report_lines.proofs.Printed.{object_word, member_words, tried_words}

-- ---- places

-- an object of the machine that comes behind all of its kind has a place
pub place_there : (shape : Shape) (tried : Tried) (object : ObjectId) → is_shape shape ≡ true → is_of_machine shape object ≡ true → has_place tried object ≡ true → HasPlace tried object
place_there shape tried (objects.Enclave e) valid there place = (ltb-true e 8 there, ltb-true tried.enclaves (2 ^ e) place)
place_there shape tried (objects.Thread t) valid there place = (ltb-true t 16 there, ltb-true tried.threads (2 ^ t) place)
place_there shape tried (objects.Region r) valid there place = (omega (arith, ltb-true r shape.regions there, few_regions shape valid), ltb-true tried.regions (2 ^ r) place)
place_there shape tried (objects.Cell c) valid there place = (omega (arith, ltb-true c shape.cores there, few_cores shape valid), ltb-true tried.cells (2 ^ c) place)

-- ---- what is printed is read

number_of : (n : ℕ) → n < 256 → up_to 255 (canonical_of (decimal n)) ≡ Some n
number_of n lt = up_to_read 255 (canonical_of (decimal n)) n (canonical_read n (omega arith)) (omega arith)

kept : (shape : Shape) (object : ObjectId) → is_of_machine shape object ≡ true → of_machine shape object ≡ Some object
kept shape object h = ap (λ (b : Bool). cond b (Some object) None) h

pub object_read : (shape : Shape) (object : ObjectId) → shape.regions ≤ 64 → shape.cores ≤ 16 → is_of_machine shape object ≡ true → object_of shape (object_word object) ≡ Some object
object_read shape (objects.Enclave e) few_r few_c h = rw (number_of e (omega (arith, ltb-true e 8 h))) (kept shape (objects.Enclave e) h)
object_read shape (objects.Thread t) few_r few_c h = rw (number_of t (omega (arith, ltb-true t 16 h))) (kept shape (objects.Thread t) h)
object_read shape (objects.Region r) few_r few_c h = rw (number_of r (omega (arith, ltb-true r shape.regions h))) (kept shape (objects.Region r) h)
object_read shape (objects.Cell c) few_r few_c h = rw (number_of c (omega (arith, ltb-true c shape.cores h))) (kept shape (objects.Cell c) h)

-- words behind words
both_behind : (shape : Shape) (o : Option Tried) (xs ys : List (List ℕ)) → ((more : Tried) → tried_from shape more (xs ++ ys) ≡ (tried_from shape more xs >>= λ last. tried_from shape last ys))
    → (o >>= λ more. tried_from shape more (xs ++ ys)) ≡ ((o >>= λ more. tried_from shape more xs) >>= λ last. tried_from shape last ys)
both_behind shape None xs ys h = refl
both_behind shape (Some more) xs ys h = h more

tried_both : (shape : Shape) (tried : Tried) (xs ys : List (List ℕ)) → tried_from shape tried (xs ++ ys) ≡ (tried_from shape tried xs >>= λ more. tried_from shape more ys)
unfolding tried_from
tried_both shape tried [] ys = refl
tried_both shape tried (word ∷ xs) ys = both_behind shape (with_word shape tried word) xs ys (λ more. tried_both shape more xs ys)

some_kept : (o : Option Tried) → (o >>= λ more. Some more) ≡ o
some_kept None = refl
some_kept (Some more) = refl

tried_one : (shape : Shape) (tried : Tried) (word : List ℕ) → tried_from shape tried (word ∷ []) ≡ with_word shape tried word
unfolding tried_from
tried_one shape tried word = some_kept (with_word shape tried word)

tried_none : (shape : Shape) (tried : Tried) → tried_from shape tried [] ≡ Some tried
unfolding tried_from
tried_none shape tried = refl

none_above : (x p : ℕ) → x < p → x / p ≡ 0
none_above x p less = div-eq_of_lt less

below_mod : (x p : ℕ) → x < p → x % p ≡ x
below_mod x p less = mod-eq_of_lt less

-- a member of a set is below what the set is below
member_below : (w i n : ℕ) → has_bit w i ≡ true → w < 2 ^ n → i < n
member_below w i n h lt =
    elim (cases_lt i n) [
      | inl below ↦ below
      | inr le ↦
          let up : 2 ^ n ≤ 2 ^ i = pow_mono le in
          let none : w / 2 ^ i ≡ 0 = none_above w (2 ^ i) (omega arith) in
          let bit : w / 2 ^ i % 2 ≡ 1 = eqb-true (w / 2 ^ i % 2) 1 h in
          absurd (omega (arith, none, bit))
    ]

cut_more : (w n : ℕ) → w % 2 ^ suc n ≡ (w / 2 ^ n % 2) * 2 ^ n + w % 2 ^ n
cut_more w n = ap (λ (k : ℕ). w % 2 ^ k) {x = suc n} {y = 1 + n} (omega arith) ∙ mod-pow-add w 1 n

-- one kind of objects, whose set is put into the sets by put
record Kind (shape : Shape) (letter : ℕ) (make : ℕ → ObjectId) (put : ℕ → Tried) (w : ℕ) : Type 0 where
  object : (i : ℕ) → has_bit w i ≡ true → object_of shape (letter ∷ decimal i) ≡ Some (make i)
  place : (x i : ℕ) → with_object (put x) (make i) ≡ (if nat_lt x (2 ^ i) then Some (put (x + 2 ^ i)) else None)

kind_last : (shape : Shape) (letter : ℕ) (make : ℕ → ObjectId) (put : ℕ → Tried) (w n : ℕ) → Kind shape letter make put w
    → tried_from shape (put (w % 2 ^ n)) (member_words letter (member w n)) ≡ Some (put (w % 2 ^ suc n))
kind_last shape letter make put w n k =
    elim (cases_Bool (has_bit w n)) [
      | inl t ↦
          let bit : w / 2 ^ n % 2 ≡ 1 = eqb-true (w / 2 ^ n % 2) 1 t in
          let below : w % 2 ^ n < 2 ^ n = omega (arith, pow_pos n) in
          let whole : w % 2 ^ n + 2 ^ n ≡ w % 2 ^ suc n = omega (arith, cut_more w n, ap (λ (d : ℕ). d * 2 ^ n) bit) in
          ap (λ (b : Bool). tried_from shape (put (w % 2 ^ n)) (member_words letter (cond b (n ∷ []) []))) t
          ∙ tried_one shape (put (w % 2 ^ n)) (letter ∷ decimal n)
          ∙ ap (λ (o : Option ObjectId). o >>= with_object (put (w % 2 ^ n))) (k.object n t)
          ∙ k.place (w % 2 ^ n) n
          ∙ ap (λ (b : Bool). cond b (Some (put (w % 2 ^ n + 2 ^ n))) None) (lt-ltb (w % 2 ^ n) (2 ^ n) below)
          ∙ ap (λ (x : ℕ). Some (put x)) whole
      | inr f ↦
          let bit : w / 2 ^ n % 2 ≡ 0 = omega (arith, eqb-false (w / 2 ^ n % 2) 1 f) in
          let same : w % 2 ^ n ≡ w % 2 ^ suc n = omega (arith, cut_more w n, ap (λ (d : ℕ). d * 2 ^ n) bit) in
          ap (λ (b : Bool). tried_from shape (put (w % 2 ^ n)) (member_words letter (cond b (n ∷ []) []))) f
          ∙ tried_none shape (put (w % 2 ^ n))
          ∙ ap (λ (x : ℕ). Some (put x)) same
    ]

map_append : (letter : ℕ) (xs ys : List ℕ) → member_words letter (xs ++ ys) ≡ member_words letter xs ++ member_words letter ys
map_append letter [] ys = refl
map_append letter (x ∷ xs) ys = ap (λ (l : List (List ℕ)). (letter ∷ decimal x) ∷ l) (map_append letter xs ys)

kind_read : (shape : Shape) (letter : ℕ) (make : ℕ → ObjectId) (put : ℕ → Tried) (w n : ℕ) → Kind shape letter make put w
    → tried_from shape (put 0) (member_words letter (members w n)) ≡ Some (put (w % 2 ^ n))
unfolding members
kind_read shape letter make put w zero k = tried_none shape (put 0) ∙ ap (λ (x : ℕ). Some (put x)) {x = 0} {y = w % 2 ^ 0} (omega arith)
kind_read shape letter make put w (suc n) k =
    ap (tried_from shape (put 0)) (map_append letter (members w n) (member w n))
    ∙ tried_both shape (put 0) (member_words letter (members w n)) (member_words letter (member w n))
    ∙ ap (λ (o : Option Tried). o >>= λ more. tried_from shape more (member_words letter (member w n))) (kind_read shape letter make put w n k)
    ∙ kind_last shape letter make put w n k

-- all of a kind, and what stands behind
kind_all : (shape : Shape) (letter : ℕ) (make : ℕ → ObjectId) (put : ℕ → Tried) (w n : ℕ) (rest : List (List ℕ)) → Kind shape letter make put w → w < 2 ^ n
    → tried_from shape (put 0) (member_words letter (members w n) ++ rest) ≡ tried_from shape (put w) rest
kind_all shape letter make put w n rest k lt =
    let small : w % 2 ^ n ≡ w = below_mod w (2 ^ n) lt in
    tried_both shape (put 0) (member_words letter (members w n)) rest
    ∙ ap (λ (o : Option Tried). o >>= λ more. tried_from shape more rest) (kind_read shape letter make put w n k)
    ∙ ap (λ (x : ℕ). tried_from shape (put x) rest) small

pub tried_read : (shape : Shape) (t : Tried) → shape.regions ≤ 64 → shape.cores ≤ 16 → FitsTried shape t → tried_from shape (tried_set []) (tried_words t) ≡ Some t
tried_read shape t few_r few_c h =
    let enclaves : Kind shape 101 (λ i. objects.Enclave i) (λ x. record { enclaves = x; threads = 0; regions = 0; cells = 0 }) t.enclaves = record { object = λ i b. object_read shape (objects.Enclave i) few_r few_c (lt-ltb i 8 (member_below t.enclaves i 8 b h.enclaves)); place = λ x i. refl } in
    let threads : Kind shape 116 (λ i. objects.Thread i) (λ x. record { enclaves = t.enclaves; threads = x; regions = 0; cells = 0 }) t.threads = record { object = λ i b. object_read shape (objects.Thread i) few_r few_c (lt-ltb i 16 (member_below t.threads i 16 b h.threads)); place = λ x i. refl } in
    let regions : Kind shape 114 (λ i. objects.Region i) (λ x. record { enclaves = t.enclaves; threads = t.threads; regions = x; cells = 0 }) t.regions = record { object = λ i b. object_read shape (objects.Region i) few_r few_c (lt-ltb i shape.regions (member_below t.regions i shape.regions b h.regions)); place = λ x i. refl } in
    let cells : Kind shape 99 (λ i. objects.Cell i) (λ x. record { enclaves = t.enclaves; threads = t.threads; regions = t.regions; cells = x }) t.cells = record { object = λ i b. object_read shape (objects.Cell i) few_r few_c (lt-ltb i shape.cores (member_below t.cells i shape.cores b h.cells)); place = λ x i. refl } in
    let wide_regions : t.regions < 2 ^ 64 = omega (arith, h.regions, pow_mono {i = shape.regions} {j = 64} few_r) in
    let wide_cells : t.cells < 2 ^ 16 = omega (arith, h.cells, pow_mono {i = shape.cores} {j = 16} few_c) in
    let small : t.cells % 2 ^ 16 ≡ t.cells = omega arith in
    kind_all shape 101 _ _ t.enclaves 8 _ enclaves h.enclaves
    ∙ kind_all shape 116 _ _ t.threads 16 _ threads h.threads
    ∙ kind_all shape 114 _ _ t.regions 64 _ regions wide_regions
    ∙ kind_read shape 99 _ _ t.cells 16 cells
    ∙ ap (λ (x : ℕ). Some (record { enclaves = t.enclaves; threads = t.threads; regions = t.regions; cells = x })) small

-- ---- what is read fits

bind_some : {A B : Type 0} (r : Option A) (f : A → Option B) (y : B) → (r >>= f) ≡ Some y → (x : A) × (r ≡ Some x) × (f x ≡ Some y)
bind_some None f y e = absurd cc
bind_some (Some x) f y e = (x, refl, e)

if_some : {A : Type 0} (b : Bool) (x y : A) → cond b (Some x) None ≡ Some y → (b ≡ true) × (x ≡ y)
if_some true x y e = (refl, cc)
if_some false x y e = absurd cc

pub object_there : (shape : Shape) (word : List ℕ) (object : ObjectId) → object_of shape word ≡ Some object → is_of_machine shape object ≡ true
object_there shape [] object e = absurd cc
object_there shape (letter ∷ digits) object e =
    let a = bind_some (up_to 255 (canonical_of digits)) _ object e in
    let b = bind_some (lettered_object letter a.0) _ object a.2 in
    let c = if_some (is_of_machine shape b.0) b.0 object b.2 in
    subst (λ (o : ObjectId). is_of_machine shape o ≡ true) c.1 c.0

-- one more object of the machine keeps the sets within it
added_fits : (x i n : ℕ) → x < 2 ^ i → i < n → x + 2 ^ i < 2 ^ n
added_fits x i n lt below =
    let twice : 2 ^ suc i ≡ 2 * 2 ^ i = pow-succ' 2 i in
    let up : 2 ^ suc i ≤ 2 ^ n = pow_mono (omega arith) in
    omega arith

with_fits : (shape : Shape) (tried more : Tried) (object : ObjectId) → is_of_machine shape object ≡ true → FitsTried shape tried → with_object tried object ≡ Some more → FitsTried shape more
with_fits shape tried more (objects.Enclave e) there h is =
    let c = if_some (ltb tried.enclaves (2 ^ e)) _ more is in
    subst (FitsTried shape) c.1 (record { enclaves = added_fits tried.enclaves e 8 (ltb-true _ _ c.0) (ltb-true _ _ there); threads = h.threads; regions = h.regions; cells = h.cells })
with_fits shape tried more (objects.Thread t) there h is =
    let c = if_some (ltb tried.threads (2 ^ t)) _ more is in
    subst (FitsTried shape) c.1 (record { enclaves = h.enclaves; threads = added_fits tried.threads t 16 (ltb-true _ _ c.0) (ltb-true _ _ there); regions = h.regions; cells = h.cells })
with_fits shape tried more (objects.Region r) there h is =
    let c = if_some (ltb tried.regions (2 ^ r)) _ more is in
    subst (FitsTried shape) c.1 (record { enclaves = h.enclaves; threads = h.threads; regions = added_fits tried.regions r shape.regions (ltb-true _ _ c.0) (ltb-true _ _ there); cells = h.cells })
with_fits shape tried more (objects.Cell k) there h is =
    let c = if_some (ltb tried.cells (2 ^ k)) _ more is in
    subst (FitsTried shape) c.1 (record { enclaves = h.enclaves; threads = h.threads; regions = h.regions; cells = added_fits tried.cells k shape.cores (ltb-true _ _ c.0) (ltb-true _ _ there) })

pub tried_fits : (shape : Shape) (words : List (List ℕ)) (tried found : Tried) → FitsTried shape tried → tried_from shape tried words ≡ Some found → FitsTried shape found
unfolding tried_from
tried_fits shape [] tried found h e = let same : tried ≡ found = cc in subst (FitsTried shape) same h
tried_fits shape (word ∷ words) tried found h e =
    let a = bind_some (with_word shape tried word) _ found e in
    let b = bind_some (object_of shape word) (with_object tried) a.0 a.1 in
    tried_fits shape words a.0 found (with_fits shape tried a.0 b.0 (object_there shape word b.0 b.1) h b.2) a.2

pub none_fit : (shape : Shape) → FitsTried shape (tried_set [])
none_fit shape = record { enclaves = omega arith; threads = omega arith; regions = pow_pos shape.regions; cells = pow_pos shape.cores }

-- ---- the loop over the words

pub tried_fails : (shape : Shape) (tried : Tried) (word : List ℕ) (left words : List (List ℕ)) (total : Option Tried) → left ≡ word ∷ words → with_word shape tried word ≡ None → tried_from shape tried left ≡ total → None ≡ total
unfolding tried_from
tried_fails shape tried word left words total l h so_far =
    sym (ap (λ (o : Option Tried). o >>= λ more. tried_from shape more words) h) ∙ ap (tried_from shape tried) (sym l) ∙ so_far

pub tried_more : (shape : Shape) (tried more : Tried) (word : List ℕ) (left words : List (List ℕ)) (total : Option Tried) → left ≡ word ∷ words → with_word shape tried word ≡ Some more → tried_from shape tried left ≡ total → tried_from shape more words ≡ total
unfolding tried_from
tried_more shape tried more word left words total l h so_far =
    sym (ap (λ (o : Option Tried). o >>= λ last. tried_from shape last words) h) ∙ ap (tried_from shape tried) (sym l) ∙ so_far

pub tried_done : (shape : Shape) (tried : Tried) (left : List (List ℕ)) (total : Option Tried) → left ≡ [] → tried_from shape tried left ≡ total → Some tried ≡ total
tried_done shape tried left total l so_far = sym (tried_none shape tried) ∙ ap (tried_from shape tried) (sym l) ∙ so_far
