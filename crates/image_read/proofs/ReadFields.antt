-- What stands at a place of the bytes, and the fields that are read there.
use Rattle.std.proofs.Common.{◌≡◌, ℕ, suc, ◌+◌, ◌^◌, ◌<◌, ◌≤◌, Bool, true, false, cond, leb, ltb, ◌&&◌, List, [], ◌∷◌, ◌++◌, length, get_or, take, drop, slice_index, Ok, Err, refl, sym, ap, subst, ◌∙◌, append_assoc, arith, inl, inr, drop-cons, length-append, length-drop}
use Rattle.std.specs.Int.{Width, w16, w32, w64, byte_len, from_le_bytes, to_le_bytes}
use Rattle.std.proofs.lemmas.Bool.{cases_lt, and_parts, and_from, ltb-false, le-ltb, leb-true, le-leb}
use Rattle.std.proofs.lemmas.List.{take_at, drop_at, drop-drop, take-append-drop, length-take, get_or-drop, get_or-take, get_or_past}
use Rattle.std.proofs.lemmas.Nat.{le_bytes_2, le_bytes_4, le_bytes_8, from_le_bytes-to_le_bytes_2, from_le_bytes-to_le_bytes_4, from_le_bytes-to_le_bytes_8}
use Rattle.reader_answers.proofs.Steps.{bind_ok}
use Rattle.image_read.specs.declared.fault.ImageFault.{ImageFault}
use Rattle.image_read.specs.declared.fault.ImageFault.TheVariants as faults
use Rattle.image_read.specs.Reading.{read_to, byte_at, number_at, checked, byte_in, field_at}

abbrev pub IsBytes : List ℕ → Type 0
IsBytes bytes = (i : ℕ) → get_or bytes i 0 < 256

pub IsBytes-drop : (n : ℕ) (bytes : List ℕ) → IsBytes bytes → IsBytes (drop n bytes)
IsBytes-drop n bytes h i = rw get_or-drop (h (n + i))

pub IsBytes-take : (n : ℕ) (bytes : List ℕ) → IsBytes bytes → IsBytes (take n bytes)
IsBytes-take n bytes h i =
    elim (cases_lt i n) [
      | inl lt ↦ rw (get_or-take n bytes i 0 lt) (h i)
      | inr le ↦ rw (get_or_past (take n bytes) i 0 (omega (arith, length-take n bytes))) (omega arith)
    ]

-- ---- what stands at a place

-- the text stands in the bytes from the place on
pub record Has (bytes : List ℕ) (at : ℕ) (text : List ℕ) : Type 0 where
  pub rest : List ℕ
  pub within : at + length text ≤ length bytes
  pub here : drop at bytes ≡ text ++ rest

pub has_behind : (bytes : List ℕ) (at : ℕ) (x y : List ℕ) → Has bytes at (x ++ y) → Has bytes (at + length x) y
has_behind bytes at x y h = record {
  rest = h.rest;
  within = omega (arith, h.within, length-append x y);
  here = sym (drop-drop (length x) at bytes) ∙ ap (drop (length x)) (h.here ∙ append_assoc x y h.rest) ∙ drop_at x (y ++ h.rest) (length x) refl;
}

pub has_front : (bytes : List ℕ) (at : ℕ) (x y : List ℕ) → Has bytes at (x ++ y) → Has bytes at x
has_front bytes at x y h = record {
  rest = y ++ h.rest;
  within = omega (arith, h.within, length-append x y);
  here = h.here ∙ append_assoc x y h.rest;
}

pub has_both : (bytes : List ℕ) (at : ℕ) (x y : List ℕ) → Has bytes at x → Has bytes (at + length x) y → Has bytes at (x ++ y)
has_both bytes at x y h g =
    let same : h.rest ≡ y ++ g.rest = sym (drop_at x h.rest (length x) refl) ∙ ap (drop (length x)) (sym h.here) ∙ drop-drop (length x) at bytes ∙ g.here in
    record {
      rest = g.rest;
      within = omega (arith, g.within, length-append x y);
      here = h.here ∙ ap (λ (r : List ℕ). x ++ r) same ∙ sym (append_assoc x y g.rest);
    }

pub has_nothing : (bytes : List ℕ) (at : ℕ) → at ≤ length bytes → Has bytes at []
has_nothing bytes at le = record { rest = drop at bytes; within = omega (arith, le); here = refl }

pub has_taken : (bytes : List ℕ) (at n : ℕ) → at + n ≤ length bytes → Has bytes at (take n (drop at bytes))
has_taken bytes at n le = record {
  rest = drop n (drop at bytes);
  within = omega (arith, le, length-take n (drop at bytes), length-drop at bytes);
  here = sym (take-append-drop n (drop at bytes));
}

pub has_text : (bytes : List ℕ) (at : ℕ) (text : List ℕ) → Has bytes at text → take (length text) (drop at bytes) ≡ text
has_text bytes at text h = ap (take (length text)) h.here ∙ take_at text h.rest (length text) refl

-- ---- steps

-- a test that failed on no value
pub guard_ok : {A : Type 0} (b : Bool) (d : ImageFault) (x y : A) → cond b (Err d) (Ok x) ≡ Ok y → (b ≡ false) × (x ≡ y)
guard_ok true d x y e = absurd cc
guard_ok false d x y e = (refl, cc)

-- a test that a value met
pub passed : {A : Type 0} (b : Bool) (d : ImageFault) (x y : A) → cond b (Ok x) (Err d) ≡ Ok y → (b ≡ true) × (x ≡ y)
passed true d x y e = (refl, cc)
passed false d x y e = absurd cc

pub read_to_ok : {A : Type 0} (end : ℕ) (bytes : List ℕ) (x y : A) → read_to end bytes x ≡ Ok y → (end ≤ length bytes) × (x ≡ y)
read_to_ok end bytes x y e =
    let g = guard_ok (ltb (length bytes) end) (faults.Short (length bytes)) x y e in
    (ltb-false (length bytes) end g.0, g.1)

pub read_to_is : {A : Type 0} (end : ℕ) (bytes : List ℕ) (x : A) → end ≤ length bytes → read_to end bytes x ≡ Ok x
read_to_is end bytes x le = rw (le-ltb (length bytes) end le) refl

-- ---- bytes

pub byte_found : (bytes : List ℕ) (at n : ℕ) → byte_at bytes at ≡ Ok n → Has bytes at (n ∷ [])
byte_found bytes at n e =
    let r = read_to_ok (at + 1) bytes (slice_index bytes at) n e in
    record {
      rest = drop (suc at) bytes;
      within = omega (arith, r.0);
      here = drop-cons bytes at 0 (omega (arith, r.0)) ∙ ap (λ (b : ℕ). b ∷ drop (suc at) bytes) r.1;
    }

head_is : (x y : ℕ) (xs ys : List ℕ) → x ∷ xs ≡ y ∷ ys → x ≡ y
head_is x y xs ys e = cc

pub byte_is : (bytes : List ℕ) (at n : ℕ) → Has bytes at (n ∷ []) → byte_at bytes at ≡ Ok n
byte_is bytes at n h =
    let there : slice_index bytes at ≡ n = head_is (get_or bytes at 0) n (drop (suc at) bytes) h.rest (sym (drop-cons bytes at 0 (omega (arith, h.within))) ∙ h.here) in
    read_to_is (at + 1) bytes (slice_index bytes at) (omega (arith, h.within)) ∙ ap (λ (x : ℕ). Ok x) there

-- ---- numbers

pub record IsWide (w : Width) (limit : ℕ) : Type 0 where
  pub len : (n : ℕ) → length (to_le_bytes w n) ≡ byte_len w
  pub back : (bytes : List ℕ) → length bytes ≡ byte_len w → IsBytes bytes → to_le_bytes w (from_le_bytes w bytes) ≡ bytes
  pub again : (n : ℕ) → n < limit → from_le_bytes w (to_le_bytes w n) ≡ n
  pub below : (bytes : List ℕ) → IsBytes bytes → from_le_bytes w bytes < limit

pub wide16 : IsWide w16 (2 ^ 16)
wide16 = record {
  len = λ n. refl;
  back = λ bytes len fits. le_bytes_2 bytes _ len fits refl;
  again = λ n lt. from_le_bytes-to_le_bytes_2 n lt;
  below = λ bytes fits. omega (arith, fits 0, fits 1);
}

pub wide32 : IsWide w32 (2 ^ 32)
wide32 = record {
  len = λ n. refl;
  back = λ bytes len fits. le_bytes_4 bytes _ len fits refl;
  again = λ n lt. from_le_bytes-to_le_bytes_4 n lt;
  below = λ bytes fits. omega (arith, fits 0, fits 1, fits 2, fits 3);
}

pub wide64 : IsWide w64 (2 ^ 64)
wide64 = record {
  len = λ n. refl;
  back = λ bytes len fits. le_bytes_8 bytes _ len fits refl;
  again = λ n lt. from_le_bytes-to_le_bytes_8 n lt;
  below = λ bytes fits. omega (arith, fits 0, fits 1, fits 2, fits 3, fits 4, fits 5, fits 6, fits 7);
}

-- the bytes of a number stand at a place, and it is one of that width
pub record HasNumber (w : Width) (limit : ℕ) (bytes : List ℕ) (at n : ℕ) : Type 0 where
  pub has : Has bytes at (to_le_bytes w n)
  pub below : n < limit

pub number_found : (w : Width) (limit : ℕ) → IsWide w limit → (bytes : List ℕ) (at n : ℕ) → IsBytes bytes → number_at w bytes at ≡ Ok n → HasNumber w limit bytes at n
number_found w limit wide bytes at n fits e =
    let text = take (byte_len w) (drop at bytes) in
    let r = read_to_ok (at + byte_len w) bytes (from_le_bytes w text) n e in
    let size : length text ≡ byte_len w = omega (arith, r.0, length-take (byte_len w) (drop at bytes), length-drop at bytes) in
    let are = IsBytes-take (byte_len w) (drop at bytes) (IsBytes-drop at bytes fits) in
    let spelled : text ≡ to_le_bytes w n = sym (wide.back text size are) ∙ ap (to_le_bytes w) r.1 in
    record {
      has = subst (Has bytes at) spelled (has_taken bytes at (byte_len w) r.0);
      below = subst (λ (m : ℕ). m < limit) r.1 (wide.below text are);
    }

pub number_is : (w : Width) (limit : ℕ) → IsWide w limit → (bytes : List ℕ) (at n : ℕ) → Has bytes at (to_le_bytes w n) → n < limit → number_at w bytes at ≡ Ok n
number_is w limit wide bytes at n h lt =
    let len = wide.len n in
    let text : take (byte_len w) (drop at bytes) ≡ to_le_bytes w n = ap (λ (k : ℕ). take k (drop at bytes)) (sym len) ∙ has_text bytes at (to_le_bytes w n) h in
    let value : from_le_bytes w (take (byte_len w) (drop at bytes)) ≡ n = ap (from_le_bytes w) text ∙ wide.again n lt in
    read_to_is (at + byte_len w) bytes (from_le_bytes w (take (byte_len w) (drop at bytes))) (omega (arith, h.within, len)) ∙ ap (λ (x : ℕ). Ok x) value

-- ---- fields

checked_ok : (allowed : ℕ → Bool) (at m n : ℕ) → checked allowed at m ≡ Ok n → (allowed n ≡ true) × (m ≡ n)
checked_ok allowed at m n e =
    let g = passed (allowed m) (faults.BadField at) m n e in
    (subst (λ (x : ℕ). allowed x ≡ true) g.1 g.0, g.1)

pub checked_is : (allowed : ℕ → Bool) (at n : ℕ) → allowed n ≡ true → checked allowed at n ≡ Ok n
checked_is allowed at n t = rw t refl

pub record HasField (w : Width) (limit : ℕ) (allowed : ℕ → Bool) (bytes : List ℕ) (at n : ℕ) : Type 0 where
  pub has : Has bytes at (to_le_bytes w n)
  pub below : n < limit
  pub good : allowed n ≡ true

pub field_found : (w : Width) (limit : ℕ) → IsWide w limit → (allowed : ℕ → Bool) (bytes : List ℕ) (at n : ℕ) → IsBytes bytes → field_at w allowed bytes at ≡ Ok n → HasField w limit allowed bytes at n
field_found w limit wide allowed bytes at n fits e =
    let b = bind_ok (number_at w bytes at) (checked allowed at) n e in
    let c = checked_ok allowed at b.0 n b.2 in
    let f = number_found w limit wide bytes at n fits (b.1 ∙ ap (λ (x : ℕ). Ok x) c.1) in
    record { has = f.has; below = f.below; good = c.0 }

pub field_is : (w : Width) (limit : ℕ) → IsWide w limit → (allowed : ℕ → Bool) (bytes : List ℕ) (at n : ℕ) → Has bytes at (to_le_bytes w n) → n < limit → allowed n ≡ true → field_at w allowed bytes at ≡ Ok n
field_is w limit wide allowed bytes at n h lt good = rw (number_is w limit wide bytes at n h lt) (checked_is allowed at n good)

pub byte_in_found : (least most : ℕ) (bytes : List ℕ) (at n : ℕ) → byte_in least most bytes at ≡ Ok n → Has bytes at (n ∷ []) × (least ≤ n) × (n ≤ most)
byte_in_found least most bytes at n e =
    let b = bind_ok (byte_at bytes at) (checked (λ m. leb least m && leb m most) at) n e in
    let c = checked_ok (λ m. leb least m && leb m most) at b.0 n b.2 in
    let p = and_parts (leb least n) (leb n most) c.0 in
    (byte_found bytes at n (b.1 ∙ ap (λ (x : ℕ). Ok x) c.1), leb-true least n p.0, leb-true n most p.1)

pub byte_in_is : (least most : ℕ) (bytes : List ℕ) (at n : ℕ) → Has bytes at (n ∷ []) → least ≤ n → n ≤ most → byte_in least most bytes at ≡ Ok n
byte_in_is least most bytes at n h l m =
    rw (byte_is bytes at n h) (checked_is (λ x. leb least x && leb x most) at n (and_from (leb least n) (leb n most) (le-leb least n l) (le-leb n most m)))
