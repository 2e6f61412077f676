-- What is read is the text of the image that is read.
use Rattle.std.proofs.Common.{◌≡◌, ◌⊎◌, ℕ, zero, suc, ◌+◌, ◌*◌, ◌%◌, ◌^◌, ◌≤◌, Bool, true, false, cond, ltb, eqb, ◌||◌, List, [], ◌∷◌, ◌++◌, length, take, Result, Ok, Err, refl, ap, subst, ◌∙◌, arith, inl, inr}
use Rattle.std.specs.List.{flat_map, AllByRecursion}
use Rattle.std.specs.Int.{w16, w64, to_le_bytes}
use Rattle.std.specs.Str.{bytes_eq}
use Rattle.std.proofs.lemmas.Bool.{cases_Bool, eqb-true, leb-true, ltb-false}
use Rattle.std.proofs.lemmas.Slice.Eq.{bytes_eq-Decides}
use Rattle.mon_types.specs.Shape.{Shape, shape_of, is_shape}
use Rattle.mon_types.specs.declared.image.Start.{Start}
use Rattle.reader_answers.specs.Steps.{◌>>=◌}
use Rattle.reader_answers.proofs.Steps.{bind_ok, ok_is}
use Rattle.image_read.specs.declared.fault.ImageFault.{ImageFault}
use Rattle.image_read.specs.declared.fault.ImageFault.TheVariants as faults
use Rattle.image_read.specs.declared.head.Head.{Head}
use Rattle.image_read.specs.Image.{log2_of, magic, head_text, start_text, most_cores}
use Rattle.image_read.specs.Grammar.{IsWideStart}
use Rattle.image_read.specs.Reading.{byte_at, number_at, byte_in, field_at, is_few, is_zero, is_start, version_of, shape_at, head_of, start_at, starts_from}
use Rattle.image_read.proofs.Shapes.{made_shape, log_power}
use Rattle.image_read.proofs.ReadFields.{IsBytes, Has, has_both, has_nothing, has_taken, passed, byte_found, wide16, wide64, number_found, field_found, byte_in_found}

-- ---- tests

pub not_failed : {A : Type 0} (b : Bool) (d : ImageFault) (r : Result A ImageFault) (y : A) → cond b (Err d) r ≡ Ok y → (b ≡ false) × (r ≡ Ok y)
not_failed true d r y e = absurd cc
not_failed false d r y e = (refl, e)

pub held : {A : Type 0} (b : Bool) (d : ImageFault) (r : Result A ImageFault) (y : A) → cond b r (Err d) ≡ Ok y → (b ≡ true) × (r ≡ Ok y)
held true d r y e = (refl, e)
held false d r y e = absurd cc

one_or_two : (v : ℕ) → (eqb v 1 || eqb v 2) ≡ true → (v ≡ 1) ⊎ (v ≡ 2)
one_or_two v h =
    elim (cases_Bool (eqb v 1)) [
      | inl t ↦ inl (eqb-true v 1 t)
      | inr f ↦ inr (eqb-true v 2 (rw f at h))
    ]

-- ---- the first 16 bytes

version_found : (bytes : List ℕ) (v : ℕ) → version_of bytes ≡ Ok v → Has bytes 0 (magic ++ v ∷ []) × ((v ≡ 1) ⊎ (v ≡ 2))
unfolding version_of magic
version_found bytes v e =
    let rest = byte_at bytes 7 >>= λ n. cond (eqb n 1 || eqb n 2) (Ok n) (Err faults.BadVersion) in
    let a = not_failed (ltb (length bytes) 7) (faults.Short (length bytes)) (cond (bytes_eq (take 7 bytes) magic) rest (Err faults.BadMagic)) v e in
    let b = held (bytes_eq (take 7 bytes) magic) faults.BadMagic rest v a.1 in
    let c = bind_ok (byte_at bytes 7) (λ n. cond (eqb n 1 || eqb n 2) (Ok n) (Err faults.BadVersion)) v b.1 in
    let d = passed (eqb c.0 1 || eqb c.0 2) faults.BadVersion c.0 v c.2 in
    let long : 7 ≤ length bytes = ltb-false (length bytes) 7 a.0 in
    let first : Has bytes 0 magic = subst (Has bytes 0) ((bytes_eq-Decides (take 7 bytes) magic).0 b.0) (has_taken bytes 0 7 (omega (arith, long))) in
    let last : Has bytes 7 (v ∷ []) = byte_found bytes 7 v (c.1 ∙ ap (λ (x : ℕ). Ok x) d.1) in
    (has_both bytes 0 magic (v ∷ []) first last, one_or_two v (subst (λ (x : ℕ). (eqb x 1 || eqb x 2) ≡ true) d.1 d.0))

-- the four bytes of a configuration
abbrev pub shape_text : Shape → List ℕ
shape_text s = s.cores ∷ log2_of s.regions ∷ log2_of s.pages ∷ s.shift ∷ []

pub record HasShape (version : ℕ) (bytes : List ℕ) (s : Shape) : Type 0 where
  pub has : Has bytes 8 (shape_text s)
  pub shape : is_shape s ≡ true
  pub cores : s.cores ≤ most_cores version

shape_found : (version : ℕ) (bytes : List ℕ) (s : Shape) → shape_at version bytes ≡ Ok s → HasShape version bytes s
unfolding shape_at
shape_found version bytes s e =
    let a = bind_ok (byte_in 1 (most_cores version) bytes 8) (λ cores. byte_in 1 6 bytes 9 >>= λ regions. byte_in 0 4 bytes 10 >>= λ pages. byte_in 0 pages bytes 11 >>= λ shift. Ok (shape_of cores (2 ^ regions) (2 ^ pages) shift)) s e in
    let b = bind_ok (byte_in 1 6 bytes 9) (λ regions. byte_in 0 4 bytes 10 >>= λ pages. byte_in 0 pages bytes 11 >>= λ shift. Ok (shape_of a.0 (2 ^ regions) (2 ^ pages) shift)) s a.2 in
    let c = bind_ok (byte_in 0 4 bytes 10) (λ pages. byte_in 0 pages bytes 11 >>= λ shift. Ok (shape_of a.0 (2 ^ b.0) (2 ^ pages) shift)) s b.2 in
    let d = bind_ok (byte_in 0 c.0 bytes 11) (λ shift. Ok (shape_of a.0 (2 ^ b.0) (2 ^ c.0) shift)) s c.2 in
    let cores = byte_in_found 1 (most_cores version) bytes 8 a.0 a.1 in
    let regions = byte_in_found 1 6 bytes 9 b.0 b.1 in
    let pages = byte_in_found 0 4 bytes 10 c.0 c.1 in
    let shift = byte_in_found 0 c.0 bytes 11 d.0 d.1 in
    let two = has_both bytes 10 (c.0 ∷ []) (d.0 ∷ []) pages.0 shift.0 in
    let three = has_both bytes 9 (b.0 ∷ []) (c.0 ∷ d.0 ∷ []) regions.0 two in
    let four = has_both bytes 8 (a.0 ∷ []) (b.0 ∷ c.0 ∷ d.0 ∷ []) cores.0 three in
    let made = shape_of a.0 (2 ^ b.0) (2 ^ c.0) d.0 in
    let same : a.0 ∷ b.0 ∷ c.0 ∷ d.0 ∷ [] ≡ shape_text made = rw (log_power b.0 regions.2, log_power c.0 (omega (arith, pages.2))) refl in
    subst (HasShape version bytes) (ok_is made s d.2) (record {
      has = subst (Has bytes 8) same four;
      shape = made_shape version a.0 b.0 c.0 d.0 cores.1 cores.2 regions.1 regions.2 pages.2 shift.2;
      cores = cores.2;
    })

pub record HasHead (bytes : List ℕ) (h : Head) : Type 0 where
  pub has : Has bytes 0 (head_text h.version h.config h.segments)
  pub version : (h.version ≡ 1) ⊎ (h.version ≡ 2)
  pub shape : is_shape h.config ≡ true
  pub cores : h.config.cores ≤ most_cores h.version
  pub few : h.segments ≤ 64

pub head_found : (bytes : List ℕ) (h : Head) → IsBytes bytes → head_of bytes ≡ Ok h → HasHead bytes h
unfolding head_of magic
head_found bytes h fits e =
    let a = bind_ok (version_of bytes) (λ version. shape_at version bytes >>= λ shape. field_at w16 is_few bytes 12 >>= λ segments. field_at w16 is_zero bytes 14 >>= λ none. Ok (record { version = version; config = shape; segments = segments })) h e in
    let b = bind_ok (shape_at a.0 bytes) (λ shape. field_at w16 is_few bytes 12 >>= λ segments. field_at w16 is_zero bytes 14 >>= λ none. Ok (record { version = a.0; config = shape; segments = segments })) h a.2 in
    let c = bind_ok (field_at w16 is_few bytes 12) (λ segments. field_at w16 is_zero bytes 14 >>= λ none. Ok (record { version = a.0; config = b.0; segments = segments })) h b.2 in
    let d = bind_ok (field_at w16 is_zero bytes 14) (λ none. Ok (record { version = a.0; config = b.0; segments = c.0 })) h c.2 in
    let version = version_found bytes a.0 a.1 in
    let shape = shape_found a.0 bytes b.0 b.1 in
    let few = field_found w16 (2 ^ 16) wide16 is_few bytes 12 c.0 fits c.1 in
    let none = field_found w16 (2 ^ 16) wide16 is_zero bytes 14 d.0 fits d.1 in
    let zeros : Has bytes 14 (0 ∷ 0 ∷ []) = subst (λ (x : ℕ). Has bytes 14 (to_le_bytes w16 x)) (eqb-true d.0 0 none.good) none.has in
    let counts = has_both bytes 12 (to_le_bytes w16 c.0) (0 ∷ 0 ∷ []) few.has zeros in
    let behind_version = has_both bytes 8 (shape_text b.0) (to_le_bytes w16 c.0 ++ 0 ∷ 0 ∷ []) shape.has counts in
    let whole = has_both bytes 0 (magic ++ a.0 ∷ []) (shape_text b.0 ++ (to_le_bytes w16 c.0 ++ 0 ∷ 0 ∷ [])) version.0 behind_version in
    let made : Head = record { version = a.0; config = b.0; segments = c.0 } in
    subst (HasHead bytes) (ok_is made h d.2) (record {
      has = whole;
      version = version.1;
      shape = shape.shape;
      cores = shape.cores;
      few = leb-true c.0 64 few.good;
    })

-- ---- the starts

pub record HasStart (bytes : List ℕ) (at : ℕ) (s : Start) : Type 0 where
  pub has : Has bytes at (start_text s)
  pub aligned : s.pc % 4 ≡ 0
  pub wide : IsWideStart s

start_found : (bytes : List ℕ) (at : ℕ) (s : Start) → IsBytes bytes → start_at bytes at ≡ Ok s → HasStart bytes at s
unfolding start_at
start_found bytes at s fits e =
    let a = bind_ok (field_at w64 is_start bytes at) (λ pc. number_at w64 bytes (at + 8) >>= λ sp. Ok (record { pc = pc; sp = sp })) s e in
    let b = bind_ok (number_at w64 bytes (at + 8)) (λ sp. Ok (record { pc = a.0; sp = sp })) s a.2 in
    let pc = field_found w64 (2 ^ 64) wide64 is_start bytes at a.0 fits a.1 in
    let sp = number_found w64 (2 ^ 64) wide64 bytes (at + 8) b.0 fits b.1 in
    let made : Start = record { pc = a.0; sp = b.0 } in
    subst (HasStart bytes at) (ok_is made s b.2) (record { has = has_both bytes at (to_le_bytes w64 a.0) (to_le_bytes w64 b.0) pc.has sp.has; aligned = eqb-true (a.0 % 4) 0 pc.good; wide = (pc.below, sp.below) })

pub record HasStarts (bytes : List ℕ) (at count : ℕ) (ss : List Start) : Type 0 where
  pub has : Has bytes at (flat_map start_text ss)
  pub count_is : length ss ≡ count
  pub aligned : AllByRecursion (λ s. s.pc % 4 ≡ 0) ss
  pub wide : AllByRecursion IsWideStart ss
  pub size : length (flat_map start_text ss) ≡ 16 * count

pub starts_found : (bytes : List ℕ) (count at : ℕ) (ss : List Start) → IsBytes bytes → at ≤ length bytes → starts_from bytes at count ≡ Ok ss → HasStarts bytes at count ss
unfolding starts_from
starts_found bytes zero at ss fits le e = subst (HasStarts bytes at zero) (ok_is [] ss e) (record { has = has_nothing bytes at le; count_is = refl; aligned = tt; wide = tt; size = refl })
starts_found bytes (suc count) at ss fits le e =
    let a = bind_ok (start_at bytes at) (λ first. starts_from bytes (at + 16) count >>= λ others. Ok (first ∷ others)) ss e in
    let b = bind_ok (starts_from bytes (at + 16) count) (λ others. Ok (a.0 ∷ others)) ss a.2 in
    let first = start_found bytes at a.0 fits a.1 in
    let others = starts_found bytes count (at + 16) b.0 fits (omega (arith, first.has.within)) b.1 in
    subst (HasStarts bytes at (suc count)) (ok_is (a.0 ∷ b.0) ss b.2) (record {
      has = has_both bytes at (start_text a.0) (flat_map start_text b.0) first.has others.has;
      count_is = ap suc others.count_is;
      aligned = (first.aligned, others.aligned);
      wide = (first.wide, others.wide);
      size = omega (arith, others.size);
    })
