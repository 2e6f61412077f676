-- What is read of the segments, the digest and the whole file is their text.
use Rattle.std.proofs.Common.{◌≡◌, ℕ, zero, suc, ◌+◌, ◌*◌, ◌/◌, ◌%◌, ◌^◌, ◌<◌, ◌≤◌, cond, leb, ltb, eqb, List, [], ◌∷◌, ◌++◌, length, take, drop, Ok, Err, refl, sym, ap, subst, ◌∙◌, arith, inl, inr, length-append, length-drop}
use Rattle.std.specs.List.{flat_map, AllByRecursion}
use Rattle.std.specs.Int.{w32, w64, from_le_bytes, to_le_bytes}
use Rattle.std.specs.Str.{bytes_eq}
use Rattle.std.proofs.Math.Seq.{take-add}
use Rattle.std.proofs.lemmas.Bool.{cases_Bool, and_parts, eqb-true, leb-true, ltb-false}
use Rattle.std.proofs.lemmas.List.{take_all, length-take}
use Rattle.std.proofs.lemmas.Slice.Eq.{bytes_eq-Decides}
use Rattle.sha2.specs.Sha256.{sha256}
use Rattle.mon_types.specs.Shape.{Shape}
use Rattle.mon_types.specs.declared.image.Image.{Image}
use Rattle.mon_types.specs.declared.image.Segment.{Segment}
use Rattle.mon_types.specs.declared.image.Start.{Start}
use Rattle.dram_map.specs.Addresses.{dram_start, dram_end}
use Rattle.reader_answers.specs.Steps.{◌>>=◌}
use Rattle.reader_answers.proofs.Steps.{bind_ok, ok_is}
use Rattle.image_read.specs.declared.fault.ImageFault.TheVariants as faults
use Rattle.image_read.specs.declared.head.Head.{Head}
use Rattle.image_read.specs.Image.{magic, head_text, start_text, words_text, segment_head, segment_text, digest_text, segment_end, IsSegment, AreSegments}
use Rattle.image_read.specs.Grammar.{IsWideSegment, IsImageText}
use Rattle.image_read.specs.Reading.{limit, field_at, read_to, is_zero, is_place, is_size, head_of, starts_from, words_of, is_inside, placed_at, segment_at, segments_from, digest_from, all_of, image_of}
use Rattle.image_read.proofs.ReadFields.{IsBytes, IsBytes-drop, IsBytes-take, Has, has_both, has_nothing, has_taken, has_text, guard_ok, read_to_ok, wide32, wide64, field_found}
use Rattle.image_read.proofs.ReadLoops.{words_length}
use Rattle.image_read.proofs.Found.{not_failed, held, head_found, starts_found}

-- ---- words

pub words_size : (words : List ℕ) → length (words_text words) ≡ 8 * length words
words_size [] = refl
words_size (w ∷ words) = omega (arith, words_size words)

words_found : (count : ℕ) (bytes : List ℕ) → IsBytes bytes → 8 * count ≤ length bytes → words_text (words_of count bytes) ≡ take (8 * count) bytes
unfolding words_of
words_found zero bytes fits le = refl
words_found (suc count) bytes fits le =
    let size : length (take 8 bytes) ≡ 8 = omega (arith, le, length-take 8 bytes) in
    let first : to_le_bytes w64 (from_le_bytes w64 (take 8 bytes)) ≡ take 8 bytes = wide64.back (take 8 bytes) size (IsBytes-take 8 bytes fits) in
    let others = words_found count (drop 8 bytes) (IsBytes-drop 8 bytes fits) (omega (arith, le, length-drop 8 bytes)) in
    let n : 8 * suc count ≡ 8 + 8 * count = omega arith in
    ap (λ (t : List ℕ). t ++ words_text (words_of count (drop 8 bytes))) first ∙ ap (λ (t : List ℕ). take 8 bytes ++ t) others ∙ sym (take-add 8 (8 * count) bytes) ∙ ap (λ (k : ℕ). take k bytes) (sym n)

words_wide : (count : ℕ) (bytes : List ℕ) → IsBytes bytes → AllByRecursion (λ w. w < 2 ^ 64) (words_of count bytes)
unfolding words_of
words_wide zero bytes fits = tt
words_wide (suc count) bytes fits = (wide64.below (take 8 bytes) (IsBytes-take 8 bytes fits), words_wide count (drop 8 bytes) (IsBytes-drop 8 bytes fits))

-- ---- segments

pub record HasSegment (shape : Shape) (bytes : List ℕ) (place at : ℕ) (s : Segment) : Type 0 where
  pub has : Has bytes at (segment_text s)
  pub size : length (segment_text s) ≡ 16 + 8 * length s.words
  pub is : IsSegment shape place s
  pub wide : IsWideSegment s

placed_found : (shape : Shape) (number place size address n : ℕ) → placed_at shape number place size address ≡ Ok n → (address ≡ n) × (place ≤ n) × (n + size ≤ dram_end shape)
placed_found shape number place size address n e =
    let a = held (is_inside shape address size) (faults.OutOfRange number) (cond (ltb address place) (Err (faults.Overlap number)) (Ok address)) n e in
    let b = guard_ok (ltb address place) (faults.Overlap number) address n a.1 in
    let p = and_parts (leb dram_start address) (leb (address + size) (dram_end shape)) a.0 in
    subst (λ (x : ℕ). (address ≡ x) × (place ≤ x) × (x + size ≤ dram_end shape)) b.1 (refl, ltb-false address place b.0, leb-true (address + size) (dram_end shape) p.1)

segment_found : (shape : Shape) (bytes : List ℕ) (number place at : ℕ) (s : Segment) → IsBytes bytes → segment_at shape bytes number place at ≡ Ok s → HasSegment shape bytes place at s
unfolding segment_at
segment_found shape bytes number place at s fits e =
    let made : ℕ → ℕ → Segment = λ size placed. record { address = placed; words = words_of (size / 8) (drop (at + 16) bytes) } in
    let a = bind_ok (field_at w64 is_place bytes at) (λ address. field_at w32 is_size bytes (at + 8) >>= λ size. field_at w32 is_zero bytes (at + 12) >>= λ none. placed_at shape number place size address >>= λ placed. read_to (at + 16 + size) bytes (made size placed)) s e in
    let b = bind_ok (field_at w32 is_size bytes (at + 8)) (λ size. field_at w32 is_zero bytes (at + 12) >>= λ none. placed_at shape number place size a.0 >>= λ placed. read_to (at + 16 + size) bytes (made size placed)) s a.2 in
    let c = bind_ok (field_at w32 is_zero bytes (at + 12)) (λ none. placed_at shape number place b.0 a.0 >>= λ placed. read_to (at + 16 + b.0) bytes (made b.0 placed)) s b.2 in
    let d = bind_ok (placed_at shape number place b.0 a.0) (λ placed. read_to (at + 16 + b.0) bytes (made b.0 placed)) s c.2 in
    let r = read_to_ok (at + 16 + b.0) bytes (made b.0 d.0) s d.2 in
    let address = field_found w64 (2 ^ 64) wide64 is_place bytes at a.0 fits a.1 in
    let size = field_found w32 (2 ^ 32) wide32 is_size bytes (at + 8) b.0 fits b.1 in
    let none = field_found w32 (2 ^ 32) wide32 is_zero bytes (at + 12) c.0 fits c.1 in
    let p = placed_found shape number place b.0 a.0 d.0 d.1 in
    let q = and_parts (eqb (b.0 % 8) 0) (leb 8 b.0) size.good in
    let eight : 8 * (b.0 / 8) ≡ b.0 = omega (arith, eqb-true (b.0 % 8) 0 q.0) in
    let there = drop (at + 16) bytes in
    let words = words_of (b.0 / 8) there in
    let count : 8 * length words ≡ b.0 = ap (λ (k : ℕ). 8 * k) (words_length (b.0 / 8) there) ∙ eight in
    let spelled : words_text words ≡ take b.0 there = words_found (b.0 / 8) there (IsBytes-drop (at + 16) bytes fits) (omega (arith, eight, r.0, length-drop (at + 16) bytes)) ∙ ap (λ (k : ℕ). take k there) eight in
    let zeros : Has bytes (at + 12) (0 ∷ 0 ∷ 0 ∷ 0 ∷ []) = subst (λ (x : ℕ). Has bytes (at + 12) (to_le_bytes w32 x)) (eqb-true c.0 0 none.good) none.has in
    let sized : Has bytes (at + 8) (to_le_bytes w32 (8 * length words)) = subst (λ (x : ℕ). Has bytes (at + 8) (to_le_bytes w32 x)) (sym count) size.has in
    let addressed : Has bytes at (to_le_bytes w64 d.0) = subst (λ (x : ℕ). Has bytes at (to_le_bytes w64 x)) p.0 address.has in
    let front = has_both bytes at (to_le_bytes w64 d.0) (to_le_bytes w32 (8 * length words)) addressed sized in
    let header : Has bytes at (segment_head (made b.0 d.0)) = has_both bytes at (to_le_bytes w64 d.0 ++ to_le_bytes w32 (8 * length words)) (0 ∷ 0 ∷ 0 ∷ 0 ∷ []) front (subst (λ (x : ℕ). Has bytes x (0 ∷ 0 ∷ 0 ∷ 0 ∷ [])) (omega arith) zeros) in
    let whole : Has bytes at (segment_text (made b.0 d.0)) = has_both bytes at (segment_head (made b.0 d.0)) (words_text words) header (subst (Has bytes (at + 16)) (sym spelled) (has_taken bytes (at + 16) b.0 (omega (arith, r.0)))) in
    subst (HasSegment shape bytes place at) r.1 (record {
      has = whole;
      size = omega (arith, length-append (segment_head (made b.0 d.0)) (words_text words), words_size words);
      is = record {
        some = omega (arith, count, leb-true 8 b.0 q.1);
        aligned = ap (λ (x : ℕ). x % 8) (sym p.0) ∙ eqb-true (a.0 % 8) 0 address.good;
        from = p.1;
        within = omega (arith, p.2, count);
      };
      wide = words_wide (b.0 / 8) there (IsBytes-drop (at + 16) bytes fits);
    })

pub record HasSegments (shape : Shape) (bytes : List ℕ) (place at count : ℕ) (x : List Segment × ℕ) : Type 0 where
  pub has : Has bytes at (flat_map segment_text x.0)
  pub ends : x.1 ≡ at + length (flat_map segment_text x.0)
  pub count_is : length x.0 ≡ count
  pub are : AreSegments shape place x.0
  pub wide : AllByRecursion IsWideSegment x.0

segments_found : (shape : Shape) (bytes : List ℕ) (count number place at : ℕ) (x : List Segment × ℕ) → IsBytes bytes → at ≤ length bytes → segments_from shape bytes number place at count ≡ Ok x → HasSegments shape bytes place at count x
unfolding segments_from
segments_found shape bytes zero number place at x fits le e = subst (HasSegments shape bytes place at zero) (ok_is ([], at) x e) (record { has = has_nothing bytes at le; ends = omega arith; count_is = refl; are = tt; wide = tt })
segments_found shape bytes (suc count) number place at x fits le e =
    let a = bind_ok (segment_at shape bytes number place at) (λ first. segments_from shape bytes (number + 1) (segment_end first) (at + 16 + 8 * length first.words) count >>= λ others. Ok (first ∷ others.0, others.1)) x e in
    let b = bind_ok (segments_from shape bytes (number + 1) (segment_end a.0) (at + 16 + 8 * length a.0.words) count) (λ others. Ok (a.0 ∷ others.0, others.1)) x a.2 in
    let first = segment_found shape bytes number place at a.0 fits a.1 in
    let next : at + 16 + 8 * length a.0.words ≡ at + length (segment_text a.0) = omega (arith, first.size) in
    let others = segments_found shape bytes count (number + 1) (segment_end a.0) (at + 16 + 8 * length a.0.words) b.0 fits (omega (arith, next, first.has.within)) b.1 in
    let made : List Segment × ℕ = (a.0 ∷ b.0.0, b.0.1) in
    subst (HasSegments shape bytes place at (suc count)) (ok_is made x b.2) (record {
      has = has_both bytes at (segment_text a.0) (flat_map segment_text b.0.0) first.has (subst (λ (k : ℕ). Has bytes k (flat_map segment_text b.0.0)) next others.has);
      ends = omega (arith, others.ends, next, length-append (segment_text a.0) (flat_map segment_text b.0.0));
      count_is = ap suc others.count_is;
      are = (first.is, others.are);
      wide = (first.wide, others.wide);
    })

-- ---- the digest

pub record HasDigest (version : ℕ) (bytes : List ℕ) (at end : ℕ) : Type 0 where
  pub has : Has bytes at (digest_text version (take at bytes))
  pub ends : end ≡ at + length (digest_text version (take at bytes))

digest_found : (version : ℕ) (bytes : List ℕ) (at end : ℕ) → at ≤ length bytes → digest_from version bytes at ≡ Ok end → HasDigest version bytes at end
unfolding digest_from
digest_found version bytes at end le e =
    elim (cases_Bool (eqb version 2)) [
      | inl two ↦
          let body = take at bytes in
          let there = take 32 (drop at bytes) in
          let test = cond (bytes_eq there (sha256 body)) (Ok (at + 32)) (Err (faults.BadDigest at)) in
          let a = not_failed (ltb (length bytes) (at + 32)) (faults.Short (length bytes)) test end (rw two at e) in
          let b = held (bytes_eq there (sha256 body)) (faults.BadDigest at) (Ok (at + 32)) end a.1 in
          let same : there ≡ sha256 body = (bytes_eq-Decides there (sha256 body)).0 b.0 in
          let long : at + 32 ≤ length bytes = ltb-false (length bytes) (at + 32) a.0 in
          let text : digest_text version body ≡ sha256 body = rw two refl in
          let size : length there ≡ 32 = omega (arith, long, length-take 32 (drop at bytes), length-drop at bytes) in
          record {
            has = subst (Has bytes at) (same ∙ sym text) (has_taken bytes at 32 long);
            ends = omega (arith, sym (ok_is (at + 32) end b.1), size, ap length same, ap length text);
          }
      | inr one ↦
          let text : digest_text version (take at bytes) ≡ [] = rw one refl in
          let place : at ≡ end = ok_is at end (rw one at e) in
          record {
            has = subst (Has bytes at) (sym text) (has_nothing bytes at le);
            ends = omega (arith, sym place, ap length text);
          }
    ]

-- ---- the whole file

pub head_size : (version : ℕ) (shape : Shape) (segments : ℕ) → length (head_text version shape segments) ≡ 16
unfolding magic
head_size version shape segments = refl

all_found : (bytes : List ℕ) (image : Image) → IsBytes bytes → all_of bytes ≡ Ok image → IsImageText bytes image
unfolding all_of
all_found bytes image fits e =
    let made : Head → List Start → List Segment → Image = λ head starts segments. record { config = head.config; starts = starts; segments = segments } in
    let a = bind_ok (head_of bytes) (λ head. starts_from bytes 16 head.config.cores >>= λ starts. segments_from head.config bytes 0 dram_start (16 + 16 * head.config.cores) head.segments >>= λ segments. digest_from head.version bytes segments.1 >>= λ end. cond (ltb end (length bytes)) (Err (faults.Trailing end)) (Ok (made head starts segments.0))) image e in
    let head = a.0 in
    let b = bind_ok (starts_from bytes 16 head.config.cores) (λ starts. segments_from head.config bytes 0 dram_start (16 + 16 * head.config.cores) head.segments >>= λ segments. digest_from head.version bytes segments.1 >>= λ end. cond (ltb end (length bytes)) (Err (faults.Trailing end)) (Ok (made head starts segments.0))) image a.2 in
    let c = bind_ok (segments_from head.config bytes 0 dram_start (16 + 16 * head.config.cores) head.segments) (λ segments. digest_from head.version bytes segments.1 >>= λ end. cond (ltb end (length bytes)) (Err (faults.Trailing end)) (Ok (made head b.0 segments.0))) image b.2 in
    let d = bind_ok (digest_from head.version bytes c.0.1) (λ end. cond (ltb end (length bytes)) (Err (faults.Trailing end)) (Ok (made head b.0 c.0.0))) image c.2 in
    let g = guard_ok (ltb d.0 (length bytes)) (faults.Trailing d.0) (made head b.0 c.0.0) image d.2 in
    let h = head_found bytes head fits a.1 in
    let n = head_size head.version head.config head.segments in
    let ss = starts_found bytes head.config.cores 16 b.0 fits (omega (arith, n, h.has.within)) b.1 in
    let at = 16 + 16 * head.config.cores in
    let gs = segments_found head.config bytes head.segments 0 dram_start at c.0 fits (omega (arith, ss.size, ss.has.within)) c.1 in
    let counted : Has bytes 0 (head_text head.version head.config (length c.0.0)) = rw gs.count_is h.has in
    let top = head_text head.version head.config (length c.0.0) in
    let starts = flat_map start_text b.0 in
    let segments = flat_map segment_text c.0.0 in
    let size : length top ≡ 16 = head_size head.version head.config (length c.0.0) in
    let sizes : length (top ++ starts) ≡ at = omega (arith, length-append top starts, size, ss.size) in
    let two : Has bytes 0 (top ++ starts) = has_both bytes 0 top starts counted (subst (λ (k : ℕ). Has bytes k starts) (omega (arith, size)) ss.has) in
    let body : Has bytes 0 (top ++ starts ++ segments) = has_both bytes 0 (top ++ starts) segments two (subst (λ (k : ℕ). Has bytes k segments) (omega (arith, sizes)) gs.has) in
    let reach : length (top ++ starts ++ segments) ≡ c.0.1 = omega (arith, length-append (top ++ starts) segments, sizes, gs.ends) in
    let is_body : take c.0.1 bytes ≡ top ++ starts ++ segments = ap (λ (k : ℕ). take k bytes) (sym reach) ∙ has_text bytes 0 (top ++ starts ++ segments) body in
    let digest = digest_found head.version bytes c.0.1 d.0 (omega (arith, reach, body.within)) d.1 in
    let last : Has bytes (0 + length (top ++ starts ++ segments)) (digest_text head.version (top ++ starts ++ segments)) =
    subst (λ (k : ℕ). Has bytes k (digest_text head.version (top ++ starts ++ segments))) (omega (arith, reach)) (subst (λ (t : List ℕ). Has bytes c.0.1 (digest_text head.version t)) is_body digest.has) in
    let text = top ++ starts ++ segments ++ digest_text head.version (top ++ starts ++ segments) in
    let whole : Has bytes 0 text = has_both bytes 0 (top ++ starts ++ segments) (digest_text head.version (top ++ starts ++ segments)) body last in
    let ends : length text ≡ d.0 = omega (arith, length-append (top ++ starts ++ segments) (digest_text head.version (top ++ starts ++ segments)), reach, digest.ends, ap (λ (t : List ℕ). length (digest_text head.version t)) is_body) in
    let all : bytes ≡ text = sym (take_all (length text) bytes (omega (arith, ends, ltb-false d.0 (length bytes) g.0))) ∙ has_text bytes 0 text whole in
    subst (IsImageText bytes) g.1 (record {
      version = head.version;
      is_version = h.version;
      is_image = record { shape = h.shape; cores = h.cores; starts = ss.count_is; aligned = ss.aligned; few = omega (arith, gs.count_is, h.few); segments = gs.are };
      wide_starts = ss.wide;
      wide_segments = gs.wide;
      text_is = all;
    })

pub image_found : (bytes : List ℕ) (image : Image) → IsBytes bytes → image_of bytes ≡ Ok image → IsImageText bytes image
unfolding image_of
image_found bytes image fits e = all_found bytes image fits (not_failed (ltb limit (length bytes)) faults.TooLong (all_of bytes) image e).1
