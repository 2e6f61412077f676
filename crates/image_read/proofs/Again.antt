-- What is the text of an image is read as that image.
use Rattle.std.proofs.Common.{◌≡◌, ◌⊎◌, ℕ, ◌+◌, ◌*◌, ◌/◌, ◌%◌, ◌^◌, ◌<◌, ◌≤◌, true, leb, eqb, ◌&&◌, ◌||◌, List, [], ◌∷◌, ◌++◌, length, take, drop, Ok, refl, sym, ap, subst, ◌∙◌, append_assoc, arith, inl, inr, length-append}
use Rattle.std.specs.List.{flat_map, AllByRecursion}
use Rattle.std.specs.Int.{w16, w32, w64, from_le_bytes, to_le_bytes}
use Rattle.std.proofs.lemmas.Bool.{cases_Bool, and_parts, and_from, eq-eqb, leb-true, le-leb, le-ltb}
use Rattle.std.proofs.lemmas.List.{append-nil, take_at, drop_at}
use Rattle.std.proofs.lemmas.Slice.Eq.{bytes_eq-Decides}
use Rattle.sha2.specs.Sha256.{sha256}
use Rattle.sha2.proofs.Facts256.{length-sha256}
use Rattle.mon_types.specs.Shape.{Shape, is_core_count, is_region_count, is_page_count, is_shift, is_shape, page_total}
use Rattle.mon_types.specs.declared.image.Image.{Image}
use Rattle.mon_types.specs.declared.image.Segment.{Segment}
use Rattle.mon_types.specs.declared.image.Start.{Start}
use Rattle.dram_map.specs.Addresses.{dram_start, dram_end}
use Rattle.image_read.specs.Image.{log2_of, magic, head_text, start_text, words_text, segment_head, segment_text, digest_text, most_cores, segment_end, IsSegment, AreSegments}
use Rattle.image_read.specs.Grammar.{IsWideStart, IsWideSegment, IsImageText}
use Rattle.image_read.specs.Reading.{limit, byte_at, is_few, is_zero, is_start, is_place, is_size, version_of, shape_at, head_of, start_at, starts_from, words_of, placed_at, segment_at, segments_from, digest_from, all_of, image_of}
use Rattle.image_read.proofs.Shapes.{region_log, page_log, shift_log, few_cores}
use Rattle.image_read.proofs.ReadFields.{Has, has_front, has_behind, has_text, byte_is, wide16, wide32, wide64, number_is, field_is, byte_in_is}
use Rattle.image_read.proofs.ReadLoops.{segment_made}
use Rattle.image_read.proofs.Short.{most_in_all}
use Rattle.image_read.proofs.Found.{shape_text}
use Rattle.image_read.proofs.FoundParts.{words_size, head_size}

-- ---- the first 16 bytes

is_version : (v : ℕ) → (v ≡ 1) ⊎ (v ≡ 2) → (eqb v 1 || eqb v 2) ≡ true
is_version v (inl e) = rw e refl
is_version v (inr e) = rw e refl

version_again : (bytes : List ℕ) (v : ℕ) → Has bytes 0 (magic ++ v ∷ []) → (v ≡ 1) ⊎ (v ≡ 2) → version_of bytes ≡ Ok v
unfolding version_of magic
version_again bytes v h is =
    let front : take 7 bytes ≡ magic = has_text bytes 0 magic (has_front bytes 0 magic (v ∷ []) h) in
    let byte : byte_at bytes 7 ≡ Ok v = byte_is bytes 7 v (has_behind bytes 0 magic (v ∷ []) h) in
    rw (le-ltb (length bytes) 7 (omega (arith, h.within)), (bytes_eq-Decides (take 7 bytes) magic).1 front, byte, is_version v is) refl

shape_again : (version : ℕ) (bytes : List ℕ) (s : Shape) → Has bytes 8 (shape_text s) → is_shape s ≡ true → s.cores ≤ most_cores version → shape_at version bytes ≡ Ok s
unfolding shape_at
shape_again version bytes s h is few =
    let rest1 = has_behind bytes 8 (s.cores ∷ []) (log2_of s.regions ∷ log2_of s.pages ∷ s.shift ∷ []) h in
    let rest2 = has_behind bytes 9 (log2_of s.regions ∷ []) (log2_of s.pages ∷ s.shift ∷ []) rest1 in
    let rest3 = has_behind bytes 10 (log2_of s.pages ∷ []) (s.shift ∷ []) rest2 in
    let a = and_parts (is_core_count s.cores && is_region_count s.regions && is_page_count s.pages) (is_shift s.pages s.shift) is in
    let b = and_parts (is_core_count s.cores && is_region_count s.regions) (is_page_count s.pages) a.0 in
    let c = and_parts (is_core_count s.cores) (is_region_count s.regions) b.0 in
    let d = and_parts (leb 1 s.cores) (leb s.cores 16) c.0 in
    let r = region_log s.regions c.1 in
    let p = page_log s.pages b.1 in
    let shift = shift_log s.pages s.shift b.1 a.1 in
    rw (
      byte_in_is 1 (most_cores version) bytes 8 s.cores (has_front bytes 8 (s.cores ∷ []) (log2_of s.regions ∷ log2_of s.pages ∷ s.shift ∷ []) h) (leb-true 1 s.cores d.0) few,
      byte_in_is 1 6 bytes 9 (log2_of s.regions) (has_front bytes 9 (log2_of s.regions ∷ []) (log2_of s.pages ∷ s.shift ∷ []) rest1) r.least_is r.most_is,
      byte_in_is 0 4 bytes 10 (log2_of s.pages) (has_front bytes 10 (log2_of s.pages ∷ []) (s.shift ∷ []) rest2) p.least_is p.most_is,
      byte_in_is 0 (log2_of s.pages) bytes 11 s.shift rest3 (omega arith) shift,
      r.power_is,
      p.power_is,
    ) refl

head_again : (bytes : List ℕ) (version : ℕ) (s : Shape) (n : ℕ) → Has bytes 0 (head_text version s n) → (version ≡ 1) ⊎ (version ≡ 2) → is_shape s ≡ true → s.cores ≤ most_cores version → n ≤ 64
    → head_of bytes ≡ Ok (record { version = version; config = s; segments = n })
unfolding head_of magic
head_again bytes version s n h v is few most =
    let zeros = 0 ∷ 0 ∷ [] in
    let one = has_front bytes 0 (magic ++ version ∷ []) (shape_text s ++ (to_le_bytes w16 n ++ zeros)) h in
    let rest1 = has_behind bytes 0 (magic ++ version ∷ []) (shape_text s ++ (to_le_bytes w16 n ++ zeros)) h in
    let two = has_front bytes 8 (shape_text s) (to_le_bytes w16 n ++ zeros) rest1 in
    let rest2 = has_behind bytes 8 (shape_text s) (to_le_bytes w16 n ++ zeros) rest1 in
    let three = has_front bytes 12 (to_le_bytes w16 n) zeros rest2 in
    let four = has_behind bytes 12 (to_le_bytes w16 n) zeros rest2 in
    rw (
      version_again bytes version one v,
      shape_again version bytes s two is few,
      field_is w16 (2 ^ 16) wide16 is_few bytes 12 n three (omega (arith, most)) (le-leb n 64 most),
      field_is w16 (2 ^ 16) wide16 is_zero bytes 14 0 four (omega arith) refl,
    ) refl

-- ---- the starts

start_again : (bytes : List ℕ) (at : ℕ) (s : Start) → Has bytes at (start_text s) → s.pc % 4 ≡ 0 → IsWideStart s → start_at bytes at ≡ Ok s
unfolding start_at
start_again bytes at s h aligned wide =
    let pc = has_front bytes at (to_le_bytes w64 s.pc) (to_le_bytes w64 s.sp) h in
    let sp = has_behind bytes at (to_le_bytes w64 s.pc) (to_le_bytes w64 s.sp) h in
    rw (field_is w64 (2 ^ 64) wide64 is_start bytes at s.pc pc wide.0 (eq-eqb (s.pc % 4) 0 aligned), number_is w64 (2 ^ 64) wide64 bytes (at + 8) s.sp sp wide.1) refl

starts_again : (bytes : List ℕ) (at : ℕ) (ss : List Start) → Has bytes at (flat_map start_text ss) → AllByRecursion (λ s. s.pc % 4 ≡ 0) ss → AllByRecursion IsWideStart ss → starts_from bytes at (length ss) ≡ Ok ss
unfolding starts_from
starts_again bytes at [] h aligned wide = refl
starts_again bytes at (s ∷ ss) h aligned wide =
    let first = has_front bytes at (start_text s) (flat_map start_text ss) h in
    let others = has_behind bytes at (start_text s) (flat_map start_text ss) h in
    rw (start_again bytes at s first aligned.0 wide.0, starts_again bytes (at + 16) ss others aligned.1 wide.1) refl

pub starts_size : (ss : List Start) → length (flat_map start_text ss) ≡ 16 * length ss
starts_size [] = refl
starts_size (s ∷ ss) = omega (arith, starts_size ss)

-- ---- words

both_same : (a b : ℕ) (xs ys : List ℕ) → a ≡ b → xs ≡ ys → a ∷ xs ≡ b ∷ ys
both_same a b xs ys e es = cc

words_again : (words : List ℕ) (rest : List ℕ) → AllByRecursion (λ w. w < 2 ^ 64) words → words_of (length words) (words_text words ++ rest) ≡ words
unfolding words_of
words_again [] rest wide = refl
words_again (w ∷ words) rest wide =
    let grouped : words_text (w ∷ words) ++ rest ≡ to_le_bytes w64 w ++ (words_text words ++ rest) = append_assoc (to_le_bytes w64 w) (words_text words) rest in
    let first : from_le_bytes w64 (take 8 (words_text (w ∷ words) ++ rest)) ≡ w = ap (λ (t : List ℕ). from_le_bytes w64 (take 8 t)) grouped ∙ ap (from_le_bytes w64) (take_at (to_le_bytes w64 w) (words_text words ++ rest) 8 refl) ∙ wide64.again w wide.0 in
    let others : words_of (length words) (drop 8 (words_text (w ∷ words) ++ rest)) ≡ words =
    ap (λ (t : List ℕ). words_of (length words) (drop 8 t)) grouped ∙ ap (words_of (length words)) (drop_at (to_le_bytes w64 w) (words_text words ++ rest) 8 refl) ∙ words_again words rest wide.1 in
    both_same (from_le_bytes w64 (take 8 (words_text (w ∷ words) ++ rest))) w (words_of (length words) (drop 8 (words_text (w ∷ words) ++ rest))) words first others

-- ---- the segments

placed_again : (shape : Shape) (number place size address : ℕ) → dram_start ≤ address → place ≤ address → address + size ≤ dram_end shape → placed_at shape number place size address ≡ Ok address
placed_again shape number place size address from behind within =
    rw (and_from (leb dram_start address) (leb (address + size) (dram_end shape)) (le-leb dram_start address from) (le-leb (address + size) (dram_end shape) within), le-ltb address place behind) refl

segment_again : (shape : Shape) (bytes : List ℕ) (number place at : ℕ) (s : Segment) → page_total shape ≤ 1024 → dram_start ≤ place → Has bytes at (segment_text s) → IsSegment shape place s → IsWideSegment s → segment_at shape bytes number place at ≡ Ok s
segment_again shape bytes number place at s few from h is wide =
    let size = 8 * length s.words in
    let header = has_front bytes at (segment_head s) (words_text s.words) h in
    let words = has_behind bytes at (segment_head s) (words_text s.words) h in
    let two = has_front bytes at (to_le_bytes w64 s.address ++ to_le_bytes w32 size) (0 ∷ 0 ∷ 0 ∷ 0 ∷ []) header in
    let zeros : Has bytes (at + 12) (0 ∷ 0 ∷ 0 ∷ 0 ∷ []) = has_behind bytes at (to_le_bytes w64 s.address ++ to_le_bytes w32 size) (0 ∷ 0 ∷ 0 ∷ 0 ∷ []) header in
    let address = has_front bytes at (to_le_bytes w64 s.address) (to_le_bytes w32 size) two in
    let sized : Has bytes (at + 8) (to_le_bytes w32 size) = has_behind bytes at (to_le_bytes w64 s.address) (to_le_bytes w32 size) two in
    let there : s.words ≡ words_of (size / 8) (drop (at + 16) bytes) =
    sym (words_again s.words words.rest wide) ∙ ap (words_of (length s.words)) (sym words.here) ∙ ap (λ (k : ℕ). words_of k (drop (at + 16) bytes)) (omega arith) in
    segment_made shape bytes number place at s.address size 0 s.address s.words
    (field_is w64 (2 ^ 64) wide64 is_place bytes at s.address address (omega (arith, is.within, few)) (eq-eqb (s.address % 8) 0 is.aligned))
    (field_is w32 (2 ^ 32) wide32 is_size bytes (at + 8) size sized (omega (arith, is.within, is.from, from, few)) (and_from (eqb (size % 8) 0) (leb 8 size) (eq-eqb (size % 8) 0 (omega arith)) (le-leb 8 size (omega (arith, is.some)))))
    (field_is w32 (2 ^ 32) wide32 is_zero bytes (at + 12) 0 zeros (omega arith) refl)
    (placed_again shape number place size s.address (omega (arith, from, is.from)) is.from is.within)
    (omega (arith, words.within, words_size s.words)) there

segments_again : (shape : Shape) (bytes : List ℕ) (number place at : ℕ) (ss : List Segment) → page_total shape ≤ 1024 → dram_start ≤ place → Has bytes at (flat_map segment_text ss) → AreSegments shape place ss → AllByRecursion IsWideSegment ss
    → segments_from shape bytes number place at (length ss) ≡ Ok (ss, at + length (flat_map segment_text ss))
unfolding segments_from
segments_again shape bytes number place at [] few from h are wide = ap (λ (k : ℕ). Ok ([], k)) (omega arith)
segments_again shape bytes number place at (s ∷ ss) few from h are wide =
    let first = has_front bytes at (segment_text s) (flat_map segment_text ss) h in
    let size : at + 16 + 8 * length s.words ≡ at + length (segment_text s) = omega (arith, words_size s.words) in
    let others : Has bytes (at + 16 + 8 * length s.words) (flat_map segment_text ss) = subst (λ (k : ℕ). Has bytes k (flat_map segment_text ss)) (sym size) (has_behind bytes at (segment_text s) (flat_map segment_text ss) h) in
    let ends : at + 16 + 8 * length s.words + length (flat_map segment_text ss) ≡ at + length (flat_map segment_text (s ∷ ss)) = omega (arith, size, length-append (segment_text s) (flat_map segment_text ss)) in
    rw (
      segment_again shape bytes number place at s few from first are.0 wide.0,
      segments_again shape bytes (number + 1) (segment_end s) (at + 16 + 8 * length s.words) ss few (omega (arith, from, are.0.from)) others are.1 wide.1,
    )
    (ap (λ (k : ℕ). Ok (s ∷ ss, k)) ends)

segments_size : (shape : Shape) (place : ℕ) (ss : List Segment) → AreSegments shape place ss → place ≤ dram_end shape → length (flat_map segment_text ss) + place ≤ 16 * length ss + dram_end shape
segments_size shape place [] are le = omega (arith, le)
segments_size shape place (s ∷ ss) are le = omega (arith, segments_size shape (segment_end s) ss are.1 are.0.within, are.0.from, words_size s.words, length-append (segment_text s) (flat_map segment_text ss), length-append (segment_head s) (words_text s.words))

-- ---- the digest

digest_again : (version : ℕ) (bytes : List ℕ) (at : ℕ) → Has bytes at (digest_text version (take at bytes)) → digest_from version bytes at ≡ Ok (at + length (digest_text version (take at bytes)))
unfolding digest_from
digest_again version bytes at h =
    elim (cases_Bool (eqb version 2)) [
      | inl two ↦
          let body = take at bytes in
          let text : digest_text version body ≡ sha256 body = rw two refl in
          let size : length (digest_text version body) ≡ 32 = ap length text ∙ length-sha256 body in
          let there : take 32 (drop at bytes) ≡ sha256 body = ap (λ (k : ℕ). take k (drop at bytes)) (sym size) ∙ has_text bytes at (digest_text version body) h ∙ text in
          rw (two, le-ltb (length bytes) (at + 32) (omega (arith, h.within, size)), (bytes_eq-Decides (take 32 (drop at bytes)) (sha256 body)).1 there) (ap (λ (k : ℕ). Ok (at + k)) (sym (length-sha256 body)))
      | inr one ↦ rw one (ap (λ (k : ℕ). Ok k) (omega arith))
    ]

digest_size : (version : ℕ) (body : List ℕ) → length (digest_text version body) ≤ 32
digest_size version body =
    elim (cases_Bool (eqb version 2)) [
      | inl two ↦ rw two (omega (arith, length-sha256 body))
      | inr one ↦ rw one (omega arith)
    ]

-- ---- the whole file

pub image_again : (bytes : List ℕ) (image : Image) → IsImageText bytes image → image_of bytes ≡ Ok image
unfolding image_of all_of
image_again bytes image h =
    let v = h.version in
    let is = h.is_image in
    let shape = image.config in
    let count = length image.segments in
    let top = head_text v shape count in
    let starts = flat_map start_text image.starts in
    let segments = flat_map segment_text image.segments in
    let body = top ++ starts ++ segments in
    let digest = digest_text v body in
    let at = 16 + 16 * shape.cores in
    let few = most_in_all shape is.shape in
    let whole : Has bytes 0 (body ++ digest) = record { rest = []; within = omega (arith, ap length h.text_is); here = h.text_is ∙ sym (append-nil (body ++ digest)) } in
    let has_body = has_front bytes 0 body digest whole in
    let has_digest = has_behind bytes 0 body digest whole in
    let has_two = has_front bytes 0 (top ++ starts) segments has_body in
    let has_segments = has_behind bytes 0 (top ++ starts) segments has_body in
    let has_top = has_front bytes 0 top starts has_two in
    let has_starts = has_behind bytes 0 top starts has_two in
    let top_size = head_size v shape count in
    let two_size : length (top ++ starts) ≡ at = omega (arith, length-append top starts, top_size, starts_size image.starts, is.starts) in
    let end = at + length segments in
    let body_size : length body ≡ end = omega (arith, length-append (top ++ starts) segments, two_size) in
    let head : head_of bytes ≡ Ok (record { version = v; config = shape; segments = count }) = head_again bytes v shape count has_top h.is_version is.shape is.cores is.few in
    let read_starts : starts_from bytes 16 shape.cores ≡ Ok image.starts =
    ap (starts_from bytes 16) (sym is.starts) ∙ starts_again bytes 16 image.starts (subst (λ (k : ℕ). Has bytes k starts) (omega (arith, top_size)) has_starts) is.aligned h.wide_starts in
    let read_segments : segments_from shape bytes 0 dram_start at count ≡ Ok (image.segments, end) =
    segments_again shape bytes 0 dram_start at image.segments few (omega arith) (subst (λ (k : ℕ). Has bytes k segments) (omega (arith, two_size)) has_segments) is.segments h.wide_segments in
    let is_body : take end bytes ≡ body = ap (λ (k : ℕ). take k bytes) (sym body_size) ∙ has_text bytes 0 body has_body in
    let digested : Has bytes end (digest_text v (take end bytes)) = subst (λ (t : List ℕ). Has bytes end (digest_text v t)) (sym is_body) (subst (λ (k : ℕ). Has bytes k digest) (omega (arith, body_size)) has_digest) in
    let read_digest : digest_from v bytes end ≡ Ok (length bytes) =
    digest_again v bytes end digested ∙ ap (λ (k : ℕ). Ok k) (omega (arith, ap (λ (t : List ℕ). length (digest_text v t)) is_body, ap length h.text_is, length-append body digest, body_size)) in
    let short : length bytes ≤ limit = omega (arith, ap length h.text_is, length-append body digest, body_size, digest_size v body, is.few, few, few_cores v, is.cores, segments_size shape dram_start image.segments is.segments (omega arith)) in
    rw (le-ltb limit (length bytes) short, head, read_starts, read_segments, read_digest, le-ltb (length bytes) (length bytes) (omega arith)) refl
