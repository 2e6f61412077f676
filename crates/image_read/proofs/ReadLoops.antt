-- Parts that are read one after the other, as loops do.
use Rattle.std.proofs.Common.{◌≡◌, ℕ, zero, suc, ◌-◌, ◌+◌, ◌*◌, ◌/◌, ◌≤◌, ◌<◌, List, [], ◌∷◌, ◌++◌, length, take, drop, Result, Ok, Err, refl, sym, ap, ◌∙◌, append_assoc, arith}
use Rattle.std.specs.Int.{w32, w64, from_le_bytes}
use Rattle.std.proofs.lemmas.List.{append-nil, drop-drop, drop-take, take-take, get_or-take}
use Rattle.byteorder.specs.Endian.{little_number, IsRead}
use Rattle.mon_types.specs.Shape.{Shape}
use Rattle.mon_types.specs.declared.image.Segment.{Segment}
use Rattle.mon_types.specs.declared.image.Start.{Start}
use Rattle.reader_answers.specs.declared.errors.ParseError.{ParseError}
use Rattle.reader_answers.specs.declared.errors.ParseError.TheVariants as errors
use Rattle.reader_answers.specs.Steps.{◌>>=◌}
use Rattle.reader_answers.specs.Answers.{Fails}
use Rattle.image_read.specs.declared.fault.ImageFault.{ImageFault}
use Rattle.image_read.specs.Image.{segment_end}
use Rattle.image_read.specs.Reading.{is_place, is_size, is_zero, field_at, start_at, starts_from, words_of, placed_at, segment_at, segments_from}
use Rattle.image_read.proofs.ReadFields.{read_to_is}

-- ---- starts

-- the starts that were read, and behind them those that are still read
abbrev pub behind : List Start → Result (List Start) ImageFault → Result (List Start) ImageFault
behind front read = read >>= λ more. Ok (front ++ more)

regroup : (front : List Start) (s : Start) (read : Result (List Start) ImageFault) → behind front (read >>= λ others. Ok (s ∷ others)) ≡ behind (front ++ s ∷ []) read
regroup front s (Ok others) = ap (λ (x : List Start). Ok x) (sym (append_assoc front (s ∷ []) others))
regroup front s (Err fault) = refl

pub start_read : (front grown : List Start) (bytes : List ℕ) (at cores i : ℕ) (s : Start) (total : Result (List Start) ImageFault) → i < cores → start_at bytes at ≡ Ok s → grown ≡ front ++ s ∷ []
    → behind front (starts_from bytes at (cores - i)) ≡ total → behind grown (starts_from bytes (at + 16) (cores - (i + 1))) ≡ total
unfolding starts_from
start_read front grown bytes at cores i s total lt h g so_far =
    let k : cores - i ≡ suc (cores - (i + 1)) = omega arith in
    let one : behind front (starts_from bytes at (cores - i)) ≡ behind (front ++ s ∷ []) (starts_from bytes (at + 16) (cores - (i + 1))) = rw (k, h) (regroup front s (starts_from bytes (at + 16) (cores - (i + 1)))) in
    rw g (sym one ∙ so_far)

pub start_fails : (front : List Start) (bytes : List ℕ) (at cores i : ℕ) (fault : ImageFault) (total : Result (List Start) ImageFault) → i < cores → start_at bytes at ≡ Err fault
    → behind front (starts_from bytes at (cores - i)) ≡ total → total ≡ Err fault
unfolding starts_from
start_fails front bytes at cores i fault total lt h so_far =
    let k : cores - i ≡ suc (cores - (i + 1)) = omega arith in
    let one : behind front (starts_from bytes at (cores - i)) ≡ Err fault = rw (k, h) refl in
    sym so_far ∙ one

pub starts_read : (front : List Start) (bytes : List ℕ) (at cores i : ℕ) (total : Result (List Start) ImageFault) → cores ≤ i → behind front (starts_from bytes at (cores - i)) ≡ total → total ≡ Ok front
unfolding starts_from
starts_read front bytes at cores i total le so_far =
    let k : cores - i ≡ 0 = omega arith in
    let one : behind front (starts_from bytes at (cores - i)) ≡ Ok front = rw k (ap (λ (x : List Start). Ok x) (append-nil front)) in
    sym so_far ∙ one

-- ---- words

low_first : (bytes : List ℕ) → little_number 8 bytes ≡ from_le_bytes w64 (take 8 bytes)
low_first bytes = grind (arith, get_or-take)

pub words_read : (words : List ℕ) (bytes : List ℕ) → IsRead little_number 8 bytes words → words ≡ words_of (length words) bytes
unfolding words_of
words_read [] bytes h = refl
words_read (w ∷ words) bytes h =
    let first : w ≡ from_le_bytes w64 (take 8 bytes) = h 0 (omega arith) ∙ low_first bytes in
    let others : IsRead little_number 8 (drop 8 bytes) words = λ k lt. h (suc k) (omega (arith, lt)) ∙ ap (little_number 8) (ap (λ (n : ℕ). drop n bytes) (omega arith) ∙ sym (drop-drop (8 * k) 8 bytes)) in
    rw (← first) (ap (λ (x : List ℕ). w ∷ x) (words_read words (drop 8 bytes) others))

-- words that stand in the first bytes are those of all the bytes
pub words_cut : (count n : ℕ) (bytes : List ℕ) → 8 * count ≤ n → words_of count (take n bytes) ≡ words_of count bytes
unfolding words_of
words_cut zero n bytes le = refl
words_cut (suc count) n bytes le =
    let m : n ≡ 8 + (n - 8) = omega (arith, le) in
    let first : take 8 (take n bytes) ≡ take 8 bytes = take-take 8 n bytes (omega (arith, le)) in
    let behind_it : drop 8 (take n bytes) ≡ take (n - 8) (drop 8 bytes) = ap (λ (k : ℕ). drop 8 (take k bytes)) m ∙ drop-take 8 (n - 8) bytes in
    rw (first, behind_it, words_cut count (n - 8) (drop 8 bytes) (omega (arith, le))) refl

pub words_length : (count : ℕ) (bytes : List ℕ) → length (words_of count bytes) ≡ count
unfolding words_of
words_length zero bytes = refl
words_length (suc count) bytes = ap suc (words_length count (drop 8 bytes))

-- ---- segments

pub segment_made : (shape : Shape) (bytes : List ℕ) (number place at address size none placed : ℕ) (words : List ℕ) → field_at w64 is_place bytes at ≡ Ok address → field_at w32 is_size bytes (at + 8) ≡ Ok size → field_at w32 is_zero bytes (at + 12) ≡ Ok none
    → placed_at shape number place size address ≡ Ok placed → at + 16 + size ≤ length bytes → words ≡ words_of (size / 8) (drop (at + 16) bytes)
    → segment_at shape bytes number place at ≡ Ok (record { address = placed; words = words })
unfolding segment_at
segment_made shape bytes number place at address size none placed words a s z p le w =
    rw (a, s, z, p) (read_to_is (at + 16 + size) bytes (record { address = placed; words = words_of (size / 8) (drop (at + 16) bytes) }) le ∙ ap (λ (x : List ℕ). Ok (record { address = placed; words = x })) (sym w))

-- the segments that were read, and behind them those that are still read
abbrev pub behind_segments : List Segment → Result (List Segment × ℕ) ImageFault → Result (List Segment × ℕ) ImageFault
behind_segments front read = read >>= λ more. Ok (front ++ more.0, more.1)

regroup_segments : (front : List Segment) (s : Segment) (read : Result (List Segment × ℕ) ImageFault) → behind_segments front (read >>= λ others. Ok (s ∷ others.0, others.1)) ≡ behind_segments (front ++ s ∷ []) read
regroup_segments front s (Ok others) = ap (λ (x : List Segment). Ok (x, others.1)) (sym (append_assoc front (s ∷ []) others.0))
regroup_segments front s (Err fault) = refl

pub segment_read : (shape : Shape) (bytes : List ℕ) (front grown : List Segment) (place at after place_after count i : ℕ) (s : Segment) (total : Result (List Segment × ℕ) ImageFault) → i < count → segment_at shape bytes i place at ≡ Ok s
    → grown ≡ front ++ s ∷ [] → place_after ≡ segment_end s → after ≡ at + 16 + 8 * length s.words
    → behind_segments front (segments_from shape bytes i place at (count - i)) ≡ total → behind_segments grown (segments_from shape bytes (i + 1) place_after after (count - (i + 1))) ≡ total
unfolding segments_from
segment_read shape bytes front grown place at after place_after count i s total lt h g p a so_far =
    let k : count - i ≡ suc (count - (i + 1)) = omega arith in
    let left = segments_from shape bytes (i + 1) (segment_end s) (at + 16 + 8 * length s.words) (count - (i + 1)) in
    let one : behind_segments front (segments_from shape bytes i place at (count - i)) ≡ behind_segments (front ++ s ∷ []) left = rw (k, h) (regroup_segments front s left) in
    rw (g, p, a) (sym one ∙ so_far)

pub segment_fails : (e : ParseError ImageFault) (shape : Shape) (bytes : List ℕ) (front : List Segment) (place at count i : ℕ) (total : Result (List Segment × ℕ) ImageFault) → i < count → Fails e (segment_at shape bytes i place at)
    → behind_segments front (segments_from shape bytes i place at (count - i)) ≡ total → Fails e total
unfolding segments_from
segment_fails errors.Memory shape bytes front place at count i total lt h so_far = tt
segment_fails (errors.Fault fault) shape bytes front place at count i total lt h so_far =
    let k : count - i ≡ suc (count - (i + 1)) = omega arith in
    let one : behind_segments front (segments_from shape bytes i place at (count - i)) ≡ Err fault = rw (k, h) refl in
    sym so_far ∙ one

pub segments_read : (shape : Shape) (bytes : List ℕ) (front : List Segment) (place at count i : ℕ) (total : Result (List Segment × ℕ) ImageFault) → count ≤ i
    → behind_segments front (segments_from shape bytes i place at (count - i)) ≡ total → total ≡ Ok (front, at)
unfolding segments_from
segments_read shape bytes front place at count i total le so_far =
    let k : count - i ≡ 0 = omega arith in
    let one : behind_segments front (segments_from shape bytes i place at (count - i)) ≡ Ok (front, at) = rw k (ap (λ (x : List Segment). Ok (x, at)) (append-nil front)) in
    sym so_far ∙ one
