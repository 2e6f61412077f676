-- The words of a measurement and its bytes undo each other. This project's own.
use Rattle.std.proofs.Common.{ℕ, ◌≡◌, ◌+◌, ◌<◌, ◌^◌, ◌≤◌, List, [], ◌∷◌, ◌++◌, length, get_or, take, drop, refl, ◌∙◌, arith}
use Rattle.std.proofs.lemmas.List.{get_or-take, get_or-drop, get_or_past, length-take, length-take-le, length-drop, take_all, take-append-drop, drop-drop}
use Rattle.std.proofs.lemmas.Nat.{from_le_bytes-to_le_bytes_8, le_bytes_8}
use Rattle.std.specs.Int.{w64, from_le_bytes, to_le_bytes}
use Rattle.mon_model.specs.Measure.{to_words, to_bytes}

-- four words are the words of their bytes
pub to_words-to_bytes : (w : List ℕ) → length w ≡ 4 → ((i : ℕ) → get_or w i 0 < 2 ^ 64) → to_words (to_bytes w) ≡ w
to_words-to_bytes [] len fits = absurd (omega arith)
to_words-to_bytes (a ∷ []) len fits = absurd (omega arith)
to_words-to_bytes (a ∷ b ∷ []) len fits = absurd (omega arith)
to_words-to_bytes (a ∷ b ∷ c ∷ []) len fits = absurd (omega arith)
to_words-to_bytes (a ∷ b ∷ c ∷ d ∷ []) len fits =
    let first : from_le_bytes w64 (to_le_bytes w64 a) ≡ a = from_le_bytes-to_le_bytes_8 a (fits 0) in
    let second : from_le_bytes w64 (to_le_bytes w64 b) ≡ b = from_le_bytes-to_le_bytes_8 b (fits 1) in
    let third : from_le_bytes w64 (to_le_bytes w64 c) ≡ c = from_le_bytes-to_le_bytes_8 c (fits 2) in
    let fourth : from_le_bytes w64 (to_le_bytes w64 d) ≡ d = from_le_bytes-to_le_bytes_8 d (fits 3) in
    cc
to_words-to_bytes (a ∷ b ∷ c ∷ d ∷ e ∷ rest) len fits = absurd (omega arith)

-- a byte of eight is a byte
below_at : (m : List ℕ) (n : ℕ) → ((i : ℕ) → get_or m i 0 < 256) → (i : ℕ) → get_or (take 8 (drop n m)) i 0 < 256
below_at m n fits i =
    grind (arith, get_or-take 8 (drop n m) i 0, get_or-drop n m i 0, fits (n + i), get_or_past (take 8 (drop n m)) i 0, length-take 8 (drop n m))

-- eight bytes are the bytes of the number that they read as
bytes_at : (m : List ℕ) (n : ℕ) → n + 8 ≤ length m → ((i : ℕ) → get_or m i 0 < 256) → to_le_bytes w64 (from_le_bytes w64 (take 8 (drop n m))) ≡ take 8 (drop n m)
bytes_at m n within fits =
    le_bytes_8 (take 8 (drop n m)) (from_le_bytes w64 (take 8 (drop n m))) (length-take-le 8 (drop n m) (omega (arith, length-drop n m))) (below_at m n fits) refl

-- the bytes of four words, where those of each are known
joined : (a b c d : ℕ) (p q r s : List ℕ) → to_le_bytes w64 a ≡ p → to_le_bytes w64 b ≡ q → to_le_bytes w64 c ≡ r → to_le_bytes w64 d ≡ s → to_bytes (a ∷ b ∷ c ∷ d ∷ []) ≡ p ++ (q ++ (r ++ s))
joined a b c d p q r s first second third fourth = rw (← first, ← second, ← third, ← fourth) refl

-- the eight bytes from place n, and those behind them
next : (m : List ℕ) (n : ℕ) → take 8 (drop n m) ++ drop (n + 8) m ≡ drop n m
next m n = rw (← drop-drop 8 n m) (take-append-drop 8 (drop n m))

-- thirty-two bytes are four times eight
quarters : (m : List ℕ) → length m ≡ 32 → take 8 m ++ (take 8 (drop 8 m) ++ (take 8 (drop 16 m) ++ take 8 (drop 24 m))) ≡ m
quarters m len =
    let first = next m 0 in
    let second = next m 8 in
    let third = next m 16 in
    let last = take_all 8 (drop 24 m) (omega (arith, length-drop 24 m)) in
    cc

-- thirty-two bytes are the bytes of their words
pub to_bytes-to_words : (m : List ℕ) → length m ≡ 32 → ((i : ℕ) → get_or m i 0 < 256) → to_bytes (to_words m) ≡ m
to_bytes-to_words m len fits =
    joined (from_le_bytes w64 (take 8 m)) (from_le_bytes w64 (take 8 (drop 8 m))) (from_le_bytes w64 (take 8 (drop 16 m))) (from_le_bytes w64 (take 8 (drop 24 m)))
    (take 8 m) (take 8 (drop 8 m)) (take 8 (drop 16 m)) (take 8 (drop 24 m))
    (bytes_at m 0 (omega arith) fits) (bytes_at m 8 (omega arith) fits) (bytes_at m 16 (omega arith) fits) (bytes_at m 24 (omega arith) fits)
    ∙ quarters m len
