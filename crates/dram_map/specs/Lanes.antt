-- The bytes of a word that an access of fewer bytes reads and writes: byte k of a word is the one at the
-- word's address plus k, the lowest first, as the little-endian memory of the RISC-V Unprivileged ISA, "Load
-- and Store Instructions", has them.
use Rattle.std.specs.Prelude.{◌≡◌, ℕ, ◌+◌, ◌-◌, ◌*◌, ◌/◌, ◌%◌, ◌^◌, ◌<◌, Bool, ◌==◌, ◌||◌, ◌&&◌, nat_lt, nat_le, if◌then◌else◌}

-- an access has 1, 2, 4 or 8 bytes
abbrev pub is_access_size : ℕ → Bool
is_access_size size = size == 1 || size == 2 || size == 4 || size == 8

-- whether so many bytes from byte `at` of a word on are a lane: they lie in the word, aligned to their size
abbrev pub is_lane : ℕ → ℕ → Bool
is_lane at size = nat_lt at 8 && is_access_size size && at % size == 0

-- the number that the first bytes of a word hold, so many of them
abbrev pub low_bytes : ℕ → ℕ → ℕ
low_bytes word count = word % 2 ^ (8 * count)

-- the number that the other bytes hold
abbrev pub high_bytes : ℕ → ℕ → ℕ
high_bytes word count = word / 2 ^ (8 * count)

-- the number that the bytes of a lane hold
abbrev pub taken : ℕ → ℕ → ℕ → ℕ
taken word at size = low_bytes (high_bytes word at) size

-- a word whose lane holds the low bytes of a value: the bytes above the lane, those of the value, and the
-- bytes below the lane
abbrev pub with_lane : ℕ → ℕ → ℕ → ℕ → ℕ
with_lane word at size value =
    let above = high_bytes (high_bytes word at) size in
    (above * 2 ^ (8 * size) + low_bytes value size) * 2 ^ (8 * at) + low_bytes word at

-- ---- the same byte by byte

-- byte k of a word
abbrev pub byte_of : ℕ → ℕ → ℕ
byte_of word k = word / 2 ^ (8 * k) % 256

-- what is taken has the bytes of the lane, and zeros above
pub record TakesBytes (word at size result : ℕ) : Type 0 where
  pub lane : (k : ℕ) → k < size → byte_of result k ≡ byte_of word (at + k)
  pub above : result < 2 ^ (8 * size)

-- what is put has the low bytes of the value in the lane, and the word's bytes elsewhere
pub record PutsBytes (word at size value result : ℕ) : Type 0 where
  pub bytes : (k : ℕ) → k < 8
      → byte_of result k ≡ (if nat_le at k && nat_lt k (at + size) then byte_of value (k - at) else byte_of word k)
  pub fits : result < 2 ^ 64
