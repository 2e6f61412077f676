-- Numbers in two's complement, and the parts in which the formats hold them.
use Rattle.std.proofs.Common.{◌≡◌, ℕ, ℤ, pos, negsuc, ◌-ℤ◌, unsigned_abs, ◌+◌, ◌-◌, ◌*◌, ◌/◌, ◌%◌, ◌^◌, ◌<◌, ◌≤◌, ap, le-ltb, lt-ltb, inl, inr, arith}
use Rattle.std.proofs.lemmas.Int.{ints}
use Rattle.std.proofs.lemmas.Bool.{cases_lt, cond-true, cond-false}
use Rattle.rv_decode.specs.Formats.{signed_reading}

pub reading_low : (half bits : ℕ) → bits < half → signed_reading half bits ≡ pos bits
reading_low half bits h = cond-true _ _ _ (lt-ltb bits half h)

pub reading_high : (half bits : ℕ) → half ≤ bits → signed_reading half bits ≡ pos bits -ℤ pos (2 * half)
reading_high half bits h = cond-false _ _ _ (le-ltb bits half h)

-- the distance from 0 of what bits say
abs_low : (half bits : ℕ) → bits < half → unsigned_abs (signed_reading half bits) ≡ bits
abs_low half bits h = ap unsigned_abs (reading_low half bits h)

below_zero : (half bits : ℕ) → half ≤ bits → bits < 2 * half → signed_reading half bits ≡ negsuc (2 * half - bits - 1)
below_zero half bits h fits = let p = reading_high half bits h in omega (arith, ints, p)

abs_high : (half bits : ℕ) → half ≤ bits → bits < 2 * half → bits + unsigned_abs (signed_reading half bits) ≡ 2 * half
abs_high half bits h fits = let p = ap unsigned_abs (below_zero half bits h fits) in omega (arith, p)

-- a multiple's bits are a multiple too
pub even_bits : (half k bits : ℕ) (imm : ℤ) → half ≡ 2 * k → bits < 2 * half → signed_reading half bits ≡ imm → unsigned_abs imm % 2 ≡ 0 → bits % 2 ≡ 0
even_bits half k bits imm e fits back m =
    let same = ap unsigned_abs back in
    elim (cases_lt bits half) [
      | inl l ↦ let p = abs_low half bits l in omega (arith, same, p)
      | inr l ↦ let p = abs_high half bits l fits in omega (arith, same, p)
    ]

pub upper_bits : (bits : ℕ) (imm : ℤ) → bits < 2 ^ 32 → signed_reading (2 ^ 31) bits ≡ imm → unsigned_abs imm % 4096 ≡ 0 → bits % 4096 ≡ 0
upper_bits bits imm fits back m =
    let same = ap unsigned_abs back in
    elim (cases_lt bits (2 ^ 31)) [
      | inl l ↦ let p = abs_low (2 ^ 31) bits l in omega (arith, same, p)
      | inr l ↦ let p = abs_high (2 ^ 31) bits l fits in omega (arith, same, p)
    ]

-- the parts of format B make up the bits, and those of format J
pub b_parts : (bits : ℕ) → bits < 8192 → bits % 2 ≡ 0 → bits ≡ 2 * (bits / 2 % 16) + 32 * (bits / 32 % 64) + 2048 * (bits / 2048 % 2) + 4096 * (bits / 4096)
b_parts bits fits even =
    let a : bits / 2 ≡ bits / 2 % 16 + 16 * (bits / 32) = omega arith in
    let b : bits / 32 ≡ bits / 32 % 64 + 64 * (bits / 2048) = omega arith in
    let c : bits / 2048 ≡ bits / 2048 % 2 + 2 * (bits / 4096) = omega arith in
    omega arith

pub j_parts : (bits : ℕ) → bits < 2097152 → bits % 2 ≡ 0 → bits ≡ 2 * (bits / 2 % 1024) + 2048 * (bits / 2048 % 2) + 4096 * (bits / 4096 % 256) + 1048576 * (bits / 1048576)
j_parts bits fits even =
    let a : bits / 2 ≡ bits / 2 % 1024 + 1024 * (bits / 2048) = omega arith in
    let b : bits / 2048 ≡ bits / 2048 % 2 + 2 * (bits / 4096) = omega arith in
    let c : bits / 4096 ≡ bits / 4096 % 256 + 256 * (bits / 1048576) = omega arith in
    omega arith
