-- Arithmetic of lanes.
use Rattle.std.proofs.Common.{◌≡◌, ℕ, ◌+◌, ◌-◌, ◌*◌, ◌/◌, ◌%◌, ◌^◌, ◌<◌, ◌≤◌, true, cond, ◌&&◌, nat_lt, nat_le, sym, ap, ◌∙◌, ◌⊎◌, inl, inr, arith}
use Rattle.std.proofs.lemmas.Bool.{cases_lt, lt-ltb, le-ltb, lt-leb, le-leb}
use Rattle.std.proofs.lemmas.Bool.Decides.{nat_tests}
use Rattle.std.proofs.Math.Pow.{mod-mod-pow}
use Rattle.std.proofs.Math.Nat.{add-mul, mul_comm}
use Rattle.std.proofs.lemmas.Nat.{pow_pos, pow-add, pow_below, shr-shr, shr_high, mod_low, field_of, shr_split, shr_below, shl_below, mul-add-lt, mod_below}
use Rattle.dram_map.specs.Lanes.{is_lane, low_bytes, high_bytes, taken, with_lane, byte_of, TakesBytes, PutsBytes}

-- a lane ends within the word
pub lane_within : (at size : ℕ) → is_lane at size ≡ true → at + size ≤ 8
lane_within at size h = grind (arith, nat_tests)

pub lane_begins : (at size : ℕ) → is_lane at size ≡ true → at < 8
lane_begins at size h = grind (arith, nat_tests)

-- two fields, one above the other
pub joined_below : (high low j k : ℕ) → high < 2 ^ j → low < 2 ^ k → high * 2 ^ k + low < 2 ^ (j + k)
joined_below high low j k h l = rw (pow-add 2 j k, mul_comm (2 ^ j) (2 ^ k)) (mul-add-lt high (2 ^ k) low (2 ^ j) h l)

-- the number that a lane's value is scaled by
pub scale_is : (at : ℕ) → at < 8 → 1 * 2 ^ (8 * at) % 2 ^ 64 ≡ 2 ^ (8 * at)
scale_is at small = omega (arith, pow_below (8 * at) 64 (omega arith))

-- a word of three fields whose middle one was exchanged
pub exchanged : (word at size value : ℕ) → word - taken word at size * 2 ^ (8 * at) + low_bytes value size * 2 ^ (8 * at) ≡ with_lane word at size value
exchanged word at size value =
    let whole = shr_split word (8 * at) in
    let front = shr_split (high_bytes word at) (8 * size) in
    let above : ℕ = high_bytes (high_bytes word at) size in
    let old = add-mul (above * 2 ^ (8 * size)) (taken word at size) (2 ^ (8 * at)) in
    let new = add-mul (above * 2 ^ (8 * size)) (low_bytes value size) (2 ^ (8 * at)) in
    let same : (above * 2 ^ (8 * size) + taken word at size) * 2 ^ (8 * at) ≡ high_bytes word at * 2 ^ (8 * at) = ap (λ (n : ℕ). n * 2 ^ (8 * at)) front in
    omega (arith, whole, old, new, same)

-- it is a word
pub with_lane_below : (word at size value : ℕ) → word < 2 ^ 64 → at + size ≤ 8 → with_lane word at size value < 2 ^ 64
with_lane_below word at size value small within =
    let left : ℕ = 64 - 8 * at - 8 * size in
    let whole : left + 8 * size + 8 * at ≡ 64 = omega arith in
    let front : high_bytes word at < 2 ^ (left + 8 * size) = shr_below word (left + 8 * size) (8 * at) (rw whole small) in
    let above : high_bytes (high_bytes word at) size < 2 ^ left = shr_below (high_bytes word at) left (8 * size) front in
    let middle = joined_below (high_bytes (high_bytes word at) size) (low_bytes value size) left (8 * size) above (mod_below value (2 ^ (8 * size)) (pow_pos (8 * size))) in
    let all = joined_below (high_bytes (high_bytes word at) size * 2 ^ (8 * size) + low_bytes value size) (low_bytes word at) (left + 8 * size) (8 * at) middle (mod_below word (2 ^ (8 * at)) (pow_pos (8 * at))) in
    rw whole at all

-- the value in its place is a word
pub placed_below : (at size value : ℕ) → at + size ≤ 8 → low_bytes value size * 2 ^ (8 * at) < 2 ^ 64
placed_below at size value within =
    let small = shl_below (low_bytes value size) (8 * size) (8 * at) (mod_below value (2 ^ (8 * size)) (pow_pos (8 * size))) in
    elim (cases (8 * size + 8 * at) (omega arith)) [
      | inl lt ↦ omega (arith, small, pow_below (8 * size + 8 * at) 64 lt)
      | inr e ↦ rw e at small
    ]
  where
    cases : (n : ℕ) → n ≤ 64 → (n < 64) ⊎ (n ≡ 64)
    cases n h = grind arith

-- ---- byte by byte

-- 8 bits a byte
scaled : (a b : ℕ) → 8 * (a + b) ≡ 8 * a + 8 * b
scaled a b = omega arith

-- the first bytes of a word are those of its low part
byte_low : (word count k : ℕ) → k < count → byte_of word k ≡ byte_of (low_bytes word count) k
byte_low word count k below =
    let more : ℕ = 8 * (count - k - 1) in
    let bits : 8 * count ≡ more + 8 + 8 * k = omega arith in
    let field = ap (λ (n : ℕ). n % 256) (field_of word (more + 8) (8 * k)) ∙ mod-mod-pow (word / 2 ^ (8 * k)) more 8 in
    sym (ap (λ (n : ℕ). word % 2 ^ n / 2 ^ (8 * k) % 256) bits ∙ field)

-- the other bytes are those of its high part
byte_high : (word count k : ℕ) → byte_of word (count + k) ≡ byte_of (high_bytes word count) k
byte_high word count k = ap (λ (n : ℕ). n % 256) (sym (shr-shr word (8 * count) (8 * k) ∙ ap (λ (n : ℕ). word / 2 ^ n) (sym (scaled count k))))

pub takes_bytes : (word at size : ℕ) → TakesBytes word at size (taken word at size)
takes_bytes word at size = record {
  lane = λ k below. sym (byte_high word at k ∙ byte_low (high_bytes word at) size k below);
  above = mod_below (high_bytes word at) (2 ^ (8 * size)) (pow_pos (8 * size));
}

-- two fields, one above the other, and their bytes
joined_low : (high low count k : ℕ) → low < 2 ^ (8 * count) → k < count → byte_of (high * 2 ^ (8 * count) + low) k ≡ byte_of low k
joined_low high low count k small below =
    byte_low (high * 2 ^ (8 * count) + low) count k below ∙ ap (λ (n : ℕ). byte_of n k) (mod_low high (8 * count) low small)

joined_high : (high low count k : ℕ) → low < 2 ^ (8 * count) → byte_of (high * 2 ^ (8 * count) + low) (count + k) ≡ byte_of high k
joined_high high low count k small =
    byte_high (high * 2 ^ (8 * count) + low) count k ∙ ap (λ (n : ℕ). byte_of n k) (shr_high high (8 * count) low small)

low_small : (word count : ℕ) → low_bytes word count < 2 ^ (8 * count)
low_small word count = mod_below word (2 ^ (8 * count)) (pow_pos (8 * count))

-- below the lane, in it, and above it
below_lane : (word at size value k : ℕ) → k < at → byte_of (with_lane word at size value) k ≡ byte_of word k
below_lane word at size value k h = joined_low _ (low_bytes word at) at k (low_small word at) h ∙ sym (byte_low word at k h)

in_lane : (word at size value j : ℕ) → j < size → byte_of (with_lane word at size value) (at + j) ≡ byte_of value j
in_lane word at size value j h =
    joined_high _ (low_bytes word at) at j (low_small word at)
    ∙ joined_low _ (low_bytes value size) size j (low_small value size) h
    ∙ sym (byte_low value size j h)

above_lane : (word at size value i : ℕ) → byte_of (with_lane word at size value) (at + (size + i)) ≡ byte_of word (at + (size + i))
above_lane word at size value i =
    joined_high _ (low_bytes word at) at (size + i) (low_small word at)
    ∙ joined_high _ (low_bytes value size) size i (low_small value size)
    ∙ sym (byte_high word at (size + i) ∙ byte_high (high_bytes word at) size i)

pub puts_bytes : (word at size value : ℕ) → word < 2 ^ 64 → at + size ≤ 8 → PutsBytes word at size value (with_lane word at size value)
puts_bytes word at size value small within = record {
  bytes = λ k few. by k (cases_lt k at) (cases_lt k (at + size));
  fits = with_lane_below word at size value small within;
}
  where
    by : (k : ℕ) → (k < at) ⊎ (at ≤ k) → (k < at + size) ⊎ (at + size ≤ k)
        → byte_of (with_lane word at size value) k ≡ cond (nat_le at k && nat_lt k (at + size)) (byte_of value (k - at)) (byte_of word k)
    by k (inl below) e = rw (lt-leb at k below) (below_lane word at size value k below)
    by k (inr from) (inl inside) =
        let place : at + (k - at) ≡ k = omega arith in
        rw (le-leb at k from, lt-ltb k (at + size) inside) (rw place at (in_lane word at size value (k - at) (omega arith)))
    by k (inr from) (inr above) =
        let place : at + (size + (k - at - size)) ≡ k = omega arith in
        rw (le-leb at k from, le-ltb k (at + size) above) (rw place at (above_lane word at size value (k - at - size)))
