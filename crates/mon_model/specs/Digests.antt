-- Every digest of SHA-256, and so every digest of a chain, is 32 bytes. This project's own.
use Rattle.std.specs.Prelude.{◌≡◌, ℕ, zero, suc, ◌*◌, ◌/◌, ◌^◌, ◌<◌, List, [], ◌∷◌, ◌++◌, length, replicate, fold, slice_index, refl}
use Rattle.std.specs.Int.{w32, to_be_bytes}
use Rattle.std.proofs.Common.{inl, inr, get_or, arith, length-append}
use Rattle.std.proofs.lemmas.List.{get_or-replicate, get_or_past}
use Rattle.std.proofs.lemmas.Bool.{cases_lt}
use Rattle.std.proofs.lemmas.Nat.{mod_below}
use Rattle.sha2.specs.Sha256.{sha256, digest_bytes, final_hash, initial_hash_256}
use Rattle.mon_model.specs.Measure.{Item, item_bytes, chain_start, extend}
use Rattle.mon_model.specs.Measured.{chain_of}

-- 32 numbers, each below 256
pub record IsDigest (m : List ℕ) : Type 0 where
  pub count : length m ≡ 32
  pub bytes : (i : ℕ) → get_or m i 0 < 256

-- a word's four bytes are bytes
word_bytes : (n i : ℕ) → get_or (to_be_bytes w32 n) i 0 < 256
word_bytes n zero = mod_below (n / 256 ^ 3) 256 (omega arith)
word_bytes n (suc zero) = mod_below (n / 256 ^ 2) 256 (omega arith)
word_bytes n (suc (suc zero)) = mod_below (n / 256 ^ 1) 256 (omega arith)
word_bytes n (suc (suc (suc zero))) = mod_below n 256 (omega arith)
word_bytes n (suc (suc (suc (suc i)))) = omega arith

bytes_append : (xs ys : List ℕ) → ((i : ℕ) → get_or xs i 0 < 256) → ((i : ℕ) → get_or ys i 0 < 256) → (i : ℕ) → get_or (xs ++ ys) i 0 < 256
bytes_append [] ys p q i = q i
bytes_append (x ∷ xs) ys p q zero = p 0
bytes_append (x ∷ xs) ys p q (suc i) = bytes_append xs ys (λ j. p (suc j)) q i

digest_count : (h : List ℕ) (n : ℕ) → length (digest_bytes h n) ≡ n * 4
unfolding digest_bytes
digest_count h zero = refl
digest_count h (suc n) =
    let last : length (to_be_bytes w32 (slice_index h n)) ≡ 4 = refl in
    omega (arith, digest_count h n, last, length-append (digest_bytes h n) (to_be_bytes w32 (slice_index h n)))

digest_below : (h : List ℕ) (n i : ℕ) → get_or (digest_bytes h n) i 0 < 256
unfolding digest_bytes
digest_below h zero i = omega arith
digest_below h (suc n) i = bytes_append (digest_bytes h n) (to_be_bytes w32 (slice_index h n)) (digest_below h n) (word_bytes (slice_index h n)) i

-- a SHA-256 digest
pub sha256_digest : (m : List ℕ) → IsDigest (sha256 m)
unfolding sha256
sha256_digest m = record {
  count = digest_count (final_hash initial_hash_256 m) 8;
  bytes = digest_below (final_hash initial_hash_256 m) 8;
}

start_digest : IsDigest chain_start
start_digest = record {
  count = refl;
  bytes = λ i. elim (cases_lt i 32) [
    | inl lt ↦ omega (arith, get_or-replicate {A = ℕ} 32 i 0 0 lt)
    | inr past ↦ omega (arith, get_or_past {X = ℕ} (replicate 32 0) i 0 past)
  ];
}

extended_digest : (m : List ℕ) (item : Item) → IsDigest (extend m item)
unfolding extend
extended_digest m item = sha256_digest (m ++ item_bytes item)

chain_on : (m : List ℕ) (items : List Item) → IsDigest m → IsDigest (fold extend m items)
chain_on m [] d = d
chain_on m (item ∷ items) d = chain_on (extend m item) items (extended_digest m item)

pub chain_digest : (items : List Item) → IsDigest (chain_of items)
chain_digest items = chain_on chain_start items start_digest
