-- The measurement of an enclave: a chain of SHA-256 digests (FIPS 180-4) over what was loaded. The
-- chain, its tags and its fields are this project's own.
use Rattle.std.specs.Prelude.{ℕ, ◌+◌, List, [], ◌∷◌, ◌++◌, replicate, take, drop}
use Rattle.std.specs.List.{flat_map}
use Rattle.std.specs.Int.{w64, to_le_bytes, from_le_bytes}
use Rattle.sha2.specs.Sha256.{sha256}

-- what a call adds to the measurement; slots and places in DRAM are not measured
pub data Item : Type 0 where
  Create : (base size : ℕ) → Item
  Table : (va level : ℕ) → Item
  Page : (va perms : ℕ) (digest : List ℕ) → Item
  Thread : (entry sp : ℕ) → Item
  Init : Item

-- the level number of a reserved page's item
abbrev pub reserved_level : ℕ → ℕ
reserved_level perms = 8 + perms

-- a number as 8 bytes, the lowest first
abbrev pub number_bytes : ℕ → List ℕ
number_bytes n = to_le_bytes w64 n

-- a tag byte, then the fields; the digest of a page stands last
abbrev pub item_bytes : Item → List ℕ
item_bytes (Create base size) = 1 ∷ number_bytes base ++ number_bytes size
item_bytes (Table va level) = 2 ∷ number_bytes va ++ number_bytes level
item_bytes (Page va perms digest) = 3 ∷ number_bytes va ++ number_bytes perms ++ digest
item_bytes (Thread entry sp) = 4 ∷ number_bytes entry ++ number_bytes sp
item_bytes Init = 5 ∷ []

-- the chain begins at 32 zero bytes, and each item is hashed together with what came before it
abbrev pub chain_start : List ℕ
chain_start = replicate 32 0

-- the chain with one more item
unfoldable pub extend : List ℕ → Item → List ℕ
extend measure item = sha256 (measure ++ item_bytes item)

-- the four words of a measurement: its bytes read little-endian, eight at a time
abbrev pub to_words : List ℕ → List ℕ
to_words bytes =
    from_le_bytes w64 (take 8 bytes)
    ∷ from_le_bytes w64 (take 8 (drop 8 bytes))
    ∷ from_le_bytes w64 (take 8 (drop 16 bytes))
    ∷ from_le_bytes w64 (take 8 (drop 24 bytes))
    ∷ []

-- and back: 32 bytes, eight for each word
abbrev pub to_bytes : List ℕ → List ℕ
to_bytes words = flat_map number_bytes words

-- the words of a new enclave's measurement
unfoldable pub measure_created : ℕ → ℕ → List ℕ
measure_created base size = to_words (extend chain_start (Create base size))

-- the words of a measurement with one more item
unfoldable pub measure_with : List ℕ → Item → List ℕ
measure_with words item = to_words (extend (to_bytes words) item)

-- SHA-256 of a page's 512 words as 4,096 bytes, little-endian
unfoldable pub page_digest : List ℕ → List ℕ
page_digest words = sha256 (to_bytes words)
