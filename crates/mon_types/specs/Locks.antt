-- Lock words, this project's own: 0 where a lock is free, else who holds it.
use Rattle.std.specs.Prelude.{◌≡◌, ℕ, ◌+◌, ◌*◌, ◌^◌, ◌<◌}

-- the lock word of a core's call with this serial
abbrev pub lock_word : ℕ → ℕ → ℕ
lock_word core serial = 1 + 2 * core + 32 * serial

-- the word is the lock word of this core and serial, which are in range
pub record IsLock (word core serial : ℕ) : Type 0 where
  pub among_cores : core < 16
  pub among_serials : serial < 2 ^ 32
  pub packed : lock_word core serial ≡ word
