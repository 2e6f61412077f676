-- Bits as numbers and numbers as bits, in two's complement, as in the RISC-V Unprivileged ISA.
use Rattle.std.specs.Prelude.{ℕ, suc, ◌-◌, ◌%◌, ◌^◌, nat_lt, if◌then◌else◌, ℤ, pos, negsuc, ◌-ℤ◌}

-- n bits read as a signed number: the top bit is worth -(2 ^ (n - 1))
abbrev pub signed : ℕ → ℕ → ℤ
signed n x = if nat_lt x (2 ^ (n - 1)) then pos x else (pos x -ℤ pos (2 ^ n))

-- n bits read as an unsigned number
abbrev pub unsigned : ℕ → ℕ → ℤ
unsigned n x = pos x

-- the low n bits of a whole number, which is what is left of it mod 2 ^ n. `negsuc k` is -(k + 1)
abbrev pub low_bits : ℕ → ℤ → ℕ
low_bits n (pos k) = k % 2 ^ n
low_bits n (negsuc k) = 2 ^ n - suc (k % 2 ^ n)

-- the low n bits of x, extended to 64 bits by their top bit
abbrev pub sign_extended : ℕ → ℕ → ℕ
sign_extended n x = low_bits 64 (signed n (x % 2 ^ n))
