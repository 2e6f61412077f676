-- What a load writes to its register, as in the RISC-V Unprivileged ISA (Load and Store Instructions).
use Rattle.std.specs.Prelude.{◌≡◌, ℕ, ◌*◌, ◌%◌, ◌^◌, ◌⊎◌, Bool, if◌then◌else◌}
use Rattle.rv_ext.specs.Signed.{sign_extended}

-- how many bytes an access has
abbrev pub IsSize : ℕ → Type 0
IsSize size = (size ≡ 1) ⊎ (size ≡ 2) ⊎ (size ≡ 4) ⊎ (size ≡ 8)

-- so many low bytes of a value, extended by their sign or by zeros
abbrev pub loaded : ℕ → Bool → ℕ → ℕ
loaded size signed value = if signed then sign_extended (8 * size) value else value % 2 ^ (8 * size)
