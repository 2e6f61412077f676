-- What the atomic read-modify-write instructions store, as in Zaamo, RISC-V Unprivileged ISA.
use Rattle.std.specs.Prelude.{ℕ, ◌+◌, ◌*◌, ◌%◌, ◌^◌, min, max, if◌then◌else◌, int_lt, bit_and, bit_or, bit_xor}
use Rattle.rv_ext.specs.declared.op.AmoOp.{AmoOp}
use Rattle.rv_ext.specs.declared.op.AmoOp.TheVariants as ops
use Rattle.rv_ext.specs.Signed.{signed}

-- of an old value and a register's value, both of n bits
abbrev pub combined_bits : AmoOp → ℕ → ℕ → ℕ → ℕ
combined_bits ops.Swap n old value = value
combined_bits ops.Add n old value = (old + value) % 2 ^ n
combined_bits ops.Xor n old value = bit_xor old value
combined_bits ops.And n old value = bit_and old value
combined_bits ops.Or n old value = bit_or old value
combined_bits ops.Min n old value = if int_lt (signed n value) (signed n old) then value else old
combined_bits ops.Max n old value = if int_lt (signed n old) (signed n value) then value else old
combined_bits ops.Minu n old value = min old value
combined_bits ops.Maxu n old value = max old value

-- of an old value and a register's value, of which the low `size` bytes count
abbrev pub combined : AmoOp → ℕ → ℕ → ℕ → ℕ
combined op size old value = combined_bits op (8 * size) (old % 2 ^ (8 * size)) (value % 2 ^ (8 * size))
