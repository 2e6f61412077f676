-- Multiplication and division, as in the M extension, RISC-V Unprivileged ISA.
use Rattle.std.specs.Prelude.{ℕ, ◌-◌, ◌*◌, ◌/◌, ◌%◌, ◌^◌, ◌==◌, if◌then◌else◌, ℤ, ◌*ℤ◌, int_div, int_rem}
use Rattle.rv_ext.specs.declared.op.MulOp.{MulOp}
use Rattle.rv_ext.specs.declared.op.MulOp.TheVariants as ops
use Rattle.rv_ext.specs.Signed.{signed, unsigned, low_bits, sign_extended}

-- the upper 64 of the 128 bits of a product
abbrev pub upper : ℤ → ℕ
upper product = low_bits 128 product / 2 ^ 64

-- the quotient of two numbers of n bits, rounded towards zero, where `read` says whether they are signed.
-- By zero all bits are set. The signed quotient of the least number by -1 does not fit, and its low bits are the least
-- number
abbrev pub quotient : (ℕ → ℕ → ℤ) → ℕ → ℕ → ℕ → ℕ
quotient read n a b = if b == 0 then 2 ^ n - 1 else low_bits n (int_div (read n a) (read n b))

-- the remainder of that quotient, which has the sign of the dividend. By zero it is the dividend
abbrev pub remainder : (ℕ → ℕ → ℤ) → ℕ → ℕ → ℕ → ℕ
remainder read n a b = if b == 0 then a else low_bits n (int_rem (read n a) (read n b))

-- what each instruction makes of its operands. The low bits of a product are the same for signed and unsigned numbers
abbrev pub multiplied : MulOp → ℕ → ℕ → ℕ
multiplied ops.Mul a b = (a * b) % 2 ^ 64
multiplied ops.Mulh a b = upper (signed 64 a *ℤ signed 64 b)
multiplied ops.Mulhsu a b = upper (signed 64 a *ℤ unsigned 64 b)
multiplied ops.Mulhu a b = upper (unsigned 64 a *ℤ unsigned 64 b)
multiplied ops.Div a b = quotient signed 64 a b
multiplied ops.Divu a b = quotient unsigned 64 a b
multiplied ops.Rem a b = remainder signed 64 a b
multiplied ops.Remu a b = remainder unsigned 64 a b
multiplied ops.Mulw a b = sign_extended 32 ((a % 2 ^ 32) * (b % 2 ^ 32))
multiplied ops.Divw a b = sign_extended 32 (quotient signed 32 (a % 2 ^ 32) (b % 2 ^ 32))
multiplied ops.Divuw a b = sign_extended 32 (quotient unsigned 32 (a % 2 ^ 32) (b % 2 ^ 32))
multiplied ops.Remw a b = sign_extended 32 (remainder signed 32 (a % 2 ^ 32) (b % 2 ^ 32))
multiplied ops.Remuw a b = sign_extended 32 (remainder unsigned 32 (a % 2 ^ 32) (b % 2 ^ 32))
