-- What the operations of RV64I make of two values, as in the RISC-V Unprivileged ISA (RV32I and RV64I, Integer
-- Computational Instructions and Conditional Branches).
use Rattle.std.specs.Prelude.{ℕ, ◌+◌, ◌*◌, ◌/◌, ◌%◌, ◌^◌, Bool, not, ◌==◌, nat_lt, int_lt, if◌then◌else◌, pos, ◌-ℤ◌, bit_and, bit_or, bit_xor}
use Rattle.std.specs.Int.{int_shr}
use Rattle.rv_decode.specs.declared.op.BranchOp.{BranchOp}
use Rattle.rv_decode.specs.declared.op.BranchOp.TheVariants as branches
use Rattle.rv_decode.specs.declared.op.ImmOp.{ImmOp}
use Rattle.rv_decode.specs.declared.op.ImmOp.TheVariants as imms
use Rattle.rv_decode.specs.declared.op.RegOp.{RegOp}
use Rattle.rv_decode.specs.declared.op.RegOp.TheVariants as regs
use Rattle.rv_ext.specs.Signed.{signed, low_bits, sign_extended}

-- 1 where a comparison holds
abbrev pub flag : Bool → ℕ
flag holds = if holds then 1 else 0

-- each operation on two values of 64 bits. Those that end in w work on the low words, and the sign of their 32 bits is
-- extended. A right shift of a signed number rounds down, so that it copies the sign
abbrev pub computed : RegOp → ℕ → ℕ → ℕ
computed regs.Add a b = (a + b) % 2 ^ 64
computed regs.Sub a b = low_bits 64 (pos a -ℤ pos b)
computed regs.Sll a b = (a * 2 ^ (b % 64)) % 2 ^ 64
computed regs.Slt a b = flag (int_lt (signed 64 a) (signed 64 b))
computed regs.Sltu a b = flag (nat_lt a b)
computed regs.Xor a b = bit_xor a b
computed regs.Srl a b = a / 2 ^ (b % 64)
computed regs.Sra a b = low_bits 64 (int_shr (signed 64 a) (b % 64))
computed regs.Or a b = bit_or a b
computed regs.And a b = bit_and a b
computed regs.Addw a b = sign_extended 32 (a % 2 ^ 32 + b % 2 ^ 32)
computed regs.Subw a b = sign_extended 32 (low_bits 32 (pos (a % 2 ^ 32) -ℤ pos (b % 2 ^ 32)))
computed regs.Sllw a b = sign_extended 32 ((a % 2 ^ 32) * 2 ^ (b % 32))
computed regs.Srlw a b = sign_extended 32 ((a % 2 ^ 32) / 2 ^ (b % 32))
computed regs.Sraw a b = sign_extended 32 (low_bits 32 (int_shr (signed 32 (a % 2 ^ 32)) (b % 32)))

-- an operation with an immediate is that on two registers, with the immediate as its second value
abbrev pub operation_of : ImmOp → RegOp
operation_of imms.Addi = regs.Add
operation_of imms.Slti = regs.Slt
operation_of imms.Sltiu = regs.Sltu
operation_of imms.Xori = regs.Xor
operation_of imms.Ori = regs.Or
operation_of imms.Andi = regs.And
operation_of imms.Slli = regs.Sll
operation_of imms.Srli = regs.Srl
operation_of imms.Srai = regs.Sra
operation_of imms.Addiw = regs.Addw
operation_of imms.Slliw = regs.Sllw
operation_of imms.Srliw = regs.Srlw
operation_of imms.Sraiw = regs.Sraw

-- whether a branch is taken
abbrev pub is_taken : BranchOp → ℕ → ℕ → Bool
is_taken branches.Beq a b = a == b
is_taken branches.Bne a b = not (a == b)
is_taken branches.Blt a b = int_lt (signed 64 a) (signed 64 b)
is_taken branches.Bge a b = not (int_lt (signed 64 a) (signed 64 b))
is_taken branches.Bltu a b = nat_lt a b
is_taken branches.Bgeu a b = not (nat_lt a b)
