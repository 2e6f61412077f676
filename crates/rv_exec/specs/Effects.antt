-- The effect of each instruction: RV64I, RV64M and Zaamo of the RISC-V Unprivileged ISA. What an effect asks of the
-- machine, and that ecall, fence and sfence.vma are effects of their own, is this project's own.
use Rattle.std.specs.Prelude.{ℕ, ◌+◌, ◌*◌, ◌/◌, ◌%◌, ◌^◌, ◌==◌, true, false, if◌then◌else◌, List, slice_index, ℤ, pos, ◌+ℤ◌}
use Rattle.rv_decode.specs.declared.inst.Inst.{Inst}
use Rattle.rv_decode.specs.declared.inst.Inst.TheVariants as insts
use Rattle.rv_decode.specs.declared.op.LoadOp.{LoadOp}
use Rattle.rv_decode.specs.declared.op.LoadOp.TheVariants as loads
use Rattle.rv_decode.specs.declared.op.StoreOp.{StoreOp}
use Rattle.rv_decode.specs.declared.op.StoreOp.TheVariants as stores
use Rattle.rv_decode.specs.declared.op.UpperOp.{UpperOp}
use Rattle.rv_decode.specs.declared.op.UpperOp.TheVariants as uppers
use Rattle.rv_ext.specs.Signed.{low_bits}
use Rattle.rv_ext.specs.Multiply.{multiplied}
use Rattle.rv_exec.specs.declared.effect.Effect.{Effect}
use Rattle.rv_exec.specs.declared.effect.Effect.TheVariants as effects
use Rattle.rv_exec.specs.Operations.{computed, operation_of, is_taken}

-- the value of a register: register 0 reads 0
abbrev pub register : List ℕ → ℕ → ℕ
register registers r = if r == 0 then 0 else slice_index registers r

-- a value and an immediate, mod 2 ^ 64
abbrev pub plus : ℕ → ℤ → ℕ
plus x imm = low_bits 64 (pos x +ℤ imm)

-- the address of the instruction after this one
abbrev pub after : ℕ → ℕ
after pc = (pc + 4) % 2 ^ 64

-- rd gets the value, and the next instruction follows
abbrev pub at_next : ℕ → ℕ → ℕ → Effect
at_next pc rd value = effects.Next (after pc) rd value

-- rd gets the value, and the instruction at the target follows. A target that is no multiple of 4 traps instead
abbrev pub at_target : ℕ → ℕ → ℕ → Effect
at_target target rd value = if target % 4 == 0 then effects.Next target rd value else effects.Trap 0 target

-- what an instruction with an upper immediate writes
abbrev pub upper_value : UpperOp → ℕ → ℤ → ℕ
upper_value uppers.Lui pc imm = low_bits 64 imm
upper_value uppers.Auipc pc imm = plus pc imm

-- how many bytes are loaded, and whether their sign is extended
abbrev pub loading : LoadOp → ℕ → ℕ → Effect
loading loads.Lb address rd = effects.Load address 1 true rd
loading loads.Lh address rd = effects.Load address 2 true rd
loading loads.Lw address rd = effects.Load address 4 true rd
loading loads.Ld address rd = effects.Load address 8 true rd
loading loads.Lbu address rd = effects.Load address 1 false rd
loading loads.Lhu address rd = effects.Load address 2 false rd
loading loads.Lwu address rd = effects.Load address 4 false rd

-- how many bytes are stored
abbrev pub store_size : StoreOp → ℕ
store_size stores.Sb = 1
store_size stores.Sh = 2
store_size stores.Sw = 4
store_size stores.Sd = 8

-- a store holds so many low bytes of the value
abbrev pub storing : StoreOp → ℕ → ℕ → Effect
storing op address value = effects.Store address (store_size op) (value % 2 ^ (8 * store_size op))

-- what an instruction at pc does
abbrev pub effect_of : Inst → ℕ → List ℕ → Effect
effect_of (insts.Upper op rd imm) pc registers = at_next pc rd (upper_value op pc imm)
effect_of (insts.Jal rd imm) pc registers = at_target (plus pc imm) rd (after pc)
effect_of (insts.Jalr rd rs1 imm) pc registers = at_target (plus (register registers rs1) imm / 2 * 2) rd (after pc)
effect_of (insts.Branch op rs1 rs2 imm) pc registers =
    if is_taken op (register registers rs1) (register registers rs2) then at_target (plus pc imm) 0 0
    else at_next pc 0 0
effect_of (insts.Load op rd rs1 imm) pc registers = loading op (plus (register registers rs1) imm) rd
effect_of (insts.Store op rs1 rs2 imm) pc registers =
    storing op (plus (register registers rs1) imm) (register registers rs2)
effect_of (insts.Imm op rd rs1 imm) pc registers =
    at_next pc rd (computed (operation_of op) (register registers rs1) (low_bits 64 imm))
effect_of (insts.Reg op rd rs1 rs2) pc registers =
    at_next pc rd (computed op (register registers rs1) (register registers rs2))
effect_of (insts.Mul op rd rs1 rs2) pc registers =
    at_next pc rd (multiplied op (register registers rs1) (register registers rs2))
effect_of (insts.Amo op size aq rl rd rs1 rs2) pc registers =
    effects.Amo (register registers rs1) size op (register registers rs2) rd
effect_of (insts.Fence rd rs1 imm) pc registers = effects.Fence
effect_of insts.Ecall pc registers = effects.Call
effect_of insts.Ebreak pc registers = effects.Trap 3 pc
effect_of (insts.Sfence rs1 rs2) pc registers = effects.Flush
