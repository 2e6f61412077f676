-- The numbers of an instruction's effect are words, and so are the words that it stores.
use Rattle.std.proofs.Common.{◌≡◌, inl, inr, ◌+◌, ◌*◌, ◌-◌, ◌/◌, ◌%◌, ◌^◌, ◌≤◌, ℕ, ℤ, pos, negsuc, Bool, true, false, cond, ◌==◌, ◌&&◌, ◌||◌, Option, Some, None, List, sym, refl, subst, arith}
use Rattle.std.specs.Prelude.{◌-ℤ◌, ◌*ℤ◌, int_div, int_rem, slice_index}
use Rattle.std.specs.Int.{int_shr}
use Rattle.std.proofs.lemmas.Bool.{eqb-true}
use Rattle.std.proofs.lemmas.Nat.{or_lt, xor_lt, and_le_l}
use Rattle.mon_types.specs.Words.{AreWords}
use Rattle.mon_types.proofs.Rows.{all_at}
use Rattle.dram_map.proofs.Lanes.{with_lane_below}
use Rattle.rv_ext.specs.Signed.{signed, unsigned, low_bits, sign_extended}
use Rattle.rv_ext.specs.Multiply.{upper, quotient, remainder, multiplied}
use Rattle.rv_ext.specs.declared.op.MulOp.{MulOp}
use Rattle.rv_ext.specs.declared.op.MulOp.TheVariants as muls
use Rattle.rv_decode.specs.declared.op.RegOp.{RegOp}
use Rattle.rv_decode.specs.declared.op.RegOp.TheVariants as regs
use Rattle.rv_decode.specs.declared.op.LoadOp.{LoadOp}
use Rattle.rv_decode.specs.declared.op.LoadOp.TheVariants as loads
use Rattle.rv_decode.specs.declared.op.StoreOp.{StoreOp}
use Rattle.rv_decode.specs.declared.op.StoreOp.TheVariants as stores
use Rattle.rv_decode.specs.declared.op.UpperOp.{UpperOp}
use Rattle.rv_decode.specs.declared.op.UpperOp.TheVariants as uppers
use Rattle.rv_decode.specs.declared.inst.Inst.{Inst}
use Rattle.rv_decode.specs.declared.inst.Inst.TheVariants as insts
use Rattle.rv_decode.specs.Table.{imm_form}
use Rattle.rv_decode.specs.Parts.{opcode_of, rd_of, funct3_of, rs1_of, rs2_of, funct7_of, i_immediate_of, s_immediate_of, b_immediate_of, u_immediate_of}
use Rattle.rv_decode.specs.Decoded.{◌>>=◌, upper_op_of, branch_op_of, load_op_of, store_op_of, imm_op_of, reg_op_of, mul_op_of, amo_op_of, amo_size_of, upper_of, jal_of, jalr_of, branch_of, load_of, store_of, operand_of, immediate_of, registers_of, aq_of, rl_of, atomic_of, fence_of, system_of, by_opcode, decoded}
use Rattle.rv_exec.specs.declared.effect.Effect.{Effect}
use Rattle.rv_exec.specs.declared.effect.Effect.TheVariants as effects
use Rattle.rv_exec.specs.Operations.{flag, computed, operation_of, is_taken}
use Rattle.rv_exec.specs.Loads.{IsSize}
use Rattle.rv_exec.specs.Sizes.{IsAmoSize}
use Rattle.rv_exec.specs.Effects.{register, plus, after, at_next, at_target, upper_value, loading, store_size, effect_of}
use Rattle.core_access.specs.Causes.{is_aligned}
use Rattle.core_access.specs.Words.{byte_in, loaded_from, stored_in}
use Rattle.core_laws.specs.Outcomes.{IsWord}

-- ---- operations

low_less : (z : ℤ) → IsWord (low_bits 64 z)
low_less (pos k) = omega arith
low_less (negsuc k) = omega arith

extended_less : (n x : ℕ) → IsWord (sign_extended n x)
extended_less n x = low_less (signed n (x % 2 ^ n))

upper_less : (z : ℤ) → IsWord (upper z)
upper_less (pos k) = omega arith
upper_less (negsuc k) = omega arith

flag_less : (b : Bool) → IsWord (flag b)
flag_less true = omega arith
flag_less false = omega arith

computed_less : (op : RegOp) (a b : ℕ) → IsWord a → IsWord b → IsWord (computed op a b)
computed_less regs.Add a b h k = omega arith
computed_less regs.Sub a b h k = low_less _
computed_less regs.Sll a b h k = omega arith
computed_less regs.Slt a b h k = flag_less _
computed_less regs.Sltu a b h k = flag_less _
computed_less regs.Xor a b h k = xor_lt 64 a b h k
computed_less regs.Srl a b h k = less a (2 ^ (b % 64)) h
  where
    less : (a n : ℕ) → IsWord a → IsWord (a / n)
    less a n h = omega arith
computed_less regs.Sra a b h k = low_less _
computed_less regs.Or a b h k = or_lt 64 a b h k
computed_less regs.And a b h k = let le = and_le_l a b in omega arith
computed_less regs.Addw a b h k = extended_less 32 (a % 2 ^ 32 + b % 2 ^ 32)
computed_less regs.Subw a b h k = extended_less 32 (low_bits 32 (pos (a % 2 ^ 32) -ℤ pos (b % 2 ^ 32)))
computed_less regs.Sllw a b h k = extended_less 32 (a % 2 ^ 32 * 2 ^ (b % 32))
computed_less regs.Srlw a b h k = extended_less 32 (a % 2 ^ 32 / 2 ^ (b % 32))
computed_less regs.Sraw a b h k = extended_less 32 (low_bits 32 (int_shr (signed 32 (a % 2 ^ 32)) (b % 32)))

quotient_less : (read : ℕ → ℕ → ℤ) (a b : ℕ) → IsWord (quotient read 64 a b)
quotient_less read a b = by (b == 0)
  where
    by : (c : Bool) → IsWord (cond c (2 ^ 64 - 1) (low_bits 64 (int_div (read 64 a) (read 64 b))))
    by true = omega arith
    by false = low_less _

remainder_less : (read : ℕ → ℕ → ℤ) (a b : ℕ) → IsWord a → IsWord (remainder read 64 a b)
remainder_less read a b h = by (b == 0)
  where
    by : (c : Bool) → IsWord (cond c a (low_bits 64 (int_rem (read 64 a) (read 64 b))))
    by true = h
    by false = low_less _

multiplied_less : (op : MulOp) (a b : ℕ) → IsWord a → IsWord (multiplied op a b)
multiplied_less muls.Mul a b h = omega arith
multiplied_less muls.Mulh a b h = upper_less (signed 64 a *ℤ signed 64 b)
multiplied_less muls.Mulhsu a b h = upper_less (signed 64 a *ℤ unsigned 64 b)
multiplied_less muls.Mulhu a b h = upper_less (unsigned 64 a *ℤ unsigned 64 b)
multiplied_less muls.Div a b h = quotient_less signed a b
multiplied_less muls.Divu a b h = quotient_less unsigned a b
multiplied_less muls.Rem a b h = remainder_less signed a b h
multiplied_less muls.Remu a b h = remainder_less unsigned a b h
multiplied_less muls.Mulw a b h = extended_less 32 (a % 2 ^ 32 * (b % 2 ^ 32))
multiplied_less muls.Divw a b h = extended_less 32 (quotient signed 32 (a % 2 ^ 32) (b % 2 ^ 32))
multiplied_less muls.Divuw a b h = extended_less 32 (quotient unsigned 32 (a % 2 ^ 32) (b % 2 ^ 32))
multiplied_less muls.Remw a b h = extended_less 32 (remainder signed 32 (a % 2 ^ 32) (b % 2 ^ 32))
multiplied_less muls.Remuw a b h = extended_less 32 (remainder unsigned 32 (a % 2 ^ 32) (b % 2 ^ 32))

-- ---- effects

-- the numbers of an effect are words, and its accesses have sizes
abbrev pub IsEffect : Effect → Type 0
IsEffect (effects.Next pc rd value) = IsWord pc × IsWord value
IsEffect (effects.Load va size signed rd) = IsWord va
IsEffect (effects.Store va size value) = IsWord va × IsWord value × IsSize size
IsEffect (effects.Amo va size op value rd) = IsWord va × IsAmoSize size
IsEffect effects.Call = Unit {0}
IsEffect effects.Fence = Unit {0}
IsEffect effects.Flush = Unit {0}
IsEffect (effects.Trap cause value) = IsWord cause × IsWord value

-- an atomic instruction has 4 or 8 bytes
abbrev HasSize : Option Inst → Type 0
HasSize None = Unit {0}
HasSize (Some (insts.Amo op size aq rl rd rs1 rs2)) = IsAmoSize size
HasSize (Some _) = Unit {0}

pub record IsSized (inst : Option Inst) : Type 0 where
  pub size : HasSize inst

register_less : (registers : List ℕ) (r : ℕ) → AreWords 32 registers → IsWord (register registers r)
register_less registers r h = by (r == 0)
  where
    by : (b : Bool) → IsWord (cond b 0 (slice_index registers r))
    by true = omega arith
    by false = all_at IsWord registers r (omega arith) h.fit

target_fits : (target rd value : ℕ) → IsWord target → IsWord value → IsEffect (at_target target rd value)
target_fits target rd value t v = by (target % 4 == 0)
  where
    by : (b : Bool) → IsEffect (cond b (effects.Next target rd value) (effects.Trap 0 target))
    by true = (t, v)
    by false = (omega arith, t)

upper_value_less : (op : UpperOp) (pc : ℕ) (imm : ℤ) → IsWord (upper_value op pc imm)
upper_value_less uppers.Lui pc imm = low_less imm
upper_value_less uppers.Auipc pc imm = low_less _

loading_fits : (op : LoadOp) (va rd : ℕ) → IsWord va → IsEffect (loading op va rd)
loading_fits loads.Lb va rd h = h
loading_fits loads.Lh va rd h = h
loading_fits loads.Lw va rd h = h
loading_fits loads.Ld va rd h = h
loading_fits loads.Lbu va rd h = h
loading_fits loads.Lhu va rd h = h
loading_fits loads.Lwu va rd h = h

store_sized : (op : StoreOp) → IsSize (store_size op)
store_sized stores.Sb = inl refl
store_sized stores.Sh = inr (inl refl)
store_sized stores.Sw = inr (inr (inl refl))
store_sized stores.Sd = inr (inr (inr refl))

lane_less : (value n : ℕ) → IsWord value → IsWord (value % n)
lane_less value n h = omega arith

pub effect_fits : (inst : Inst) (pc : ℕ) (registers : List ℕ) → IsSized (Some inst) → IsWord pc → AreWords 32 registers → IsEffect (effect_of inst pc registers)
effect_fits (insts.Upper op rd imm) pc registers s p h = (omega arith, upper_value_less op pc imm)
effect_fits (insts.Jal rd imm) pc registers s p h = target_fits (plus pc imm) rd (after pc) (low_less _) (omega arith)
effect_fits (insts.Jalr rd rs1 imm) pc registers s p h = target_fits _ rd (after pc) (even (plus (register registers rs1) imm) (low_less _)) (omega arith)
  where
    even : (n : ℕ) → IsWord n → IsWord (n / 2 * 2)
    even n h = omega arith
effect_fits (insts.Branch op rs1 rs2 imm) pc registers s p h = by (is_taken op (register registers rs1) (register registers rs2))
  where
    by : (b : Bool) → IsEffect (cond b (at_target (plus pc imm) 0 0) (at_next pc 0 0))
    by true = target_fits (plus pc imm) 0 0 (low_less _) (omega arith)
    by false = (omega arith, omega arith)
effect_fits (insts.Load op rd rs1 imm) pc registers s p h = loading_fits op _ rd (low_less _)
effect_fits (insts.Store op rs1 rs2 imm) pc registers s p h = (low_less _, lane_less _ _ (register_less registers rs2 h), store_sized op)
effect_fits (insts.Imm op rd rs1 imm) pc registers s p h = (omega arith, computed_less (operation_of op) _ _ (register_less registers rs1 h) (low_less imm))
effect_fits (insts.Reg op rd rs1 rs2) pc registers s p h = (omega arith, computed_less op _ _ (register_less registers rs1 h) (register_less registers rs2 h))
effect_fits (insts.Mul op rd rs1 rs2) pc registers s p h = (omega arith, multiplied_less op _ _ (register_less registers rs1 h))
effect_fits (insts.Amo op size aq rl rd rs1 rs2) pc registers s p h = (register_less registers rs1 h, s.size)
effect_fits (insts.Fence rd rs1 imm) pc registers s p h = tt
effect_fits insts.Ecall pc registers s p h = tt
effect_fits insts.Ebreak pc registers s p h = (omega arith, p)
effect_fits (insts.Sfence rs1 rs2) pc registers s p h = tt

-- ---- decoded words

either : {x y : Option Inst} (b : Bool) → IsSized x → IsSized y → IsSized (cond b x y)
either true h k = h
either false h k = k

bound : {X : Type 0} (o : Option X) (f : X → Option Inst) → ((x : X) → IsSized (f x)) → IsSized (o >>= f)
bound None f h = record { size = tt }
bound (Some x) f h = h x

-- one that is no atomic instruction
none_sized : IsSized None
none_sized = record { size = tt }

sized : (funct3 : ℕ) (f : ℕ → Option Inst) → ((size : ℕ) → IsAmoSize size → IsSized (f size)) → IsSized (amo_size_of funct3 >>= f)
sized funct3 f h = by (funct3 == 2) (funct3 == 3)
  where
    by : (a b : Bool) → IsSized (cond a (Some 4) (cond b (Some 8) None) >>= f)
    by true b = h 4 (inl refl)
    by false true = h 8 (inr refl)
    by false false = record { size = tt }

upper_sized : (word : ℕ) → IsSized (upper_of word)
upper_sized word = bound (upper_op_of (opcode_of word)) (λ op. Some (insts.Upper op (rd_of word) (u_immediate_of word))) (λ op. record { size = tt })

jal_sized : (word : ℕ) → IsSized (Some (jal_of word))
jal_sized word = record { size = tt }

jalr_sized : (word : ℕ) → IsSized (jalr_of word)
jalr_sized word = either {x = Some (insts.Jalr (rd_of word) (rs1_of word) (i_immediate_of word))} (funct3_of word == 0) (record { size = tt }) none_sized

branch_sized : (word : ℕ) → IsSized (branch_of word)
branch_sized word = bound (branch_op_of (funct3_of word)) (λ op. Some (insts.Branch op (rs1_of word) (rs2_of word) (b_immediate_of word))) (λ op. record { size = tt })

load_sized : (word : ℕ) → IsSized (load_of word)
load_sized word = bound (load_op_of (funct3_of word)) (λ op. Some (insts.Load op (rd_of word) (rs1_of word) (i_immediate_of word))) (λ op. record { size = tt })

store_is_sized : (word : ℕ) → IsSized (store_of word)
store_is_sized word = bound (store_op_of (funct3_of word)) (λ op. Some (insts.Store op (rs1_of word) (rs2_of word) (s_immediate_of word))) (λ op. record { size = tt })

immediate_sized : (word : ℕ) → IsSized (immediate_of word)
immediate_sized word =
    bound (imm_op_of (opcode_of word) (funct3_of word) (word / 2 ^ 26)) (λ op. operand_of word (imm_form op) >>= λ imm. Some (insts.Imm op (rd_of word) (rs1_of word) imm))
    (λ op. bound (operand_of word (imm_form op)) (λ imm. Some (insts.Imm op (rd_of word) (rs1_of word) imm)) (λ imm. record { size = tt }))

registers_sized : (word : ℕ) → IsSized (registers_of word)
registers_sized word =
    either (funct7_of word == 1)
    (bound (mul_op_of (opcode_of word) (funct3_of word)) (λ op. Some (insts.Mul op (rd_of word) (rs1_of word) (rs2_of word))) (λ op. record { size = tt }))
    (bound (reg_op_of (opcode_of word) (funct3_of word) (funct7_of word)) (λ op. Some (insts.Reg op (rd_of word) (rs1_of word) (rs2_of word))) (λ op. record { size = tt }))

atomic_sized : (word : ℕ) → IsSized (atomic_of word)
atomic_sized word =
    bound (amo_op_of (funct7_of word / 4)) (λ op. amo_size_of (funct3_of word) >>= λ size. Some (insts.Amo op size (aq_of word) (rl_of word) (rd_of word) (rs1_of word) (rs2_of word)))
    (λ op. sized (funct3_of word) (λ size. Some (insts.Amo op size (aq_of word) (rl_of word) (rd_of word) (rs1_of word) (rs2_of word))) (λ size h. record { size = h }))

fence_sized : (word : ℕ) → IsSized (fence_of word)
fence_sized word = either {x = Some (insts.Fence (rd_of word) (rs1_of word) (i_immediate_of word))} (funct3_of word == 0) (record { size = tt }) none_sized

system_sized : (word : ℕ) → IsSized (system_of word)
system_sized word =
    either {x = Some insts.Ecall} (word == 0x00000073) (record { size = tt })
    (either {x = Some insts.Ebreak} (word == 0x00100073) (record { size = tt })
    (either {x = Some (insts.Sfence (rs1_of word) (rs2_of word))} (rd_of word == 0 && funct3_of word == 0 && funct7_of word == 0x09) (record { size = tt }) none_sized))

opcode_sized : (word opcode : ℕ) → IsSized (by_opcode word opcode)
opcode_sized word opcode =
    either (opcode == 0x37 || opcode == 0x17) (upper_sized word) (either (opcode == 0x6f) (jal_sized word)
    (either (opcode == 0x67) (jalr_sized word) (either (opcode == 0x63) (branch_sized word)
    (either (opcode == 0x03) (load_sized word) (either (opcode == 0x23) (store_is_sized word)
    (either (opcode == 0x13 || opcode == 0x1b) (immediate_sized word) (either (opcode == 0x33 || opcode == 0x3b) (registers_sized word)
    (either (opcode == 0x2f) (atomic_sized word) (either (opcode == 0x0f) (fence_sized word)
    (either (opcode == 0x73) (system_sized word) none_sized))))))))))

pub decoded_sized : (word : ℕ) → IsSized (decoded word)
unfolding decoded
decoded_sized word = opcode_sized word (opcode_of word)

-- ---- words that are loaded and stored

pub loaded_less : (word va size : ℕ) (sign : Bool) → IsWord word → IsWord (loaded_from word va size sign)
loaded_less word va size true h = extended_less (8 * size) _
loaded_less word va size false h = less word (2 ^ (8 * byte_in va)) (2 ^ (8 * size)) h
  where
    less : (a m n : ℕ) → IsWord a → IsWord (a / m % n % n)
    less a m n h = lane_less _ n (lane_less _ n (part a m h))
      where
        part : (a m : ℕ) → IsWord a → IsWord (a / m)
        part a m h = omega arith

-- an aligned access lies in its word
within : (va size : ℕ) → IsSize size → is_aligned va size ≡ true → byte_in va + size ≤ 8
within va size (inl e) h = subst (λ n. byte_in va + n ≤ 8) (sym e) (omega arith)
within va size (inr (inl e)) h = subst (λ n. byte_in va + n ≤ 8) (sym e) (two va (eqb-true (va % 2) 0 (subst (λ n. is_aligned va n ≡ true) e h)))
  where
    two : (va : ℕ) → va % 2 ≡ 0 → va % 8 + 2 ≤ 8
    two va h = omega arith
within va size (inr (inr (inl e))) h = subst (λ n. byte_in va + n ≤ 8) (sym e) (four va (eqb-true (va % 4) 0 (subst (λ n. is_aligned va n ≡ true) e h)))
  where
    four : (va : ℕ) → va % 4 ≡ 0 → va % 8 + 4 ≤ 8
    four va h = omega arith
within va size (inr (inr (inr e))) h = subst (λ n. byte_in va + n ≤ 8) (sym e) (eight va (eqb-true (va % 8) 0 (subst (λ n. is_aligned va n ≡ true) e h)))
  where
    eight : (va : ℕ) → va % 8 ≡ 0 → va % 8 + 8 ≤ 8
    eight va h = omega arith

pub amo_size : (size : ℕ) → IsAmoSize size → IsSize size
amo_size size (inl e) = inr (inr (inl e))
amo_size size (inr e) = inr (inr (inr e))

pub stored_less : (word va size value : ℕ) → IsSize size → is_aligned va size ≡ true → IsWord word → IsWord (stored_in word va size value)
stored_less word va size value s h w = with_lane_below word (byte_in va) size value w (within va size s h)
