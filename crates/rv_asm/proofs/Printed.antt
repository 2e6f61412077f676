-- The text of an instruction is in the grammar, as that instruction.
use Rattle.std.proofs.Common.{◌≡◌, ℕ, suc, ◌*◌, ◌/◌, ◌^◌, ◌<◌, ◌≤◌, Bool, true, false, ◌&&◌, List, [], ◌∷◌, length, ℤ, pos, negsuc, neg_ℤ, ◌-ℤ◌, ◌≤ℤ◌, ◌<ℤ◌, refl, sym, ap, ◌∙◌, arith, inl, inr, lit<, lit≤, lt-ltb, le-ltb, leb, ◌-◌}
use Rattle.std.specs.Fmt.{decimal}
use Rattle.std.specs.List.{list_all}
use Rattle.std.proofs.lemmas.Bool.{cond-true, cond-false, false≢true}
use Rattle.std.proofs.lemmas.Bool.Decides.{nat_tests}
use Rattle.std.proofs.lemmas.Int.{ints}
use Rattle.rv_ext.specs.declared.op.MulOp.{MulOp}
use Rattle.rv_ext.specs.declared.op.MulOp.TheVariants as muls
use Rattle.rv_ext.specs.declared.op.AmoOp.{AmoOp}
use Rattle.rv_ext.specs.declared.op.AmoOp.TheVariants as amos
use Rattle.rv_decode.specs.declared.op.UpperOp.{UpperOp}
use Rattle.rv_decode.specs.declared.op.UpperOp.TheVariants as uppers
use Rattle.rv_decode.specs.declared.op.BranchOp.{BranchOp}
use Rattle.rv_decode.specs.declared.op.BranchOp.TheVariants as branches
use Rattle.rv_decode.specs.declared.op.LoadOp.{LoadOp}
use Rattle.rv_decode.specs.declared.op.LoadOp.TheVariants as loads
use Rattle.rv_decode.specs.declared.op.StoreOp.{StoreOp}
use Rattle.rv_decode.specs.declared.op.StoreOp.TheVariants as stores
use Rattle.rv_decode.specs.declared.op.ImmOp.{ImmOp}
use Rattle.rv_decode.specs.declared.op.ImmOp.TheVariants as imms
use Rattle.rv_decode.specs.declared.op.RegOp.{RegOp}
use Rattle.rv_decode.specs.declared.op.RegOp.TheVariants as regs
use Rattle.rv_decode.specs.declared.inst.Inst.{Inst}
use Rattle.rv_decode.specs.declared.inst.Inst.TheVariants as insts
use Rattle.rv_decode.specs.Formats.{signed_reading}
use Rattle.rv_decode.specs.Table.{IsRow, IsInst, IsImmediate, IsOperand, imm_form}
use Rattle.rv_asm.specs.declared.name.Width.{Width}
use Rattle.rv_asm.specs.declared.name.Width.TheVariants as widths
use Rattle.rv_asm.specs.Names.{name_text, name_of, upper_name, branch_name, load_name, store_name, imm_name, reg_name, mul_name, amo_name, width_text, order}
use Rattle.text_in.specs.Bytes.{is_name_start}
use Rattle.rv_asm.specs.Reading.{most_bytes}
use Rattle.rv_asm.specs.Grammar.{Label, IsLabel, IsTarget, IsBased, IsDisplaced, IsUpper, AreOperands, IsText}
use Rattle.rv_asm.specs.Printing.{register_text, number_text, upper_bits, based_text, displaced_text, operand_texts, printed}
use Rattle.rv_asm.proofs.Decimals.{IsSmall, decimal_is_number, signed_is_number, signed_nonempty, signed_passes}
use Rattle.text_in.proofs.Decimals.{is_decimal, PassesDigits, decimal_passes}
use Rattle.rv_asm.proofs.OneLine.{text_is}
use Rattle.rv_asm.proofs.Plain.{is_plain, IsPlain, ArePlain, all_joined, passes_inside, plain_more}

-- ---- names: each is a plain word

upper_plain : (op : UpperOp) → IsPlain (upper_name op)
upper_plain uppers.Lui = record { some = lit< tt; plain = refl }
upper_plain _ = record { some = lit< tt; plain = refl }

branch_plain : (op : BranchOp) → IsPlain (branch_name op)
branch_plain branches.Beq = record { some = lit< tt; plain = refl }
branch_plain _ = record { some = lit< tt; plain = refl }

load_plain : (op : LoadOp) → IsPlain (load_name op)
load_plain loads.Lb = record { some = lit< tt; plain = refl }
load_plain _ = record { some = lit< tt; plain = refl }

store_plain : (op : StoreOp) → IsPlain (store_name op)
store_plain stores.Sb = record { some = lit< tt; plain = refl }
store_plain _ = record { some = lit< tt; plain = refl }

imm_plain : (op : ImmOp) → IsPlain (imm_name op)
imm_plain imms.Addi = record { some = lit< tt; plain = refl }
imm_plain _ = record { some = lit< tt; plain = refl }

reg_plain : (op : RegOp) → IsPlain (reg_name op)
reg_plain regs.Add = record { some = lit< tt; plain = refl }
reg_plain _ = record { some = lit< tt; plain = refl }

mul_plain : (op : MulOp) → IsPlain (mul_name op)
mul_plain muls.Mul = record { some = lit< tt; plain = refl }
mul_plain _ = record { some = lit< tt; plain = refl }

amo_plain : (op : AmoOp) → IsPlain (amo_name op)
amo_plain amos.Swap = record { some = lit< tt; plain = refl }
amo_plain _ = record { some = lit< tt; plain = refl }

width_plain : (width : Width) → list_all is_plain (width_text width) ≡ true
width_plain widths.Four = refl
width_plain widths.Eight = refl

order_plain : (aq rl : Bool) → list_all is_plain (order aq rl) ≡ true
order_plain false false = refl
order_plain false true = refl
order_plain true false = refl
order_plain true true = refl

name_plain : (inst : Inst) → IsPlain (name_text (name_of inst))
unfolding name_text
name_plain (insts.Upper op rd imm) = upper_plain op
name_plain (insts.Jal rd imm) = record { some = lit< tt; plain = refl }
name_plain (insts.Jalr rd rs1 imm) = record { some = lit< tt; plain = refl }
name_plain (insts.Branch op rs1 rs2 imm) = branch_plain op
name_plain (insts.Load op rd rs1 imm) = load_plain op
name_plain (insts.Store op rs1 rs2 imm) = store_plain op
name_plain (insts.Imm op rd rs1 imm) = imm_plain op
name_plain (insts.Reg op rd rs1 rs2) = reg_plain op
name_plain (insts.Mul op rd rs1 rs2) = mul_plain op
name_plain (insts.Amo op size aq rl rd rs1 rs2) = plain_more (amo_name op) _ (amo_plain op) (all_joined is_plain (width_text _) (order aq rl) (width_plain _) (order_plain aq rl))
name_plain (insts.Fence rd rs1 imm) = record { some = lit< tt; plain = refl }
name_plain insts.Ecall = record { some = lit< tt; plain = refl }
name_plain insts.Ebreak = record { some = lit< tt; plain = refl }
name_plain (insts.Sfence rs1 rs2) = record { some = lit< tt; plain = refl }

-- ---- numbers in range

-- an immediate is small
small_in : (half : ℕ) (n : ℤ) → half ≤ 2 ^ 31 → neg_ℤ (pos half) ≤ℤ n → n <ℤ pos half → IsSmall n
small_in half (pos n) le least below = omega (arith, ints)
small_in half (negsuc n) le least below = omega (arith, ints)

immediate_small : (half step : ℕ) (n : ℤ) → half ≤ 2 ^ 31 → IsImmediate half step n → IsSmall n
immediate_small half step n le h = small_in half n le h.least h.below

-- the number of a shift is small
shift_small : (limit : ℕ) (n : ℤ) → limit ≤ 64 → (pos 0 ≤ℤ n) × (n <ℤ pos limit) → IsSmall n
shift_small limit (pos n) le h = omega (arith, ints)
shift_small limit (negsuc n) le h = absurd (omega (arith, ints))

-- what an operation has is small
operand_small : (op : ImmOp) (n : ℤ) → IsOperand (imm_form op) n → IsSmall n
operand_small imms.Slli n h = shift_small 64 n (lit≤ tt) h
operand_small imms.Srli n h = shift_small 64 n (lit≤ tt) h
operand_small imms.Srai n h = shift_small 64 n (lit≤ tt) h
operand_small imms.Slliw n h = shift_small 32 n (lit≤ tt) h
operand_small imms.Srliw n h = shift_small 32 n (lit≤ tt) h
operand_small imms.Sraiw n h = shift_small 32 n (lit≤ tt) h
operand_small _ n h = immediate_small 2048 1 n (lit≤ tt) h

-- ---- the upper bits of an immediate

upper_pos : (n : ℕ) → upper_bits (pos n) ≡ n / 4096
upper_pos n = grind (arith, nat_tests)

upper_neg : (n : ℕ) → n < 2 ^ 32 → upper_bits (negsuc n) ≡ (2 ^ 32 - suc n) / 4096
upper_neg n lt = omega (arith, ints)

upper_fits : (imm : ℤ) → IsImmediate (2 ^ 31) 4096 imm → upper_bits imm < 2 ^ 20
upper_fits (pos n) h =
    let below : n < 2 ^ 31 = omega (arith, ints, h.below) in
    omega (arith, upper_pos n)
upper_fits (negsuc n) h =
    let least : n < 2 ^ 31 = omega (arith, ints, h.least) in
    omega (arith, upper_neg n (omega arith))

-- in two's complement the upper bits say the immediate
upper_reads : (imm : ℤ) → IsImmediate (2 ^ 31) 4096 imm → imm ≡ signed_reading (2 ^ 31) (4096 * upper_bits imm)
upper_reads (pos n) h =
    let below : n < 2 ^ 31 = omega (arith, ints, h.below) in
    let whole : 4096 * upper_bits (pos n) ≡ n = omega (arith, upper_pos n, h.multiple) in
    let low : signed_reading (2 ^ 31) n ≡ pos n = cond-true _ _ _ (lt-ltb n (2 ^ 31) below) in
    sym low ∙ ap (signed_reading (2 ^ 31)) (sym whole)
upper_reads (negsuc n) h =
    let least : n < 2 ^ 31 = omega (arith, ints, h.least) in
    let whole : 4096 * upper_bits (negsuc n) ≡ 2 ^ 32 - suc n = omega (arith, upper_neg n (omega arith), h.multiple) in
    let high : signed_reading (2 ^ 31) (2 ^ 32 - suc n) ≡ pos (2 ^ 32 - suc n) -ℤ pos (2 ^ 32) = cond-false _ _ _ (le-ltb (2 ^ 32 - suc n) (2 ^ 31) (omega arith)) in
    let back : pos (2 ^ 32 - suc n) -ℤ pos (2 ^ 32) ≡ negsuc n = omega (arith, ints) in
    sym back ∙ sym high ∙ ap (signed_reading (2 ^ 31)) (sym whole)

-- ---- operands: each is a plain word

plain_digits : PassesDigits is_plain
plain_digits digit lt = grind (arith, nat_tests)

register_plain : (r : ℕ) → r < 32 → IsPlain (register_text r)
register_plain r lt = record { some = omega arith; plain = decimal_passes is_plain plain_digits r (omega arith) }

bits_plain : (imm : ℤ) → IsImmediate (2 ^ 31) 4096 imm → IsPlain (decimal (upper_bits imm))
bits_plain imm h =
    let small : upper_bits imm < 2 ^ 64 = omega (arith, upper_fits imm h) in
    record { some = (is_decimal (upper_bits imm) small).0; plain = decimal_passes is_plain plain_digits (upper_bits imm) small }

number_plain : (n : ℤ) → IsSmall n → IsPlain (number_text n)
number_plain n small = record { some = signed_nonempty n small; plain = signed_passes is_plain plain_digits refl n small }

based_plain : (r : ℕ) → r < 32 → IsPlain (based_text r)
based_plain r lt = record { some = omega arith; plain = all_joined is_plain (40 ∷ register_text r) (41 ∷ []) (register_plain r lt).plain refl }

displaced_plain : (imm : ℤ) (r : ℕ) → IsImmediate 2048 1 imm → r < 32 → IsPlain (displaced_text imm r)
displaced_plain imm r h lt = plain_more (number_text imm) (based_text r) (number_plain imm (immediate_small 2048 1 imm (lit≤ tt) h)) (based_plain r lt).plain

operands_plain : (inst : Inst) → IsInst inst → ArePlain (operand_texts inst)
operands_plain (insts.Upper op rd imm) h = (register_plain rd h.0, (bits_plain imm h.1, tt))
operands_plain (insts.Jal rd imm) h = (register_plain rd h.0, (number_plain imm (immediate_small (2 ^ 20) 2 imm (lit≤ tt) h.1), tt))
operands_plain (insts.Jalr rd rs1 imm) h = (register_plain rd h.0, (displaced_plain imm rs1 h.2 h.1, tt))
operands_plain (insts.Branch op rs1 rs2 imm) h = (register_plain rs1 h.0, (register_plain rs2 h.1, (number_plain imm (immediate_small 4096 2 imm (lit≤ tt) h.2), tt)))
operands_plain (insts.Load op rd rs1 imm) h = (register_plain rd h.0, (displaced_plain imm rs1 h.2 h.1, tt))
operands_plain (insts.Store op rs1 rs2 imm) h = (register_plain rs2 h.1, (displaced_plain imm rs1 h.2 h.0, tt))
operands_plain (insts.Imm op rd rs1 imm) h = (register_plain rd h.0, (register_plain rs1 h.1, (number_plain imm (operand_small op imm h.2), tt)))
operands_plain (insts.Reg op rd rs1 rs2) h = (register_plain rd h.0, (register_plain rs1 h.1, (register_plain rs2 h.2, tt)))
operands_plain (insts.Mul op rd rs1 rs2) h = (register_plain rd h.0, (register_plain rs1 h.1, (register_plain rs2 h.2, tt)))
operands_plain (insts.Amo op size aq rl rd rs1 rs2) h = (register_plain rd h.1, (register_plain rs2 h.3, (based_plain rs1 h.2, tt)))
operands_plain (insts.Fence rd rs1 imm) h = (register_plain rd h.0, (register_plain rs1 h.1, (number_plain imm (immediate_small 2048 1 imm (lit≤ tt) h.2), tt)))
operands_plain insts.Ecall h = tt
operands_plain insts.Ebreak h = tt
operands_plain (insts.Sfence rs1 rs2) h = (register_plain rs1 h.0, (register_plain rs2 h.1, tt))

-- ---- operands in the grammar

-- a byte of a number
abbrev is_number_byte : ℕ → Bool
is_number_byte b = leb 45 b && leb b 57

number_digits : PassesDigits is_number_byte
number_digits digit lt = grind (arith, nat_tests)

no_first : (b : ℕ) → is_number_byte b ≡ true → is_name_start b ≡ false
no_first b h = grind (arith, nat_tests)

-- a number is no label
no_label : (n : ℤ) → IsSmall n → IsLabel (number_text n) → ⊥
no_label n small h =
    let bytes : list_all is_number_byte (h.first ∷ h.more) ≡ true = ap (list_all is_number_byte) (sym h.word_is) ∙ signed_passes is_number_byte number_digits refl n small in
    let first : is_number_byte h.first ≡ true = passes_inside is_number_byte [] h.first h.more bytes in
    false≢true (sym (no_first h.first first) ∙ h.begins)

target_is : (labels : List Label) (words : ℕ) (n : ℤ) → IsSmall n → IsTarget labels words (number_text n) n
target_is labels words n small = inr (no_label n small, signed_is_number n small)

upper_is : (imm : ℤ) → IsImmediate (2 ^ 31) 4096 imm → IsUpper (decimal (upper_bits imm)) imm
upper_is imm h = (
  upper_bits imm,
  decimal_is_number (upper_bits imm) (omega (arith, upper_fits imm h)),
  upper_fits imm h,
  upper_reads imm h,
)

based_is : (r : ℕ) → r < 32 → IsBased (based_text r) r
based_is r lt = (register_text r, (lt, refl), refl)

displaced_is : (imm : ℤ) (r : ℕ) → IsImmediate 2048 1 imm → r < 32 → IsDisplaced (displaced_text imm r) imm r
displaced_is imm r h lt = (number_text imm, based_text r, signed_is_number imm (immediate_small 2048 1 imm (lit≤ tt) h), based_is r lt, refl)

-- the operands are those of the instruction
operands_are : (labels : List Label) (words : ℕ) (inst : Inst) → IsInst inst → AreOperands labels words (operand_texts inst) inst
operands_are labels words (insts.Upper op rd imm) h = (_, _, refl, (h.0, refl), upper_is imm h.1)
operands_are labels words (insts.Jal rd imm) h = (_, _, refl, (h.0, refl), target_is labels words imm (immediate_small (2 ^ 20) 2 imm (lit≤ tt) h.1))
operands_are labels words (insts.Jalr rd rs1 imm) h = (_, _, refl, (h.0, refl), displaced_is imm rs1 h.2 h.1)
operands_are labels words (insts.Branch op rs1 rs2 imm) h = (_, _, _, refl, (h.0, refl), (h.1, refl), target_is labels words imm (immediate_small 4096 2 imm (lit≤ tt) h.2))
operands_are labels words (insts.Load op rd rs1 imm) h = (_, _, refl, (h.0, refl), displaced_is imm rs1 h.2 h.1)
operands_are labels words (insts.Store op rs1 rs2 imm) h = (_, _, refl, (h.1, refl), displaced_is imm rs1 h.2 h.0)
operands_are labels words (insts.Imm op rd rs1 imm) h = (_, _, _, refl, (h.0, refl), (h.1, refl), signed_is_number imm (operand_small op imm h.2))
operands_are labels words (insts.Reg op rd rs1 rs2) h = (_, _, _, refl, (h.0, refl), (h.1, refl), (h.2, refl))
operands_are labels words (insts.Mul op rd rs1 rs2) h = (_, _, _, refl, (h.0, refl), (h.1, refl), (h.2, refl))
operands_are labels words (insts.Amo op size aq rl rd rs1 rs2) h = (_, _, _, refl, (h.1, refl), (h.3, refl), based_is rs1 h.2)
operands_are labels words (insts.Fence rd rs1 imm) h = (_, _, _, refl, (h.0, refl), (h.1, refl), signed_is_number imm (immediate_small 2048 1 imm (lit≤ tt) h.2))
operands_are labels words insts.Ecall h = refl
operands_are labels words insts.Ebreak h = refl
operands_are labels words (insts.Sfence rs1 rs2) h = (_, _, refl, (h.0, refl), (h.1, refl))

-- ---- the text

-- the text of an instruction in range is a text whose one word is the instruction's
pub reads_back : (inst : Inst) (word : ℕ) (text : List ℕ) → IsInst inst → IsRow word inst → text ≡ printed inst → length text ≤ most_bytes → IsText 1 text (word ∷ [])
unfolding printed
reads_back inst word text fits row is within =
    text_is (name_text (name_of inst)) (operand_texts inst) text word
    (record { name_plain = name_plain inst; operands_plain = operands_plain inst fits })
    (inl (record { inst = inst; word = word; name_is = refl; are_operands = operands_are [] 0 inst fits; fits = fits; row = row; made_is = refl }))
    is within
