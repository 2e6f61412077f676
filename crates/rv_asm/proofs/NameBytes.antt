-- The names of statements: each has bytes, and none of them is a blank or a colon.
use Rattle.std.proofs.Common.{◌≡◌, ℕ, Bool, true, false, not, ◌&&◌, List, [], ◌∷◌, ◌++◌, refl, ap, ◌∙◌, inl, inr}
use Rattle.std.specs.List.{list_all}
use Rattle.std.proofs.lemmas.Bool.{false≢true}
use Rattle.rv_decode.specs.declared.op.UpperOp.{UpperOp}
use Rattle.rv_decode.specs.declared.op.UpperOp.TheVariants as uppers
use Rattle.rv_decode.specs.declared.op.BranchOp.{BranchOp}
use Rattle.rv_decode.specs.declared.op.BranchOp.TheVariants as branches
use Rattle.rv_decode.specs.declared.op.LoadOp.{LoadOp}
use Rattle.rv_decode.specs.declared.op.LoadOp.TheVariants as loads
use Rattle.rv_decode.specs.declared.op.StoreOp.{StoreOp}
use Rattle.rv_decode.specs.declared.op.StoreOp.TheVariants as stores
use Rattle.rv_decode.specs.declared.op.ImmOp.{ImmOp}
use Rattle.rv_decode.specs.declared.op.ImmOp.TheVariants as imms
use Rattle.rv_decode.specs.declared.op.RegOp.{RegOp}
use Rattle.rv_decode.specs.declared.op.RegOp.TheVariants as regs
use Rattle.rv_ext.specs.declared.op.MulOp.{MulOp}
use Rattle.rv_ext.specs.declared.op.MulOp.TheVariants as muls
use Rattle.rv_ext.specs.declared.op.AmoOp.{AmoOp}
use Rattle.rv_ext.specs.declared.op.AmoOp.TheVariants as amos
use Rattle.rv_asm.specs.declared.name.Width.{Width}
use Rattle.rv_asm.specs.declared.name.Width.TheVariants as widths
use Rattle.rv_asm.specs.declared.name.Name.{Name}
use Rattle.rv_asm.specs.declared.name.Name.TheVariants as names
use Rattle.rv_asm.specs.Names.{upper_name, branch_name, load_name, store_name, imm_name, reg_name, mul_name, amo_name, width_text, order, name_text, name_of}
use Rattle.text_in.specs.Bytes.{is_solid}
use Rattle.rv_asm.specs.Text.{is_colon}
use Rattle.rv_asm.specs.Grammar.{Label, IsStatement}
use Rattle.text_in.proofs.Cuts.{all_append}

-- no blank and no colon
abbrev pub is_plain : ℕ → Bool
is_plain b = is_solid b && not (is_colon b)

-- such bytes, at least one
abbrev pub is_plain_word : List ℕ → Bool
is_plain_word [] = false
is_plain_word (b ∷ bs) = list_all is_plain (b ∷ bs)

uppers_are : (op : UpperOp) → is_plain_word (upper_name op) ≡ true
uppers_are uppers.Lui = refl
uppers_are _ = refl

branches_are : (op : BranchOp) → is_plain_word (branch_name op) ≡ true
branches_are branches.Beq = refl
branches_are _ = refl

loads_are : (op : LoadOp) → is_plain_word (load_name op) ≡ true
loads_are loads.Lb = refl
loads_are _ = refl

stores_are : (op : StoreOp) → is_plain_word (store_name op) ≡ true
stores_are stores.Sb = refl
stores_are _ = refl

imms_are : (op : ImmOp) → is_plain_word (imm_name op) ≡ true
imms_are imms.Addi = refl
imms_are _ = refl

regs_are : (op : RegOp) → is_plain_word (reg_name op) ≡ true
regs_are regs.Add = refl
regs_are _ = refl

muls_are : (op : MulOp) → is_plain_word (mul_name op) ≡ true
muls_are muls.Mul = refl
muls_are _ = refl

amos_are : (op : AmoOp) → is_plain_word (amo_name op) ≡ true
amos_are amos.Swap = refl
amos_are _ = refl

widths_are : (width : Width) → list_all is_plain (width_text width) ≡ true
widths_are widths.Four = refl
widths_are widths.Eight = refl

orders_are : (aq rl : Bool) → list_all is_plain (order aq rl) ≡ true
orders_are false false = refl
orders_are true false = refl
orders_are false true = refl
orders_are true true = refl

longer : (front back : List ℕ) → is_plain_word front ≡ true → list_all is_plain back ≡ true → is_plain_word (front ++ back) ≡ true
longer [] back f b = absurd (false≢true f)
longer (c ∷ cs) back f b = all_append is_plain (c ∷ cs) back f b

-- no name of a statement is empty, or has a blank or a colon
pub name_is_plain : (name : Name) → is_plain_word (name_text name) ≡ true
unfolding name_text
name_is_plain (names.Upper op) = uppers_are op
name_is_plain (names.Branch op) = branches_are op
name_is_plain (names.Load op) = loads_are op
name_is_plain (names.Store op) = stores_are op
name_is_plain (names.Imm op) = imms_are op
name_is_plain (names.Reg op) = regs_are op
name_is_plain (names.Mul op) = muls_are op
name_is_plain (names.Amo op width aq rl) = longer (amo_name op) (width_text width ++ order aq rl) (amos_are op) (all_append is_plain (width_text width) (order aq rl) (widths_are width) (orders_are aq rl))
name_is_plain names.Jal = refl
name_is_plain names.Jalr = refl
name_is_plain names.Fence = refl
name_is_plain names.Ecall = refl
name_is_plain names.Ebreak = refl
name_is_plain names.Sfence = refl
name_is_plain names.Word = refl
name_is_plain names.DoubleWord = refl
name_is_plain names.At = refl

-- the first word of a statement
pub statement_is_plain : (labels : List Label) (words : ℕ) (name : List ℕ) (operands : List (List ℕ)) (made : List ℕ) → IsStatement labels words name operands made → is_plain_word name ≡ true
statement_is_plain labels words name operands made (inl h) = ap is_plain_word h.name_is ∙ name_is_plain (name_of h.inst)
statement_is_plain labels words name operands made (inr (inl h)) = ap is_plain_word h.2
statement_is_plain labels words name operands made (inr (inr (inl h))) = ap is_plain_word h.2
statement_is_plain labels words name operands made (inr (inr (inr h))) = ap is_plain_word h.2

pub plain_all : (word : List ℕ) → is_plain_word word ≡ true → list_all is_plain word ≡ true
plain_all [] h = refl
plain_all (b ∷ bs) h = h
