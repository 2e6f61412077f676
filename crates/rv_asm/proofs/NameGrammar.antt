-- The names of statements are words that name them.
use Rattle.std.proofs.Common.{◌≡◌, ℕ, Bool, true, false, List, [], ◌∷◌, Some, refl, inl, inr}
use Rattle.std.specs.List.{find}
use Rattle.std.specs.Str.{bytes_eq}
use Rattle.std.proofs.lemmas.Bool.{cases_Bool}
use Rattle.std.proofs.lemmas.Slice.Eq.{bytes_eq-Decides}
use Rattle.rv_decode.specs.declared.op.UpperOp.{UpperOp}
use Rattle.rv_decode.specs.declared.op.UpperOp.TheVariants as uppers
use Rattle.rv_decode.specs.declared.op.BranchOp.{BranchOp}
use Rattle.rv_decode.specs.declared.op.BranchOp.TheVariants as branches
use Rattle.rv_decode.specs.declared.op.LoadOp.{LoadOp}
use Rattle.rv_decode.specs.declared.op.LoadOp.TheVariants as loads
use Rattle.rv_decode.specs.declared.op.StoreOp.{StoreOp}
use Rattle.rv_decode.specs.declared.op.StoreOp.TheVariants as stores
use Rattle.rv_decode.specs.declared.op.ImmOp.{ImmOp}
use Rattle.rv_decode.specs.declared.op.ImmOp.TheVariants as imms
use Rattle.rv_decode.specs.declared.op.RegOp.{RegOp}
use Rattle.rv_decode.specs.declared.op.RegOp.TheVariants as regs
use Rattle.rv_ext.specs.declared.op.MulOp.{MulOp}
use Rattle.rv_ext.specs.declared.op.MulOp.TheVariants as muls
use Rattle.rv_ext.specs.declared.op.AmoOp.{AmoOp}
use Rattle.rv_ext.specs.declared.op.AmoOp.TheVariants as amos
use Rattle.rv_asm.specs.declared.name.Width.{Width}
use Rattle.rv_asm.specs.declared.name.Width.TheVariants as widths
use Rattle.rv_asm.specs.declared.name.Name.{Name}
use Rattle.rv_asm.specs.declared.name.Name.TheVariants as names
use Rattle.rv_asm.specs.Names.{name_text, all_names, named}

-- what is found passes the test
found : {X : Type 0} (test : X → Bool) (xs : List X) (x : X) → find test xs ≡ Some x → test x ≡ true
found test [] x h = absurd cc
found test (y ∷ ys) x h =
    elim (cases_Bool (test y)) [
      | inl t ↦ let e : y ≡ x = (let k = rw t at h in cc) in rw e at t
      | inr f ↦ found test ys x (rw f at h)
    ]

-- a word that is read as a name is the name's text
pub name_is : (word : List ℕ) (name : Name) → named word ≡ Some name → word ≡ name_text name
unfolding named
name_is word name h = (bytes_eq-Decides word (name_text name)).0 (found (λ name. bytes_eq word (name_text name)) all_names name h)

upper_named : (op : UpperOp) → named (name_text (names.Upper op)) ≡ Some (names.Upper op)
unfolding named name_text
upper_named uppers.Lui = refl
upper_named _ = refl

branch_named : (op : BranchOp) → named (name_text (names.Branch op)) ≡ Some (names.Branch op)
unfolding named name_text
branch_named branches.Beq = refl
branch_named _ = refl

load_named : (op : LoadOp) → named (name_text (names.Load op)) ≡ Some (names.Load op)
unfolding named name_text
load_named loads.Lb = refl
load_named _ = refl

store_named : (op : StoreOp) → named (name_text (names.Store op)) ≡ Some (names.Store op)
unfolding named name_text
store_named stores.Sb = refl
store_named _ = refl

imm_named : (op : ImmOp) → named (name_text (names.Imm op)) ≡ Some (names.Imm op)
unfolding named name_text
imm_named imms.Addi = refl
imm_named _ = refl

reg_named : (op : RegOp) → named (name_text (names.Reg op)) ≡ Some (names.Reg op)
unfolding named name_text
reg_named regs.Add = refl
reg_named _ = refl

mul_named : (op : MulOp) → named (name_text (names.Mul op)) ≡ Some (names.Mul op)
unfolding named name_text
mul_named muls.Mul = refl
mul_named _ = refl

amo_named : (op : AmoOp) (width : Width) (aq rl : Bool) → named (name_text (names.Amo op width aq rl)) ≡ Some (names.Amo op width aq rl)
unfolding named name_text
amo_named amos.Swap widths.Four false false = refl
amo_named _ widths.Four false false = refl
amo_named amos.Swap widths.Four false true = refl
amo_named _ widths.Four false true = refl
amo_named amos.Swap widths.Four true false = refl
amo_named _ widths.Four true false = refl
amo_named amos.Swap widths.Four true true = refl
amo_named _ widths.Four true true = refl
amo_named amos.Swap widths.Eight false false = refl
amo_named _ widths.Eight false false = refl
amo_named amos.Swap widths.Eight false true = refl
amo_named _ widths.Eight false true = refl
amo_named amos.Swap widths.Eight true false = refl
amo_named _ widths.Eight true false = refl
amo_named amos.Swap widths.Eight true true = refl
amo_named _ widths.Eight true true = refl

-- each name's text is read as the name
pub name_read : (name : Name) → named (name_text name) ≡ Some name
unfolding named name_text
name_read (names.Upper op) = upper_named op
name_read (names.Branch op) = branch_named op
name_read (names.Load op) = load_named op
name_read (names.Store op) = store_named op
name_read (names.Imm op) = imm_named op
name_read (names.Reg op) = reg_named op
name_read (names.Mul op) = mul_named op
name_read (names.Amo op width aq rl) = amo_named op width aq rl
name_read _ = refl
