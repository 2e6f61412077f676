-- The reading of one statement against its grammar.
use Rattle.std.proofs.Common.{◌≡◌, ℕ, suc, ◌+◌, ◌-◌, ◌*◌, ◌%◌, ◌^◌, ◌<◌, ◌≤◌, Bool, List, [], ◌∷◌, length, codes, Result, Ok, ℤ, pos, negsuc, neg_ℤ, ◌-ℤ◌, ◌≤ℤ◌, unsigned_abs, refl, sym, ap, subst, ◌∙◌, arith, inl, inr}
use Rattle.std.proofs.lemmas.List.{length-replicate}
use Rattle.std.proofs.lemmas.Int.{ints}
use Rattle.std.proofs.lemmas.Bool.{cases_lt, cond-true, cond-false, lt-ltb, le-ltb}
use Rattle.rv_ext.specs.declared.op.AmoOp.{AmoOp}
use Rattle.rv_decode.specs.declared.op.UpperOp.{UpperOp}
use Rattle.rv_decode.specs.declared.op.BranchOp.{BranchOp}
use Rattle.rv_decode.specs.declared.inst.Inst.{Inst}
use Rattle.rv_decode.specs.declared.inst.Inst.TheVariants as insts
use Rattle.rv_decode.specs.declared.codes.ImmForm.{ImmForm}
use Rattle.rv_decode.specs.declared.codes.ImmForm.TheVariants as forms
use Rattle.rv_decode.specs.Formats.{IsI, signed_reading}
use Rattle.rv_decode.specs.Table.{IsRow, IsImm, IsRegister, IsImmediate, IsInst, IsOperand, imm_form}
use Rattle.rv_asm.specs.declared.fault.AsmKind.{AsmKind}
use Rattle.rv_asm.specs.declared.name.Width.{Width}
use Rattle.rv_asm.specs.declared.name.Width.TheVariants as widths
use Rattle.rv_asm.specs.declared.name.Name.{Name}
use Rattle.rv_asm.specs.declared.name.Name.TheVariants as names
use Rattle.rv_asm.specs.declared.statement.Statement.{Statement}
use Rattle.rv_asm.specs.declared.statement.Statement.TheVariants as statements
use Rattle.rv_asm.specs.Names.{name_text, name_of}
use Rattle.rv_asm.specs.Numbers.{IsNumber, IsRegisterName, register_of}
use Rattle.rv_asm.specs.Statements.{Spots, ◌>>=◌, or_bad, number_in, register_in, based_in, based_of, target_in, displaced_in, fill_in, none_of, one_of, two_of, three_of, least_of, most_of, registers_operands, immediate_operands, displaced_operands, bytes_of, upper_statement, jal_statement, branch_statement, amo_statement, sfence_statement, word_statement, double_word_statement, fill_statement, statement_of}
use Rattle.rv_asm.specs.Reading.{size_of, AreWordsOf}
use Rattle.rv_asm.specs.Grammar.{Label, IsBased, IsDisplaced, AreOperands, IsStatement}
use Rattle.rv_asm.proofs.NumberGrammar.{register_read, register_is}
use Rattle.rv_asm.proofs.OperandGrammar.{Agrees, bound, same_ok, some_of, number_in_read, number_in_is, natural, target_read, target_is, based_read, based_is, displaced_read, displaced_is, upper_read, upper_is, fill_in_read, fill_in_is}

-- ---- what has words fits

reading_low : (half bits : ℕ) → bits < half → signed_reading half bits ≡ pos bits
reading_low half bits h = cond-true _ _ _ (lt-ltb bits half h)

reading_high : (half bits : ℕ) → half ≤ bits → bits < 2 * half → signed_reading half bits ≡ negsuc (2 * half - bits - 1)
reading_high half bits h lt = let e = cond-false _ (pos bits) (pos bits -ℤ pos (2 * half)) (le-ltb bits half h) in omega (arith, ints, e)

-- what bits say is an immediate, where they are a multiple of the step, and what they lack to the next power too
reading_fits : (half step bits : ℕ) (imm : ℤ) → imm ≡ signed_reading half bits → bits < 2 * half → bits % step ≡ 0 → (half ≤ bits → (2 * half - bits) % step ≡ 0) → IsImmediate half step imm
reading_fits half step bits imm e lt m up =
    elim (cases_lt bits half) [
      | inl l ↦
          let is = e ∙ reading_low half bits l in
          rw is (record { least = omega (arith, ints); below = omega (arith, ints); multiple = m })
      | inr l ↦
          let is = e ∙ reading_high half bits l lt in
          let size : suc (2 * half - bits - 1) ≡ 2 * half - bits = omega arith in
          rw is (record { least = omega (arith, ints); below = omega (arith, ints); multiple = rw size (up l) })
    ]

i_fits : (word opcode rd funct3 rs1 : ℕ) (imm : ℤ) → IsI word opcode rd funct3 rs1 imm → IsRegister rd × IsRegister rs1 × IsImmediate 2048 1 imm
i_fits word opcode rd funct3 rs1 imm r = (r.rd_fits, r.rs1_fits, reading_fits 2048 1 r.imm_11_0 imm r.extended (omega arith) (omega arith) (λ h. omega arith))

imm_fits : (form : ImmForm) (word rd rs1 : ℕ) (imm : ℤ) → IsImm word form rd rs1 imm → IsRegister rd × IsRegister rs1 × IsOperand form imm
imm_fits (forms.Plain opcode funct3) word rd rs1 imm r = i_fits word opcode rd funct3 rs1 imm r
imm_fits (forms.Shift opcode funct3 limit upper) word rd rs1 imm r =
    let e = r.by_number in
    (r.rd_fits, r.rs1_fits, (omega (arith, ints), omega (arith, ints)))

-- an instruction that has a word has its operands in range
pub row_fits : (word : ℕ) (inst : Inst) → IsRow word inst → IsInst inst
row_fits word (insts.Upper op rd imm) r = (r.rd_fits, reading_fits (2 ^ 31) 4096 (2 ^ 12 * r.imm_31_12) imm r.extended (omega arith) (omega arith) (λ h. omega arith))
row_fits word (insts.Jal rd imm) r = (r.rd_fits, reading_fits (2 ^ 20) 2 (2 * r.imm_10_1 + 2 ^ 11 * r.imm_11 + 2 ^ 12 * r.imm_19_12 + 2 ^ 20 * r.imm_20) imm r.extended (omega arith) (omega arith) (λ h. omega arith))
row_fits word (insts.Jalr rd rs1 imm) r = i_fits word _ rd _ rs1 imm r
row_fits word (insts.Branch op rs1 rs2 imm) r = (r.rs1_fits, r.rs2_fits, reading_fits 4096 2 (2 * r.imm_4_1 + 2 ^ 5 * r.imm_10_5 + 2 ^ 11 * r.imm_11 + 2 ^ 12 * r.imm_12) imm r.extended (omega arith) (omega arith) (λ h. omega arith))
row_fits word (insts.Load op rd rs1 imm) r = i_fits word _ rd _ rs1 imm r
row_fits word (insts.Store op rs1 rs2 imm) r = (r.rs1_fits, r.rs2_fits, reading_fits 2048 1 (r.imm_4_0 + 2 ^ 5 * r.imm_11_5) imm r.extended (omega arith) (omega arith) (λ h. omega arith))
row_fits word (insts.Imm op rd rs1 imm) r = imm_fits (imm_form op) word rd rs1 imm r
row_fits word (insts.Reg op rd rs1 rs2) r = (r.rd_fits, r.rs1_fits, r.rs2_fits)
row_fits word (insts.Mul op rd rs1 rs2) r = (r.rd_fits, r.rs1_fits, r.rs2_fits)
row_fits word (insts.Amo op size aq rl rd rs1 rs2) (inl (e, r)) = (inl e, r.rd_fits, r.rs1_fits, r.rs2_fits)
row_fits word (insts.Amo op size aq rl rd rs1 rs2) (inr (e, r)) = (inr e, r.rd_fits, r.rs1_fits, r.rs2_fits)
row_fits word (insts.Fence rd rs1 imm) r = i_fits word _ rd _ rs1 imm r
row_fits word insts.Ecall r = tt
row_fits word insts.Ebreak r = tt
row_fits word (insts.Sfence rs1 rs2) r = (r.rs1_fits, r.rs2_fits)

-- ---- what was read is what the grammar says

-- the name and the operands are this statement, behind so many words of a text with these labels
abbrev pub IsRead : List Label → ℕ → Name → List (List ℕ) → Statement → Type 0
IsRead labels words name operands (statements.Make inst) = (name ≡ name_of inst) × AreOperands labels words operands inst
IsRead labels words name operands (statements.Word n) = (operand : List ℕ) × (name ≡ names.Word) × (operands ≡ operand ∷ []) × IsNumber operand (pos n) × (n < 2 ^ 32)
IsRead labels words name operands (statements.DoubleWord n) = (operand : List ℕ) × (name ≡ names.DoubleWord) × (operands ≡ operand ∷ []) × IsNumber operand (pos n) × (n < 2 ^ 64)
IsRead labels words name operands (statements.Fill count) = (operand : List ℕ) × (name ≡ names.At) × (operands ≡ operand ∷ []) × IsNumber operand (pos (4 * (words + count)))

none_is : (operands : List (List ℕ)) (u : Unit {0}) → none_of operands ≡ Ok u → operands ≡ []
none_is [] u h = refl
none_is (a ∷ more) u h = absurd cc

one_is : (operands : List (List ℕ)) (a : List ℕ) → one_of operands ≡ Ok a → operands ≡ a ∷ []
one_is [] a h = absurd cc
one_is (x ∷ []) a h = ap (λ (w : List ℕ). w ∷ []) (same_ok x a h)
one_is (x ∷ y ∷ more) a h = absurd cc

two_is : (operands : List (List ℕ)) (p : List ℕ × List ℕ) → two_of operands ≡ Ok p → operands ≡ p.0 ∷ p.1 ∷ []
two_is [] p h = absurd cc
two_is (x ∷ []) p h = absurd cc
two_is (x ∷ y ∷ []) p h = ap (λ (q : List ℕ × List ℕ). q.0 ∷ q.1 ∷ []) (same_ok (x, y) p h)
two_is (x ∷ y ∷ z ∷ more) p h = absurd cc

three_is : (operands : List (List ℕ)) (p : List ℕ × List ℕ × List ℕ) → three_of operands ≡ Ok p → operands ≡ p.0 ∷ p.1 ∷ p.2 ∷ []
three_is [] p h = absurd cc
three_is (x ∷ []) p h = absurd cc
three_is (x ∷ y ∷ []) p h = absurd cc
three_is (x ∷ y ∷ z ∷ []) p h = ap (λ (q : List ℕ × List ℕ × List ℕ). q.0 ∷ q.1 ∷ q.2 ∷ []) (same_ok (x, y, z) p h)
three_is (x ∷ y ∷ z ∷ w ∷ more) p h = absurd cc

register_in_is : (word : List ℕ) (r : ℕ) → register_in word ≡ Ok r → IsRegisterName word r
register_in_is word r h = register_is word r (some_of (register_of word) r h)

based_in_is : (word : List ℕ) (r : ℕ) → based_in word ≡ Ok r → IsBased word r
based_in_is word r h = based_is word r (some_of (based_of word) r h)

registers_are : (operands : List (List ℕ)) (p : ℕ × ℕ × ℕ) → registers_operands operands ≡ Ok p → (a b c : List ℕ) × (operands ≡ a ∷ b ∷ c ∷ []) × IsRegisterName a p.0 × IsRegisterName b p.1 × IsRegisterName c p.2
registers_are operands p h =
    let w = bound (three_of operands) _ p h in
    let x = bound (register_in w.0.0) _ p w.2 in
    let y = bound (register_in w.0.1) _ p x.2 in
    let z = bound (register_in w.0.2) _ p y.2 in
    let e = same_ok (x.0, y.0, z.0) p z.2 in
    (w.0.0, w.0.1, w.0.2, three_is operands w.0 w.1, register_in_is _ _ (x.1 ∙ ap (λ (q : ℕ × ℕ × ℕ). Ok q.0) e), register_in_is _ _ (y.1 ∙ ap (λ (q : ℕ × ℕ × ℕ). Ok q.1) e), register_in_is _ _ (z.1 ∙ ap (λ (q : ℕ × ℕ × ℕ). Ok q.2) e))

immediate_is : (least most : ℤ) (operands : List (List ℕ)) (p : ℕ × ℕ × ℤ) → immediate_operands least most operands ≡ Ok p → (a b c : List ℕ) × (operands ≡ a ∷ b ∷ c ∷ []) × IsRegisterName a p.0 × IsRegisterName b p.1 × IsNumber c p.2
immediate_is least most operands p h =
    let w = bound (three_of operands) _ p h in
    let x = bound (register_in w.0.0) _ p w.2 in
    let y = bound (register_in w.0.1) _ p x.2 in
    let z = bound (number_in least most w.0.2) _ p y.2 in
    let e = same_ok (x.0, y.0, z.0) p z.2 in
    (w.0.0, w.0.1, w.0.2, three_is operands w.0 w.1, register_in_is _ _ (x.1 ∙ ap (λ (q : ℕ × ℕ × ℤ). Ok q.0) e), register_in_is _ _ (y.1 ∙ ap (λ (q : ℕ × ℕ × ℤ). Ok q.1) e), (number_in_is least most _ _ (z.1 ∙ ap (λ (q : ℕ × ℕ × ℤ). Ok q.2) e)).0)

displaced_are : (operands : List (List ℕ)) (p : ℕ × ℤ × ℕ) → displaced_operands operands ≡ Ok p → (a b : List ℕ) × (operands ≡ a ∷ b ∷ []) × IsRegisterName a p.0 × IsDisplaced b p.1 p.2
displaced_are operands p h =
    let w = bound (two_of operands) _ p h in
    let x = bound (register_in w.0.0) _ p w.2 in
    let y = bound (displaced_in w.0.1) _ p x.2 in
    let e = same_ok (x.0, y.0.0, y.0.1) p y.2 in
    (w.0.0, w.0.1, two_is operands w.0 w.1, register_in_is _ _ (x.1 ∙ ap (λ (q : ℕ × ℤ × ℕ). Ok q.0) e), displaced_is _ _ _ (y.1 ∙ ap (λ (q : ℕ × ℤ × ℕ). Ok (q.1, q.2)) e))

-- what a reading makes of its operands
made_by : {P : Type 0} (read : Result P AsmKind) (make : P → Inst) (statement : Statement) (labels : List Label) (words : ℕ) (name : Name) (operands : List (List ℕ)) → ((p : P) → read ≡ Ok p → IsRead labels words name operands (statements.Make (make p))) → read >>= (λ p. Ok (statements.Make (make p))) ≡ Ok statement → IsRead labels words name operands statement
made_by read make statement labels words name operands is h =
    let b = bound read _ statement h in
    subst (λ (s : Statement). IsRead labels words name operands s) (same_ok _ statement b.2) (is b.0 b.1)

upper_are : (labels : List Label) (words : ℕ) (op : UpperOp) (operands : List (List ℕ)) (statement : Statement) → upper_statement op operands ≡ Ok statement → IsRead labels words (names.Upper op) operands statement
upper_are labels words op operands statement h =
    let w = bound (two_of operands) _ statement h in
    let x = bound (register_in w.0.0) _ statement w.2 in
    let y = bound (number_in (pos 0) (pos 1048575) w.0.1) _ statement x.2 in
    subst (λ (s : Statement). IsRead labels words (names.Upper op) operands s) (same_ok _ statement y.2)
    (refl, (w.0.0, w.0.1, two_is operands w.0 w.1, register_in_is _ _ x.1, upper_is _ _ y.1))

jal_are : (labels : List Label) (spots : Spots) (words : ℕ) (operands : List (List ℕ)) (statement : Statement) → Agrees labels spots → jal_statement spots words operands ≡ Ok statement → IsRead labels words names.Jal operands statement
jal_are labels spots words operands statement agrees h =
    let w = bound (two_of operands) _ statement h in
    let x = bound (register_in w.0.0) _ statement w.2 in
    let y = bound (target_in spots (pos (2 ^ 20)) words w.0.1) _ statement x.2 in
    subst (λ (s : Statement). IsRead labels words names.Jal operands s) (same_ok _ statement y.2)
    (refl, (w.0.0, w.0.1, two_is operands w.0 w.1, register_in_is _ _ x.1, target_is labels spots (pos (2 ^ 20)) words _ _ agrees y.1))

branch_are : (labels : List Label) (spots : Spots) (words : ℕ) (op : BranchOp) (operands : List (List ℕ)) (statement : Statement) → Agrees labels spots → branch_statement spots words op operands ≡ Ok statement → IsRead labels words (names.Branch op) operands statement
branch_are labels spots words op operands statement agrees h =
    let w = bound (three_of operands) _ statement h in
    let x = bound (register_in w.0.0) _ statement w.2 in
    let y = bound (register_in w.0.1) _ statement x.2 in
    let z = bound (target_in spots (pos 4096) words w.0.2) _ statement y.2 in
    subst (λ (s : Statement). IsRead labels words (names.Branch op) operands s) (same_ok _ statement z.2)
    (refl, (w.0.0, w.0.1, w.0.2, three_is operands w.0 w.1, register_in_is _ _ x.1, register_in_is _ _ y.1, target_is labels spots (pos 4096) words _ _ agrees z.1))

amo_name : (op : AmoOp) (width : Width) (aq rl : Bool) (rd rs1 rs2 : ℕ) → names.Amo op width aq rl ≡ name_of (insts.Amo op (bytes_of width) aq rl rd rs1 rs2)
amo_name op widths.Four aq rl rd rs1 rs2 = refl
amo_name op widths.Eight aq rl rd rs1 rs2 = refl

amo_are : (labels : List Label) (words : ℕ) (op : AmoOp) (width : Width) (aq rl : Bool) (operands : List (List ℕ)) (statement : Statement) → amo_statement op width aq rl operands ≡ Ok statement → IsRead labels words (names.Amo op width aq rl) operands statement
amo_are labels words op width aq rl operands statement h =
    let w = bound (three_of operands) _ statement h in
    let x = bound (register_in w.0.0) _ statement w.2 in
    let y = bound (register_in w.0.1) _ statement x.2 in
    let z = bound (based_in w.0.2) _ statement y.2 in
    subst (λ (s : Statement). IsRead labels words (names.Amo op width aq rl) operands s) (same_ok _ statement z.2)
    (amo_name op width aq rl x.0 z.0 y.0, (w.0.0, w.0.1, w.0.2, three_is operands w.0 w.1, register_in_is _ _ x.1, register_in_is _ _ y.1, based_in_is _ _ z.1))

sfence_are : (labels : List Label) (words : ℕ) (operands : List (List ℕ)) (statement : Statement) → sfence_statement operands ≡ Ok statement → IsRead labels words names.Sfence operands statement
sfence_are labels words operands statement h =
    let w = bound (two_of operands) _ statement h in
    let x = bound (register_in w.0.0) _ statement w.2 in
    let y = bound (register_in w.0.1) _ statement x.2 in
    subst (λ (s : Statement). IsRead labels words names.Sfence operands s) (same_ok _ statement y.2)
    (refl, (w.0.0, w.0.1, two_is operands w.0 w.1, register_in_is _ _ x.1, register_in_is _ _ y.1))

-- a number from 0 up is its size
size_is : (word : List ℕ) (most : ℕ) (n : ℤ) → number_in (pos 0) (pos most) word ≡ Ok n → IsNumber word (pos (unsigned_abs n)) × (unsigned_abs n ≤ most)
size_is word most n h =
    let w = number_in_is (pos 0) (pos most) n word h in
    let m = natural n w.1 in
    let above : n ≤ℤ pos most = w.2 in
    let e = m.1 in
    let same = ap unsigned_abs e in
    (subst (λ (x : ℤ). IsNumber word x) (e ∙ ap (λ (k : ℕ). pos k) (sym same)) w.0, omega (arith, ints))

word_are : (labels : List Label) (words : ℕ) (operands : List (List ℕ)) (statement : Statement) → word_statement operands ≡ Ok statement → IsRead labels words names.Word operands statement
word_are labels words operands statement h =
    let w = bound (one_of operands) _ statement h in
    let x = bound (number_in (pos 0) (pos (2 ^ 32 - 1)) w.0) _ statement w.2 in
    let s = size_is w.0 (2 ^ 32 - 1) x.0 x.1 in
    let below : unsigned_abs x.0 ≤ 2 ^ 32 - 1 = s.1 in
    subst (λ (s : Statement). IsRead labels words names.Word operands s) (same_ok _ statement x.2) (w.0, refl, one_is operands w.0 w.1, s.0, omega arith)

double_word_are : (labels : List Label) (words : ℕ) (operands : List (List ℕ)) (statement : Statement) → double_word_statement operands ≡ Ok statement → IsRead labels words names.DoubleWord operands statement
double_word_are labels words operands statement h =
    let w = bound (one_of operands) _ statement h in
    let x = bound (number_in (pos 0) (pos (2 ^ 64 - 1)) w.0) _ statement w.2 in
    let s = size_is w.0 (2 ^ 64 - 1) x.0 x.1 in
    let below : unsigned_abs x.0 ≤ 2 ^ 64 - 1 = s.1 in
    subst (λ (s : Statement). IsRead labels words names.DoubleWord operands s) (same_ok _ statement x.2) (w.0, refl, one_is operands w.0 w.1, s.0, omega arith)

fill_are : (labels : List Label) (limit words : ℕ) (operands : List (List ℕ)) (statement : Statement) → fill_statement limit words operands ≡ Ok statement → IsRead labels words names.At operands statement
fill_are labels limit words operands statement h =
    let x = bound (one_of operands >>= fill_in limit words) _ statement h in
    let w = bound (one_of operands) _ x.0 x.1 in
    subst (λ (s : Statement). IsRead labels words names.At operands s) (same_ok _ statement x.2) (w.0, refl, one_is operands w.0 w.1, fill_in_is limit words x.0 w.0 w.2)

-- a statement is read from operands that the grammar allows
pub read_is : (labels : List Label) (spots : Spots) (limit words : ℕ) (name : Name) (operands : List (List ℕ)) (statement : Statement) → Agrees labels spots → statement_of limit spots words name operands ≡ Ok statement → IsRead labels words name operands statement
unfolding statement_of
read_is labels spots limit words (names.Upper op) operands statement agrees h = upper_are labels words op operands statement h
read_is labels spots limit words names.Jal operands statement agrees h = jal_are labels spots words operands statement agrees h
read_is labels spots limit words names.Jalr operands statement agrees h = made_by (displaced_operands operands) (λ p. insts.Jalr p.0 p.2 p.1) statement labels words names.Jalr operands (λ p k. (refl, displaced_are operands p k)) h
read_is labels spots limit words (names.Branch op) operands statement agrees h = branch_are labels spots words op operands statement agrees h
read_is labels spots limit words (names.Load op) operands statement agrees h = made_by (displaced_operands operands) (λ p. insts.Load op p.0 p.2 p.1) statement labels words (names.Load op) operands (λ p k. (refl, displaced_are operands p k)) h
read_is labels spots limit words (names.Store op) operands statement agrees h = made_by (displaced_operands operands) (λ p. insts.Store op p.2 p.0 p.1) statement labels words (names.Store op) operands (λ p k. (refl, displaced_are operands p k)) h
read_is labels spots limit words (names.Imm op) operands statement agrees h = made_by (immediate_operands (least_of (imm_form op)) (most_of (imm_form op)) operands) (λ p. insts.Imm op p.0 p.1 p.2) statement labels words (names.Imm op) operands (λ p k. (refl, immediate_is (least_of (imm_form op)) (most_of (imm_form op)) operands p k)) h
read_is labels spots limit words (names.Reg op) operands statement agrees h = made_by (registers_operands operands) (λ p. insts.Reg op p.0 p.1 p.2) statement labels words (names.Reg op) operands (λ p k. (refl, registers_are operands p k)) h
read_is labels spots limit words (names.Mul op) operands statement agrees h = made_by (registers_operands operands) (λ p. insts.Mul op p.0 p.1 p.2) statement labels words (names.Mul op) operands (λ p k. (refl, registers_are operands p k)) h
read_is labels spots limit words (names.Amo op width aq rl) operands statement agrees h = amo_are labels words op width aq rl operands statement h
read_is labels spots limit words names.Fence operands statement agrees h = made_by (immediate_operands (neg_ℤ (pos 2048)) (pos 2047) operands) (λ p. insts.Fence p.0 p.1 p.2) statement labels words names.Fence operands (λ p k. (refl, immediate_is (neg_ℤ (pos 2048)) (pos 2047) operands p k)) h
read_is labels spots limit words names.Ecall operands statement agrees h = made_by (none_of operands) (λ u. insts.Ecall) statement labels words names.Ecall operands (λ u k. (refl, none_is operands u k)) h
read_is labels spots limit words names.Ebreak operands statement agrees h = made_by (none_of operands) (λ u. insts.Ebreak) statement labels words names.Ebreak operands (λ u k. (refl, none_is operands u k)) h
read_is labels spots limit words names.Sfence operands statement agrees h = sfence_are labels words operands statement h
read_is labels spots limit words names.Word operands statement agrees h = word_are labels words operands statement h
read_is labels spots limit words names.DoubleWord operands statement agrees h = double_word_are labels words operands statement h
read_is labels spots limit words names.At operands statement agrees h = fill_are labels limit words operands statement h

-- the name of a number of 32 bits
pub word_text : name_text names.Word ≡ codes ".word"
unfolding name_text
word_text = refl

-- the name of a number of 64 bits
pub double_word_text : name_text names.DoubleWord ≡ codes ".dword"
unfolding name_text
double_word_text = refl

-- the name of what fills up to a place
pub fill_text : name_text names.At ≡ codes ".at"
unfolding name_text
fill_text = refl

-- what was read is a statement of the grammar, with the words that it stands for
pub sound : (labels : List Label) (spots : Spots) (limit words : ℕ) (name : Name) (operands : List (List ℕ)) (statement : Statement) (made : List ℕ) → Agrees labels spots → statement_of limit spots words name operands ≡ Ok statement → AreWordsOf statement made → IsStatement labels words (name_text name) operands made
sound labels spots limit words name operands statement made agrees h are = said statement (read_is labels spots limit words name operands statement agrees h) are
  where
    said : (statement : Statement) → IsRead labels words name operands statement → AreWordsOf statement made → IsStatement labels words (name_text name) operands made
    said (statements.Make inst) (e, are_operands) (word, row, made_is) = inl (record { inst = inst; word = word; name_is = ap name_text e; are_operands = are_operands; fits = row_fits word inst row.0; row = row.0; made_is = made_is })
    said (statements.Word n) (operand, e, one, is, lt) made_is = inr (inl (operand, n, ap name_text e ∙ word_text, one, is, lt, made_is))
    said (statements.DoubleWord n) (operand, e, one, is, lt) made_is = inr (inr (inl (operand, n, ap name_text e ∙ double_word_text, one, is, lt, made_is)))
    said (statements.Fill count) (operand, e, one, is) made_is = inr (inr (inr (operand, count, ap name_text e ∙ fill_text, one, is, made_is)))

-- ---- what the grammar says is read

register_in_read : (word : List ℕ) (r : ℕ) → IsRegisterName word r → register_in word ≡ Ok r
register_in_read word r is = ap or_bad (register_read word r is)

based_in_read : (word : List ℕ) (r : ℕ) → IsBased word r → based_in word ≡ Ok r
based_in_read word r is = ap or_bad (based_read word r is)

registers_read : (operands : List (List ℕ)) (x y z : ℕ) → (a b c : List ℕ) × (operands ≡ a ∷ b ∷ c ∷ []) × IsRegisterName a x × IsRegisterName b y × IsRegisterName c z → registers_operands operands ≡ Ok (x, y, z)
registers_read operands x y z (a, b, c, e, p, q, r) = rw (e, register_in_read a x p, register_in_read b y q, register_in_read c z r) refl

immediate_read : (least most : ℤ) (operands : List (List ℕ)) (x y : ℕ) (n : ℤ) → (a b c : List ℕ) × (operands ≡ a ∷ b ∷ c ∷ []) × IsRegisterName a x × IsRegisterName b y × IsNumber c n → least ≤ℤ n → n ≤ℤ most → immediate_operands least most operands ≡ Ok (x, y, n)
immediate_read least most operands x y n (a, b, c, e, p, q, r) h k = rw (e, register_in_read a x p, register_in_read b y q, number_in_read least most n c r h k) refl

displaced_operands_read : (operands : List (List ℕ)) (x base : ℕ) (n : ℤ) → (a b : List ℕ) × (operands ≡ a ∷ b ∷ []) × IsRegisterName a x × IsDisplaced b n base → IsImmediate 2048 1 n → displaced_operands operands ≡ Ok (x, n, base)
displaced_operands_read operands x base n (a, b, e, p, q) fits = rw (e, register_in_read a x p, displaced_read b n base q fits.least (let m = fits.below in omega (arith, ints))) refl

-- the range of an immediate, with its ends
operand_range : (form : ImmForm) (imm : ℤ) → IsOperand form imm → (least_of form ≤ℤ imm) × (imm ≤ℤ most_of form)
operand_range (forms.Plain opcode funct3) imm h = let m = h.below in (h.least, omega (arith, ints))
operand_range (forms.Shift opcode funct3 limit upper) imm h = let m = h.1 in (h.0, omega (arith, ints))

-- an instruction in range is read from the operands that the grammar gives it
pub inst_read : (labels : List Label) (spots : Spots) (limit words : ℕ) (operands : List (List ℕ)) (inst : Inst) → Agrees labels spots → AreOperands labels words operands inst → IsInst inst → statement_of limit spots words (name_of inst) operands ≡ Ok (statements.Make inst)
unfolding statement_of
inst_read labels spots limit words operands (insts.Upper op rd imm) agrees (a, b, e, p, q) fits =
    let u = upper_read b imm q in
    rw (e, register_in_read a rd p, u.1) (ap (λ (n : ℤ). Ok (statements.Make (insts.Upper op rd n))) u.2)
inst_read labels spots limit words operands (insts.Jal rd imm) agrees (a, b, e, p, q) fits =
    rw (e, register_in_read a rd p, target_read labels spots (2 ^ 20) words b imm agrees q fits.1) refl
inst_read labels spots limit words operands (insts.Jalr rd rs1 imm) agrees are fits =
    rw (displaced_operands_read operands rd rs1 imm are fits.2) refl
inst_read labels spots limit words operands (insts.Branch op rs1 rs2 imm) agrees (a, b, c, e, p, q, r) fits =
    rw (e, register_in_read a rs1 p, register_in_read b rs2 q, target_read labels spots 4096 words c imm agrees r fits.2) refl
inst_read labels spots limit words operands (insts.Load op rd rs1 imm) agrees are fits =
    rw (displaced_operands_read operands rd rs1 imm are fits.2) refl
inst_read labels spots limit words operands (insts.Store op rs1 rs2 imm) agrees are fits =
    rw (displaced_operands_read operands rs2 rs1 imm are fits.2) refl
inst_read labels spots limit words operands (insts.Imm op rd rs1 imm) agrees are fits =
    let k = operand_range (imm_form op) imm fits.2 in
    rw (immediate_read (least_of (imm_form op)) (most_of (imm_form op)) operands rd rs1 imm are k.0 k.1) refl
inst_read labels spots limit words operands (insts.Reg op rd rs1 rs2) agrees are fits =
    rw (registers_read operands rd rs1 rs2 are) refl
inst_read labels spots limit words operands (insts.Mul op rd rs1 rs2) agrees are fits =
    rw (registers_read operands rd rs1 rs2 are) refl
inst_read labels spots limit words operands (insts.Amo op size aq rl rd rs1 rs2) agrees (a, b, c, e, p, q, r) (inl four, d, s, t) =
    rw (four, e, register_in_read a rd p, register_in_read b rs2 q, based_in_read c rs1 r) refl
inst_read labels spots limit words operands (insts.Amo op size aq rl rd rs1 rs2) agrees (a, b, c, e, p, q, r) (inr eight, d, s, t) =
    rw (eight, e, register_in_read a rd p, register_in_read b rs2 q, based_in_read c rs1 r) refl
inst_read labels spots limit words operands (insts.Fence rd rs1 imm) agrees are fits =
    let k = operand_range (forms.Plain 0 0) imm fits.2 in
    rw (immediate_read (neg_ℤ (pos 2048)) (pos 2047) operands rd rs1 imm are k.0 k.1) refl
inst_read labels spots limit words operands insts.Ecall agrees e fits = rw e refl
inst_read labels spots limit words operands insts.Ebreak agrees e fits = rw e refl
inst_read labels spots limit words operands (insts.Sfence rs1 rs2) agrees (a, b, e, p, q) fits =
    rw (e, register_in_read a rs1 p, register_in_read b rs2 q) refl

alone_made : (word : ℕ) (inst : Inst) (made other : List ℕ) → IsRow word inst → made ≡ word ∷ [] → AreWordsOf (statements.Make inst) other → other ≡ made
alone_made word inst made other row e (w, is, o) = o ∙ ap (λ (x : ℕ). x ∷ []) (is.1 word row) ∙ sym e

word_read : (spots : Spots) (limit words n : ℕ) (operand : List ℕ) → IsNumber operand (pos n) → n < 2 ^ 32 → statement_of limit spots words names.Word (operand ∷ []) ≡ Ok (statements.Word n)
unfolding statement_of
word_read spots limit words n operand is lt = rw (number_in_read (pos 0) (pos (2 ^ 32 - 1)) (pos n) operand is (omega (arith, ints)) (omega (arith, ints))) refl

double_word_read : (spots : Spots) (limit words n : ℕ) (operand : List ℕ) → IsNumber operand (pos n) → n < 2 ^ 64 → statement_of limit spots words names.DoubleWord (operand ∷ []) ≡ Ok (statements.DoubleWord n)
unfolding statement_of
double_word_read spots limit words n operand is lt = rw (number_in_read (pos 0) (pos (2 ^ 64 - 1)) (pos n) operand is (omega (arith, ints)) (omega (arith, ints))) refl

fill_read : (spots : Spots) (limit words count : ℕ) (operand : List ℕ) → IsNumber operand (pos (4 * (words + count))) → words + count ≤ limit → statement_of limit spots words names.At (operand ∷ []) ≡ Ok (statements.Fill count)
unfolding statement_of
fill_read spots limit words count operand is le = rw (fill_in_read limit words count operand is le) refl

-- the word names a statement that is read from these operands, and that stands for these words and no others
abbrev pub IsReadAs : ℕ → Spots → ℕ → List ℕ → List (List ℕ) → List ℕ → Type 0
IsReadAs limit spots words word operands made =
    (name : Name) × (statement : Statement) × (word ≡ name_text name) × (statement_of limit spots words name operands ≡ Ok statement) × ((other : List ℕ) → AreWordsOf statement other → other ≡ made) × (size_of statement ≡ length made)

-- a statement of the grammar for whose words there is room is read
pub complete : (labels : List Label) (spots : Spots) (limit words : ℕ) (word : List ℕ) (operands : List (List ℕ)) (made : List ℕ) → Agrees labels spots → IsStatement labels words word operands made → words + length made ≤ limit → IsReadAs limit spots words word operands made
complete labels spots limit words word operands made agrees (inl m) room =
    (name_of m.inst, statements.Make m.inst, m.name_is, inst_read labels spots limit words operands m.inst agrees m.are_operands m.fits, (λ other are. alone_made m.word m.inst made other m.row m.made_is are), rw m.made_is refl)
complete labels spots limit words word operands made agrees (inr (inl (operand, n, e, one, is, lt, made_is))) room =
    (names.Word, statements.Word n, e ∙ sym word_text, rw one (word_read spots limit words n operand is lt), (λ other are. are ∙ sym made_is), rw made_is refl)
complete labels spots limit words word operands made agrees (inr (inr (inl (operand, n, e, one, is, lt, made_is)))) room =
    (names.DoubleWord, statements.DoubleWord n, e ∙ sym double_word_text, rw one (double_word_read spots limit words n operand is lt), (λ other are. are ∙ sym made_is), rw made_is refl)
complete labels spots limit words word operands made agrees (inr (inr (inr (operand, count, e, one, is, made_is)))) room =
    let size : length made ≡ count = ap length made_is ∙ length-replicate count 0 in
    (names.At, statements.Fill count, e ∙ sym fill_text, rw one (fill_read spots limit words count operand is (omega arith)), (λ other are. are ∙ sym made_is), sym size)
