-- How many words a line of the grammar has, and so where its labels stand.
use Rattle.std.proofs.Common.{◌≡◌, ℕ, ◌+◌, ◌*◌, ◌≤◌, true, List, [], ◌∷◌, ◌++◌, length, replicate, pos, Option, Some, None, refl, sym, ap, ◌∙◌, arith, inl, inr}
use Rattle.std.proofs.lemmas.List.{length-append, length-replicate}
use Rattle.rv_decode.specs.declared.inst.Inst.{Inst}
use Rattle.rv_decode.specs.declared.inst.Inst.TheVariants as insts
use Rattle.rv_asm.specs.declared.label.Spot.{Spot}
use Rattle.rv_asm.specs.declared.name.Name.TheVariants as names
use Rattle.rv_asm.specs.Names.{name_text, name_of, named}
use Rattle.rv_asm.specs.Numbers.{IsNumber}
use Rattle.text_in.specs.Bytes.{is_solid, ends}
use Rattle.rv_asm.specs.Text.{body_of, statement_text, name_word, operands_text, operands_of}
use Rattle.rv_asm.specs.Statements.{fill_of}
use Rattle.rv_asm.specs.Reading.{filled, size_by, words_in, spotted, labels_from}
use Rattle.rv_asm.specs.Grammar.{Label, IsStatement, IsStatementText, IsLine, labelled, AreLines}
use Rattle.rv_asm.proofs.Apart.{placed}
use Rattle.rv_asm.proofs.BodyGrammar.{line_read, text_ends}
use Rattle.rv_asm.proofs.NameGrammar.{name_read}
use Rattle.rv_asm.proofs.OperandGrammar.{label_read, fill_in_read}
use Rattle.rv_asm.proofs.PartsGrammar.{statement_read}
use Rattle.rv_asm.proofs.StatementGrammar.{word_text, double_word_text, fill_text}

-- ---- how many words

made_size : (limit words : ℕ) (text : List ℕ) (inst : Inst) → size_by limit words text (Some (name_of inst)) ≡ 1
made_size limit words text insts.Ecall = refl
made_size limit words text _ = refl

fill_size : (limit words count : ℕ) (operands : List (List ℕ)) (operand : List ℕ) (made : List ℕ) → operands ≡ operand ∷ [] → IsNumber operand (pos (4 * (words + count))) → made ≡ replicate count 0 → words + length made ≤ limit
    → filled (fill_of limit words operands) ≡ length made
fill_size limit words count operands operand made one is made_is room =
    let size : length made ≡ count = ap length made_is ∙ length-replicate count 0 in
    ap (λ (x : List (List ℕ)). filled (fill_of limit words x)) one ∙ ap filled (fill_in_read limit words count operand is (omega arith)) ∙ sym size

-- a statement of the grammar has as many words as its name says
statement_size : (labels : List Label) (limit words : ℕ) (word text made : List ℕ) → IsStatement labels words word (operands_of text) made → words + length made ≤ limit → size_by limit words text (named word) ≡ length made
statement_size labels limit words word text made (inl m) room =
    ap (size_by limit words text) (ap named m.name_is ∙ name_read (name_of m.inst)) ∙ made_size limit words text m.inst ∙ sym (ap length m.made_is)
statement_size labels limit words word text made (inr (inl (operand, n, e, one, is, lt, made_is))) room =
    ap (size_by limit words text) (ap named (e ∙ sym word_text) ∙ name_read names.Word) ∙ sym (ap length made_is)
statement_size labels limit words word text made (inr (inr (inl (operand, n, e, one, is, lt, made_is)))) room =
    ap (size_by limit words text) (ap named (e ∙ sym double_word_text) ∙ name_read names.DoubleWord) ∙ sym (ap length made_is)
statement_size labels limit words word text made (inr (inr (inr (operand, count, e, one, is, made_is)))) room =
    ap (size_by limit words text) (ap named (e ∙ sym fill_text) ∙ name_read names.At) ∙ fill_size limit words count (operands_of text) operand made one is made_is room

none_in : (limit words : ℕ) → words_in limit words [] ≡ 0
unfolding words_in named name_text
none_in limit words = refl

text_size : (labels : List Label) (limit words : ℕ) (text made : List ℕ) → ends is_solid text ≡ true → IsStatementText labels words text made → words + length made ≤ limit → words_in limit words text ≡ length made
unfolding words_in
text_size labels limit words text made solid h room =
    elim (statement_read labels words text made solid h) [
      | inl none ↦ ap (words_in limit words) none.0 ∙ none_in limit words ∙ sym (ap length none.1)
      | inr is ↦ statement_size labels limit words (name_word text) (operands_text text) made is room
    ]

-- a line of the grammar has as many words as the name of its statement says
pub line_size : (labels : List Label) (limit words : ℕ) (line : List ℕ) (label : Option (List ℕ)) (made : List ℕ) → IsLine labels words line label made → words + length made ≤ limit
    → words_in limit words (statement_text (body_of line)) ≡ length made
line_size labels limit words line label made h room =
    text_size labels limit words (statement_text (body_of line)) made (text_ends line) (line_read labels words line label made label_read h).text_is room

-- ---- where labels stand

first_placed : (n words : ℕ) (label : Option (List ℕ)) (entries : List (List ℕ × Spot)) → labelled label words ++ placed entries ≡ placed (spotted n words label ++ entries)
first_placed n words None entries = refl
first_placed n words (Some name) entries = refl

-- lines of the grammar have the labels that are read, with as many words before each
pub labels_are : (labels : List Label) (limit n words : ℕ) (lines : List (List ℕ)) (own : List Label) (made : List ℕ) → AreLines labels words lines own made → words + length made ≤ limit → own ≡ placed (labels_from limit n words lines)
unfolding labels_from
labels_are labels limit n words [] own made h room = h.0
labels_are labels limit n words (line ∷ lines) own made (label, first, rest, others, is_line, are_lines, own_is, made_is) room =
    let length_is : length made ≡ length first + length rest = ap length made_is ∙ length-append first rest in
    let size = line_size labels limit words line label first is_line (omega arith) in
    let more = labels_are labels limit (n + 1) (words + length first) lines others rest are_lines (omega arith) in
    let behind = more ∙ ap (λ (k : ℕ). placed (labels_from limit (n + 1) (words + k) lines)) (sym size) in
    let same = (line_read labels words line label first label_read is_line).label_is in
    own_is ∙ ap (λ (x : List Label). labelled label words ++ x) behind
    ∙ first_placed n words label (labels_from limit (n + 1) (words + words_in limit words (statement_text (body_of line))) lines)
    ∙ ap (λ (x : Option (List ℕ)). placed (spotted n words x ++ labels_from limit (n + 1) (words + words_in limit words (statement_text (body_of line))) lines)) same
