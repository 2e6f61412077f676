-- Lines of the grammar are read.
use Rattle.std.proofs.Common.{◌≡◌, ℕ, ◌+◌, ◌≤◌, true, false, ◌==◌, List, [], ◌∷◌, ◌++◌, length, Option, Some, None, Result, Ok, Err, refl, sym, ap, subst, ◌∙◌, arith, inl, inr}
use Rattle.std.specs.Prelude.{nat_lt}
use Rattle.std.specs.List.{list_all}
use Rattle.std.specs.Option.{option_to_list}
use Rattle.std.specs.Char.{is_ascii}
use Rattle.std.proofs.lemmas.Bool.{cond-false, eq-eqb, le-ltb, not_from_true, false≢true}
use Rattle.std.proofs.lemmas.List.{length-append}
use Rattle.rv_asm.specs.declared.fault.AsmKind.{AsmKind}
use Rattle.rv_asm.specs.declared.fault.AsmKind.TheVariants as kinds
use Rattle.rv_asm.specs.declared.fault.AsmFault.{AsmFault}
use Rattle.rv_asm.specs.declared.label.Spot.{Spot}
use Rattle.rv_asm.specs.declared.statement.Statement.{Statement}
use Rattle.rv_asm.specs.Names.{named}
use Rattle.rv_asm.specs.Text.{body_of, label_of, statement_text, name_word, operands_text, operands_of}
use Rattle.rv_asm.specs.Statements.{Spots, ◌>>=◌}
use Rattle.rv_asm.specs.Reading.{size_of, AreWordsOf, AreWordsOfAll, spotted, labels_from, is_double, with_room, statement_by, text_of, statement_in, line_of, size_of_line, lines_from}
use Rattle.rv_asm.specs.Grammar.{Label, IsStatement, IsLine, AreLines}
use Rattle.rv_asm.proofs.Apart.{AreFound}
use Rattle.rv_asm.proofs.BodyGrammar.{line_read, text_ends}
use Rattle.rv_asm.proofs.LinesFound.{AreWordsOfLine, first_words}
use Rattle.rv_asm.proofs.NameBytes.{statement_is_plain}
use Rattle.rv_asm.proofs.NameGrammar.{name_read}
use Rattle.rv_asm.proofs.OperandGrammar.{Agrees, label_read}
use Rattle.rv_asm.proofs.PartsGrammar.{statement_read}
use Rattle.rv_asm.proofs.SizeGrammar.{line_size}
use Rattle.rv_asm.proofs.StatementGrammar.{IsReadAs, complete}

-- ---- one line

-- what is read gives a line with these words and no others
record IsReadWith (read : Result (Option Statement) AsmKind) (made : List ℕ) : Type 0 where
  line : Option Statement
  is : read ≡ Ok line
  only : (other : List ℕ) → AreWordsOfLine line other → other ≡ made
  size : size_of_line line ≡ length made

text_read_as : (limit : ℕ) (spots : Spots) (words : ℕ) (text made : List ℕ) → IsReadAs limit spots words (name_word text) (operands_of (operands_text text)) made → words + length made ≤ limit
    → (statement : Statement) × (text_of limit spots words text ≡ Ok statement) × ((other : List ℕ) → AreWordsOf statement other → other ≡ made) × (size_of statement ≡ length made)
unfolding text_of
text_read_as limit spots words text made (name, statement, e, read, only, size) room =
    let word = ap named e ∙ name_read name in
    let fits : words + size_of statement ≤ limit = omega arith in (
      statement,
      ap (λ o. statement_by limit spots words o (operands_text text)) word ∙ ap (λ r. r >>= with_room limit words) read
          ∙ cond-false (nat_lt limit (words + size_of statement)) (Err kinds.TooLong) (Ok statement) (le-ltb limit (words + size_of statement) fits),
      only,
      size,
    )

text_read_in : (labels : List Label) (limit : ℕ) (spots : Spots) (words : ℕ) (text made : List ℕ) → Agrees labels spots → IsStatement labels words (name_word text) (operands_of (operands_text text)) made → words + length made ≤ limit
    → IsReadWith (statement_in limit spots words text) made
text_read_in labels limit spots words [] made agrees h room = absurd (false≢true (statement_is_plain labels words (name_word []) (operands_of (operands_text [])) made h))
text_read_in labels limit spots words (b ∷ bs) made agrees h room =
    let text = b ∷ bs in
    let (statement, read, only, size) = text_read_as limit spots words text made (complete labels spots limit words (name_word text) (operands_of (operands_text text)) made agrees h room) room in
    record {
      line = Some statement;
      is = ap (λ r. r >>= λ s. Ok (Some s)) read;
      only = only;
      size = size;
    }

none_read_in : (limit : ℕ) (spots : Spots) (words : ℕ) (text made : List ℕ) → text ≡ [] → made ≡ [] → IsReadWith (statement_in limit spots words text) made
none_read_in limit spots words text made e f = record {
  line = None;
  is = ap (statement_in limit spots words) e;
  only = λ other are. are ∙ sym f;
  size = sym (ap length f);
}

line_parts_read : (limit : ℕ) (spots : Spots) (n words : ℕ) (text made : List ℕ) → is_double spots n (label_of (body_of text)) ≡ false → list_all is_ascii text ≡ true → IsReadWith (statement_in limit spots words (statement_text (body_of text))) made
    → IsReadWith (line_of limit spots n words text) made
unfolding line_of
line_parts_read limit spots n words text made single ascii read = rw (single, ascii) read

-- a line of the grammar is read
line_of_read : (labels : List Label) (limit : ℕ) (spots : Spots) (n words : ℕ) (text : List ℕ) (label : Option (List ℕ)) (made : List ℕ) → Agrees labels spots → IsLine labels words text label made → is_double spots n (label_of (body_of text)) ≡ false
    → words + length made ≤ limit → IsReadWith (line_of limit spots n words text) made
line_of_read labels limit spots n words text label made agrees h single room =
    let r = line_read labels words text label made label_read h in
    line_parts_read limit spots n words text made single r.ascii (elim (statement_read labels words (statement_text (body_of text)) made (text_ends text) r.text_is) [
      | inl none ↦ none_read_in limit spots words (statement_text (body_of text)) made none.0 none.1
      | inr is ↦ text_read_in labels limit spots words (statement_text (body_of text)) made agrees is room
    ])

-- ---- all lines

-- what is read gives statements with these words and no others
abbrev pub AreReadWith : Result (List Statement) AsmFault → List ℕ → Type 0
AreReadWith read made = (statements : List Statement) × (read ≡ Ok statements) × ((other : List ℕ) → AreWordsOfAll statements other → other ≡ made)

-- a label that is found at its own line is not double
first_found : (spots : Spots) (n words : ℕ) (label : Option (List ℕ)) (entries : List (List ℕ × Spot)) → AreFound spots (spotted n words label ++ entries) → (is_double spots n label ≡ false) × AreFound spots entries
first_found spots n words None entries h = (refl, h)
first_found spots n words (Some name) entries h = (rw h.0 (not_from_true (n == n) (eq-eqb n n refl)), h.1)

no_lines_read : (limit : ℕ) (spots : Spots) (n words : ℕ) → lines_from limit spots n words [] ≡ Ok []
unfolding lines_from
no_lines_read limit spots n words = refl

more_lines_read : (limit : ℕ) (spots : Spots) (n words : ℕ) (text : List ℕ) (texts : List (List ℕ)) (line : Option Statement) (others : List Statement) → line_of limit spots n words text ≡ Ok line → lines_from limit spots (n + 1) (words + size_of_line line) texts ≡ Ok others
    → lines_from limit spots n words (text ∷ texts) ≡ Ok (option_to_list line ++ others)
unfolding lines_from
more_lines_read limit spots n words text texts line others e f = rw (e, f) refl

only_words : (line : Option Statement) (others : List Statement) (first rest : List ℕ) → ((other : List ℕ) → AreWordsOfLine line other → other ≡ first) → ((other : List ℕ) → AreWordsOfAll others other → other ≡ rest)
    → (other : List ℕ) → AreWordsOfAll (option_to_list line ++ others) other → other ≡ first ++ rest
only_words line others first rest only_first only_rest other are =
    let w = first_words line others other are in
    w.4 ∙ ap (λ (x : List ℕ). x ++ w.1) (only_first w.0 w.2) ∙ ap (λ (x : List ℕ). first ++ x) (only_rest w.1 w.3)

-- lines of the grammar are read, where their labels are found
pub lines_read : (labels : List Label) (spots : Spots) (limit n words : ℕ) (texts : List (List ℕ)) (own : List Label) (made : List ℕ) → Agrees labels spots → AreLines labels words texts own made → words + length made ≤ limit
    → AreFound spots (labels_from limit n words texts) → AreReadWith (lines_from limit spots n words texts) made
unfolding labels_from
lines_read labels spots limit n words [] own made agrees h room found = ([], no_lines_read limit spots n words, (λ other are. are ∙ sym h.1))
lines_read labels spots limit n words (text ∷ texts) own made agrees (label, first, rest, others, is_line, are_lines, own_is, made_is) room found =
    let length_is : length made ≡ length first + length rest = ap length made_is ∙ length-append first rest in
    let f = first_found spots n words (label_of (body_of text)) _ found in
    let r = line_of_read labels limit spots n words text label first agrees is_line f.0 (omega arith) in
    let size = line_size labels limit words text label first is_line (omega arith) in
    let behind = subst (λ (k : ℕ). AreFound spots (labels_from limit (n + 1) (words + k) texts)) size f.1 in
    let more = lines_read labels spots limit (n + 1) (words + length first) texts others rest agrees are_lines (omega arith) behind in (
      option_to_list r.line ++ more.0,
      more_lines_read limit spots n words text texts r.line more.0 r.is (ap (λ (k : ℕ). lines_from limit spots (n + 1) (words + k) texts) r.size ∙ more.1),
      (λ other are. only_words r.line more.0 first rest r.only more.2 other are ∙ sym made_is),
    )
