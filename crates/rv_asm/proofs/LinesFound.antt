-- Lines that were read are in the grammar.
use Rattle.std.proofs.Common.{◌≡◌, ℕ, ◌+◌, ◌≤◌, true, false, List, [], ◌∷◌, ◌++◌, length, Option, Some, None, Result, Ok, Err, refl, sym, ap, subst, ◌∙◌, arith, inl, inr}
use Rattle.std.specs.Prelude.{nat_lt}
use Rattle.std.specs.List.{list_all}
use Rattle.std.specs.Option.{option_to_list}
use Rattle.std.specs.Char.{is_ascii}
use Rattle.std.proofs.lemmas.Bool.{cases_Bool}
use Rattle.rv_asm.specs.declared.fault.AsmKind.{AsmKind}
use Rattle.rv_asm.specs.declared.fault.AsmFault.{AsmFault}
use Rattle.rv_asm.specs.declared.label.Spot.{Spot}
use Rattle.rv_asm.specs.declared.name.Name.{Name}
use Rattle.rv_asm.specs.declared.statement.Statement.{Statement}
use Rattle.rv_asm.specs.Names.{named}
use Rattle.text_in.specs.Bytes.{is_solid, ends}
use Rattle.rv_asm.specs.Text.{body_of, label_of, statement_text, name_word, operands_text, operands_of}
use Rattle.rv_asm.specs.Statements.{Spots, statement_of}
use Rattle.rv_asm.specs.Reading.{size_of, AreWordsOf, AreWordsOfAll, words_in, spotted, labels_from, is_double, with_room, statement_by, text_of, statement_in, line_of, size_of_line, then_lines, lines_from}
use Rattle.rv_asm.specs.Grammar.{Label, IsStatement, IsStatementText, labelled, AreLines}
use Rattle.rv_asm.proofs.Apart.{AreSingle, IsRising}
use Rattle.rv_asm.proofs.BodyGrammar.{line_found, text_ends}
use Rattle.rv_asm.proofs.NameGrammar.{name_is}
use Rattle.rv_asm.proofs.OperandGrammar.{Agrees, bound, same_ok, label_is}
use Rattle.rv_asm.proofs.PartsGrammar.{statement_found}
use Rattle.rv_asm.proofs.StatementGrammar.{sound}
use Rattle.rv_asm.proofs.Words.{as_many}

-- ---- the words of a line

-- the words of the statement of a line, none where it has none
abbrev pub AreWordsOfLine : Option Statement → List ℕ → Type 0
AreWordsOfLine None words = words ≡ []
AreWordsOfLine (Some statement) words = AreWordsOf statement words

-- the first words are those of the first line, and the others those of the other statements
pub first_words : (line : Option Statement) (others : List Statement) (made : List ℕ) → AreWordsOfAll (option_to_list line ++ others) made
    → (first rest : List ℕ) × AreWordsOfLine line first × AreWordsOfAll others rest × (made ≡ first ++ rest)
first_words None others made are = ([], made, refl, are, refl)
first_words (Some statement) others made are = are

as_many_in_line : (line : Option Statement) (words : List ℕ) → AreWordsOfLine line words → length words ≡ size_of_line line
as_many_in_line None words are = ap length are
as_many_in_line (Some statement) words are = as_many statement words are

-- ---- what was read is in the grammar

with_room_is : (limit words : ℕ) (statement other : Statement) → with_room limit words statement ≡ Ok other → statement ≡ other
with_room_is limit words statement other h =
    elim (cases_Bool (nat_lt limit (words + size_of statement))) [
      | inl t ↦ let k = rw t at h in absurd cc
      | inr f ↦ let k = rw f at h in cc
    ]

by_name : (labels : List Label) (spots : Spots) (limit words : ℕ) (text made : List ℕ) (statement : Statement) (o : Option Name) → Agrees labels spots → ends is_solid text ≡ true → named (name_word text) ≡ o
    → statement_by limit spots words o (operands_text text) ≡ Ok statement → AreWordsOf statement made → IsStatementText labels words text made
by_name labels spots limit words text made statement None agrees solid e h are = absurd cc
by_name labels spots limit words text made statement (Some name) agrees solid e h are =
    let b = bound (statement_of limit spots words name (operands_of (operands_text text))) (with_room limit words) statement h in
    let read = b.1 ∙ ap (λ (s : Statement). Ok s) (with_room_is limit words b.0 statement b.2) in
    let is = sound labels spots limit words name (operands_of (operands_text text)) statement made agrees read are in
    statement_found labels words text made solid (subst (λ (w : List ℕ). IsStatement labels words w (operands_of (operands_text text)) made) (sym (name_is (name_word text) name e)) is)

text_is : (labels : List Label) (spots : Spots) (limit words : ℕ) (text made : List ℕ) (statement : Statement) → Agrees labels spots → ends is_solid text ≡ true → text_of limit spots words text ≡ Ok statement → AreWordsOf statement made
    → IsStatementText labels words text made
unfolding text_of
text_is labels spots limit words text made statement agrees solid h are = by_name labels spots limit words text made statement (named (name_word text)) agrees solid refl h are

text_found_in : (labels : List Label) (spots : Spots) (limit words : ℕ) (text made : List ℕ) (line : Option Statement) → Agrees labels spots → ends is_solid text ≡ true → statement_in limit spots words text ≡ Ok line → AreWordsOfLine line made
    → IsStatementText labels words text made
text_found_in labels spots limit words [] made line agrees solid h are =
    inl (refl, subst (λ (l : Option Statement). AreWordsOfLine l made) (sym (same_ok None line h)) are)
text_found_in labels spots limit words (b ∷ bs) made line agrees solid h are =
    let r = bound (text_of limit spots words (b ∷ bs)) (λ statement. Ok (Some statement)) line h in
    text_is labels spots limit words (b ∷ bs) made r.0 agrees solid r.1 (subst (λ (l : Option Statement). AreWordsOfLine l made) (sym (same_ok (Some r.0) line r.2)) are)

-- what was read of a line
record IsLineRead (limit : ℕ) (spots : Spots) (n words : ℕ) (text : List ℕ) (line : Option Statement) : Type 0 where
  single : is_double spots n (label_of (body_of text)) ≡ false
  ascii : list_all is_ascii text ≡ true
  read : statement_in limit spots words (statement_text (body_of text)) ≡ Ok line

line_parts : (limit : ℕ) (spots : Spots) (n words : ℕ) (text : List ℕ) (line : Option Statement) → line_of limit spots n words text ≡ Ok line → IsLineRead limit spots n words text line
unfolding line_of
line_parts limit spots n words text line h =
    elim (cases_Bool (is_double spots n (label_of (body_of text)))) [
      | inl t ↦ let k = rw t at h in absurd cc
      | inr f ↦
          let k = rw f at h in
          elim (cases_Bool (list_all is_ascii text)) [
            | inl t ↦ record { single = f; ascii = t; read = rw t at k }
            | inr g ↦ let m = rw g at k in absurd cc
          ]
    ]

-- a line and those behind it
record AreRead (limit : ℕ) (spots : Spots) (n words : ℕ) (text : List ℕ) (texts : List (List ℕ)) (statements : List Statement) : Type 0 where
  line : Option Statement
  others : List Statement
  first : line_of limit spots n words text ≡ Ok line
  behind : lines_from limit spots (n + 1) (words + size_of_line line) texts ≡ Ok others
  all : statements ≡ option_to_list line ++ others

then_is : (n : ℕ) (line : Option Statement) (rest : ℕ → Result (List Statement) AsmFault) (r : Result (List Statement) AsmFault) (statements : List Statement) → rest (size_of_line line) ≡ r → then_lines n (Ok line) rest ≡ Ok statements
    → (others : List Statement) × (r ≡ Ok others) × (statements ≡ option_to_list line ++ others)
then_is n line rest (Err fault) statements e h = let k = rw e at h in absurd cc
then_is n line rest (Ok others) statements e h = let k = rw e at h in (others, refl, cc)

lines_parts : (limit : ℕ) (spots : Spots) (n words : ℕ) (text : List ℕ) (texts : List (List ℕ)) (statements : List Statement) → lines_from limit spots n words (text ∷ texts) ≡ Ok statements → AreRead limit spots n words text texts statements
unfolding lines_from
lines_parts limit spots n words text texts statements h = by_line (line_of limit spots n words text) refl h
  where
    by_line : (r : Result (Option Statement) AsmKind) → line_of limit spots n words text ≡ r → then_lines n r (λ size. lines_from limit spots (n + 1) (words + size) texts) ≡ Ok statements → AreRead limit spots n words text texts statements
    by_line (Err kind) e h = absurd cc
    by_line (Ok line) e h =
        let t = then_is n line (λ size. lines_from limit spots (n + 1) (words + size) texts) (lines_from limit spots (n + 1) (words + size_of_line line) texts) statements refl h in
        record { line = line; others = t.0; first = e; behind = t.1; all = t.2 }

no_lines_from : (limit : ℕ) (spots : Spots) (n words : ℕ) (statements : List Statement) → lines_from limit spots n words [] ≡ Ok statements → statements ≡ []
unfolding lines_from
no_lines_from limit spots n words statements h = cc

-- lines that were read are in the grammar, with labels of their own
pub lines_found : (labels : List Label) (spots : Spots) (limit n words : ℕ) (texts : List (List ℕ)) (statements : List Statement) (made : List ℕ) → Agrees labels spots → lines_from limit spots n words texts ≡ Ok statements → AreWordsOfAll statements made
    → (own : List Label) × AreLines labels words texts own made
lines_found labels spots limit n words [] statements made agrees h are =
    ([], (refl, subst (λ (s : List Statement). AreWordsOfAll s made) (no_lines_from limit spots n words statements h) are))
lines_found labels spots limit n words (text ∷ texts) statements made agrees h are =
    let p = lines_parts limit spots n words text texts statements h in
    let (first, rest, first_are, rest_are, made_is) = first_words p.line p.others made (subst (λ (s : List Statement). AreWordsOfAll s made) p.all are) in
    let l = line_parts limit spots n words text p.line p.first in
    let is = text_found_in labels spots limit words (statement_text (body_of text)) first p.line agrees (text_ends text) l.read first_are in
    let more = lines_found labels spots limit (n + 1) (words + size_of_line p.line) texts p.others rest agrees p.behind rest_are in
    let label = label_of (body_of text) in (
      labelled label words ++ more.0,
      (
        label,
        first,
        rest,
        more.0,
        line_found labels words text first label_is l.ascii is,
        subst (λ (k : ℕ). AreLines labels (words + k) texts more.0 rest) (sym (as_many_in_line p.line first first_are)) more.1,
        refl,
        made_is,
      ),
    )

-- ---- the labels of lines that were read

first_single : (spots : Spots) (n words : ℕ) (label : Option (List ℕ)) (entries : List (List ℕ × Spot)) → is_double spots n label ≡ false → AreSingle spots entries → AreSingle spots (spotted n words label ++ entries)
first_single spots n words None entries h more = more
first_single spots n words (Some name) entries h more = (h, more)

-- no label of lines that were read is found at another line
pub lines_single : (spots : Spots) (limit n words place : ℕ) (texts : List (List ℕ)) (statements : List Statement) → lines_from limit spots n words texts ≡ Ok statements → AreSingle spots (labels_from limit n place texts)
unfolding labels_from
lines_single spots limit n words place [] statements h = tt
lines_single spots limit n words place (text ∷ texts) statements h =
    let p = lines_parts limit spots n words text texts statements h in
    let l = line_parts limit spots n words text p.line p.first in
    first_single spots n place (label_of (body_of text)) _ l.single (lines_single spots limit (n + 1) (words + size_of_line p.line) (place + words_in limit place (statement_text (body_of text))) texts p.others p.behind)

rising_later : (n m : ℕ) (entries : List (List ℕ × Spot)) → n ≤ m → IsRising m entries → IsRising n entries
rising_later n m [] le h = tt
rising_later n m (entry ∷ entries) le h = (let later : m ≤ entry.1.line = h.0 in omega arith, h.1)

first_rising : (n words : ℕ) (label : Option (List ℕ)) (entries : List (List ℕ × Spot)) → IsRising (n + 1) entries → IsRising n (spotted n words label ++ entries)
first_rising n words None entries h = rising_later n (n + 1) entries (omega arith) h
first_rising n words (Some name) entries h = (omega arith, h)

-- the lines of labels rise
pub labels_rise : (limit n words : ℕ) (texts : List (List ℕ)) → IsRising n (labels_from limit n words texts)
unfolding labels_from
labels_rise limit n words [] = tt
labels_rise limit n words (text ∷ texts) =
    first_rising n words (label_of (body_of text)) _ (labels_rise limit (n + 1) (words + words_in limit words (statement_text (body_of text))) texts)
