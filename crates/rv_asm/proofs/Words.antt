-- Words of statements, one line after the other.
use Rattle.std.proofs.Common.{◌≡◌, ℕ, ◌+◌, List, [], ◌∷◌, ◌++◌, length, Option, Some, None, Result, Ok, Err, refl, sym, ap, ◌∙◌, arith, append_assoc, add-zero, length-append}
use Rattle.std.specs.Option.{option_to_list}
use Rattle.std.proofs.lemmas.List.{append-nil, length-replicate}
use Rattle.rv_asm.specs.declared.fault.AsmKind.{AsmKind}
use Rattle.rv_asm.specs.declared.fault.AsmFault.{AsmFault}
use Rattle.rv_asm.specs.declared.statement.Statement.{Statement}
use Rattle.rv_asm.specs.declared.statement.Statement.TheVariants as statements
use Rattle.text_in.specs.Lines.{lines_of}
use Rattle.rv_asm.specs.Statements.{Spots}
use Rattle.rv_asm.specs.Reading.{size_of, AreWordsOf, AreWordsOfAll, line_of, size_of_line, then_lines, lines_from, Assembles}
use Rattle.rv_asm.specs.Parts.{IsPushed}
use Rattle.rv_asm.proofs.Spots.{no_lines}

-- ---- the words of a statement

pub as_many : (statement : Statement) (words : List ℕ) → AreWordsOf statement words → length words ≡ size_of statement
as_many (statements.Make inst) words are = ap length are.2
as_many (statements.Word n) words are = ap length are
as_many (statements.DoubleWord n) words are = ap length are
as_many (statements.Fill count) words are = ap length are ∙ length-replicate count 0

pub as_many_pushed : (statement : Statement) (old new : List ℕ) → IsPushed statement old new → length new ≡ length old + size_of statement
as_many_pushed statement old new pushed =
    ap length pushed.2 ∙ length-append old pushed.0 ∙ ap (λ (n : ℕ). length old + n) (as_many statement pushed.0 pushed.1)

-- ---- the words of all statements

pub more_words : (done : List Statement) (statement : Statement) (old new : List ℕ) → AreWordsOfAll done old → IsPushed statement old new → AreWordsOfAll (done ++ statement ∷ []) new
more_words [] statement old new are pushed = (pushed.0, [], pushed.1, refl, pushed.2 ∙ ap (λ (ws : List ℕ). ws ++ pushed.0) are ∙ sym (append-nil pushed.0))
more_words (s ∷ done) statement old new are pushed =
    (are.0, are.1 ++ pushed.0, are.2, more_words done statement are.1 (are.1 ++ pushed.0) are.3 (pushed.0, pushed.1, refl), pushed.2 ∙ ap (λ (ws : List ℕ). ws ++ pushed.0) are.4 ∙ append_assoc are.0 are.1 pushed.0)

-- ---- the statements of all lines

-- the statements that were read before, and those that come
abbrev pub behind : List Statement → Result (List Statement) AsmFault → Result (List Statement) AsmFault
behind done (Ok others) = Ok (done ++ others)
behind done (Err fault) = Err fault

behind_both : (done more : List Statement) (r : Result (List Statement) AsmFault) → behind done (behind more r) ≡ behind (done ++ more) r
behind_both done more (Ok others) = ap (λ (ss : List Statement). Ok ss) (sym (append_assoc done more others))
behind_both done more (Err fault) = refl

behind_none : (done : List Statement) (r : Result (List Statement) AsmFault) → behind done (behind [] r) ≡ behind done r
behind_none done (Ok others) = refl
behind_none done (Err fault) = refl

then_more : (n : ℕ) (line : Option Statement) (rest : ℕ → Result (List Statement) AsmFault) (r : Result (List Statement) AsmFault) → rest (size_of_line line) ≡ r → then_lines n (Ok line) rest ≡ behind (option_to_list line) r
then_more n line rest (Ok others) h = rw h refl
then_more n line rest (Err fault) h = rw h refl

first_line : (limit : ℕ) (spots : Spots) (n words : ℕ) (line : List ℕ) (lines : List (List ℕ)) (r : Result (Option Statement) AsmKind) → r ≡ line_of limit spots n words line
    → lines_from limit spots n words (line ∷ lines) ≡ then_lines n r (λ size. lines_from limit spots (n + 1) (words + size) lines)
unfolding lines_from
first_line limit spots n words line lines r h = rw h refl

no_more : (limit : ℕ) (spots : Spots) (n words : ℕ) → lines_from limit spots n words [] ≡ Ok []
unfolding lines_from
no_more limit spots n words = refl

-- the words are those of the statements so far, behind which those of the rest come
pub record AreSoFar (whole : Result (List Statement) AsmFault) (words : List ℕ) (rest : Result (List Statement) AsmFault) : Type 0 where
  pub done : List Statement
  pub are : AreWordsOfAll done words
  pub whole_is : whole ≡ behind done rest

-- a line of the text comes next
abbrev pub NextLine : List ℕ → List ℕ → List ℕ → Type 0
NextLine text line rest = lines_of text ≡ line ∷ lines_of rest

at_line : (limit : ℕ) (spots : Spots) (n words : ℕ) (text line rest : List ℕ) (r : Result (Option Statement) AsmKind) → NextLine text line rest → r ≡ line_of limit spots n words line
    → lines_from limit spots n words (lines_of text) ≡ then_lines n r (λ size. lines_from limit spots (n + 1) (words + size) (lines_of rest))
at_line limit spots n words text line rest r next h = ap (lines_from limit spots n words) next ∙ first_line limit spots n words line (lines_of rest) r h

pub line_without : (limit : ℕ) (spots : Spots) (n : ℕ) (words text line rest : List ℕ) (whole : Result (List Statement) AsmFault) → NextLine text line rest → Ok None ≡ line_of limit spots n (length words) line
    → AreSoFar whole words (lines_from limit spots n (length words) (lines_of text)) → AreSoFar whole words (lines_from limit spots (n + 1) (length words) (lines_of rest))
line_without limit spots n words text line rest whole next read so_far =
    let come : Result (List Statement) AsmFault = lines_from limit spots (n + 1) (length words) (lines_of rest) in
    let same : lines_from limit spots (n + 1) (length words + 0) (lines_of rest) ≡ come = ap (λ (k : ℕ). lines_from limit spots (n + 1) k (lines_of rest)) (add-zero (length words)) in
    record {
      done = so_far.done;
      are = so_far.are;
      whole_is = so_far.whole_is
          ∙ ap (behind so_far.done) (at_line limit spots n (length words) text line rest (Ok None) next read ∙ then_more n None (λ size. lines_from limit spots (n + 1) (length words + size) (lines_of rest)) come same)
          ∙ behind_none so_far.done come;
    }

pub line_with : (limit : ℕ) (spots : Spots) (n : ℕ) (words more text line rest : List ℕ) (statement : Statement) (whole : Result (List Statement) AsmFault) → NextLine text line rest → Ok (Some statement) ≡ line_of limit spots n (length words) line
    → IsPushed statement words more → AreSoFar whole words (lines_from limit spots n (length words) (lines_of text)) → AreSoFar whole more (lines_from limit spots (n + 1) (length more) (lines_of rest))
line_with limit spots n words more text line rest statement whole next read pushed so_far =
    let come : Result (List Statement) AsmFault = lines_from limit spots (n + 1) (length more) (lines_of rest) in
    let same : lines_from limit spots (n + 1) (length words + size_of statement) (lines_of rest) ≡ come = ap (λ (k : ℕ). lines_from limit spots (n + 1) k (lines_of rest)) (sym (as_many_pushed statement words more pushed)) in
    record {
      done = so_far.done ++ statement ∷ [];
      are = more_words so_far.done statement words more so_far.are pushed;
      whole_is = so_far.whole_is
          ∙ ap (behind so_far.done) (at_line limit spots n (length words) text line rest (Ok (Some statement)) next read ∙ then_more n (Some statement) (λ size. lines_from limit spots (n + 1) (length words + size) (lines_of rest)) come same)
          ∙ behind_both so_far.done (statement ∷ []) come;
    }

pub line_fails : (limit : ℕ) (spots : Spots) (n : ℕ) (words text line rest : List ℕ) (kind : AsmKind) (whole : Result (List Statement) AsmFault) → NextLine text line rest → Err kind ≡ line_of limit spots n (length words) line
    → AreSoFar whole words (lines_from limit spots n (length words) (lines_of text)) → whole ≡ Err (record { line = n; kind = kind })
line_fails limit spots n words text line rest kind whole next read so_far =
    so_far.whole_is ∙ ap (behind so_far.done) (at_line limit spots n (length words) text line rest (Err kind) next read)

pub all_read : (limit : ℕ) (spots : Spots) (n : ℕ) (words text : List ℕ) (whole : Result (List Statement) AsmFault) → length text ≡ 0
    → AreSoFar whole words (lines_from limit spots n (length words) (lines_of text)) → Assembles (Ok words) whole
all_read limit spots n words [] whole none so_far =
    let end : whole ≡ Ok so_far.done =
    so_far.whole_is ∙ ap (behind so_far.done) (ap (lines_from limit spots n (length words)) no_lines ∙ no_more limit spots n (length words)) ∙ ap (λ (ss : List Statement). Ok ss) (append-nil so_far.done) in
    rw end so_far.are
all_read limit spots n words (b ∷ bs) whole none so_far = absurd (omega arith)
