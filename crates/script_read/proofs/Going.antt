-- Lines, read one after the other.
use Rattle.std.proofs.Common.{◌≡◌, ℕ, ◌+◌, ◌<◌, ◌≤◌, eqb, ltb, true, List, [], ◌∷◌, ◌++◌, length, Option, Some, None, Result, Ok, Err, refl, sym, ap, ◌∙◌, arith, inl, inr}
use Rattle.std.proofs.lemmas.Bool.{cases_Bool, eqb-true}
use Rattle.std.proofs.lemmas.List.{nil_from_length, length-append}
use Rattle.script_read.specs.declared.draft.Draft.{Draft}
use Rattle.script_read.specs.declared.said.Said.{Said}
use Rattle.script_read.specs.declared.said.Said.TheVariants as says
use Rattle.script_read.specs.declared.fault.ScriptFault.{ScriptFault}
use Rattle.script_read.specs.declared.fault.ScriptFault.TheVariants as faults
use Rattle.reader_answers.specs.declared.errors.ParseError.{ParseError}
use Rattle.reader_answers.specs.declared.errors.ParseError.TheVariants as errors
use Rattle.reader_answers.specs.Steps.{◌>>=◌}
use Rattle.reader_answers.specs.Answers.{Fails}
use Rattle.text_in.specs.Lines.{lines_of}
use Rattle.text_in.proofs.Lines.{no_lines}
use Rattle.script_read.specs.Cores.{core_after, turns_of_core, turn_limit}
use Rattle.script_read.specs.Grammar.{limit}
use Rattle.script_read.specs.Reading.{line_of, said_next, line_next, said_from, all_said}
use Rattle.script_read.specs.Drafts.{Keeps, Drafts}

-- the draft keeps what so many lines of the bytes have said, and the rest of the bytes is still to be read
pub record Going (count line : ℕ) (bytes rest : List ℕ) (draft : Draft) : Type 0 where
  pub said : List Said
  pub keeps : Keeps count said draft
  pub read : said_from count (line + 1) said (lines_of rest) ≡ all_said count bytes
  pub few : length said ≤ line
  pub within : line + length rest ≤ length bytes

-- what the lines say that stand behind this one
abbrev behind : ℕ → ℕ → List (List ℕ) → Result (List Said) ScriptFault → Result (List Said) ScriptFault
behind count n texts read = read >>= λ said. said_from count (n + 1) said texts

abbrev with_line : ℕ → ℕ → List Said → List (List ℕ) → Result (Option Said) ScriptFault → Result (List Said) ScriptFault
with_line count n before texts line = line >>= λ first. behind count n texts (line_next n before first)

unfolded : (count n : ℕ) (before : List Said) (text : List ℕ) (texts : List (List ℕ)) → said_from count n before (text ∷ texts) ≡ with_line count n before texts (line_of count n text)
unfolding said_from
unfolded count n before text texts = refl

-- the next line
line_at : (count n : ℕ) (before : List Said) (text : List ℕ) (left texts : List (List ℕ)) (line : Result (Option Said) ScriptFault) (total : Result (List Said) ScriptFault) → left ≡ text ∷ texts → line ≡ line_of count n text
    → said_from count n before left ≡ total → with_line count n before texts line ≡ total
line_at count n before text left texts line total l h so_far =
    ap (with_line count n before texts) h ∙ sym (unfolded count n before text texts) ∙ sym (ap (said_from count n before) l) ∙ so_far

pub going_past : (count line : ℕ) (bytes rest after text : List ℕ) (draft : Draft) → Going count line bytes rest draft → lines_of rest ≡ text ∷ lines_of after → Ok None ≡ line_of count (line + 1) text → length after < length rest → Going count (line + 1) bytes after draft
going_past count line bytes rest after text draft g l h shorter = record {
  said = g.said;
  keeps = g.keeps;
  read = line_at count (line + 1) g.said text (lines_of rest) (lines_of after) (Ok None) (all_said count bytes) l h g.read;
  few = omega (arith, g.few);
  within = omega (arith, g.within);
}

pub going_fails : (count line : ℕ) (bytes rest after text : List ℕ) (draft : Draft) (fault : ScriptFault) → Going count line bytes rest draft → lines_of rest ≡ text ∷ lines_of after → Err fault ≡ line_of count (line + 1) text → all_said count bytes ≡ Err fault
going_fails count line bytes rest after text draft fault g l h = sym (line_at count (line + 1) g.said text (lines_of rest) (lines_of after) (Err fault) (all_said count bytes) l h g.read)

one_longer : (n : ℕ) (before : List Said) (said : Said) (all : List Said) → ◌≡◌ {A = Result (List Said) ScriptFault} (Ok (before ++ said ∷ [])) (Ok all) → length all ≡ length before + 1
one_longer n before said all h = let same : before ++ said ∷ [] ≡ all = cc in sym (ap length same) ∙ length-append before (said ∷ [])

no_fault : (fault : ScriptFault) (all : List Said) (P : Type 0) → ◌≡◌ {A = Result (List Said) ScriptFault} (Err fault) (Ok all) → P
no_fault fault all P h = absurd cc

next_longer : (n : ℕ) (before : List Said) (said : Said) (all : List Said) → said_next n before said ≡ Ok all → length all ≡ length before + 1
next_longer n before (says.Line line) all h = one_longer n before (says.Line line) all h
next_longer n before (says.Run turns) all h =
    elim (cases_Bool (ltb turn_limit (turns_of_core (core_after before) before + turns))) [
      | inl t ↦ no_fault (faults.TurnsOver n) all (length all ≡ length before + 1) (rw t at h)
      | inr f ↦ one_longer n before (says.Run turns) all (rw f at h)
    ]
next_longer n before (says.Core core) all h = one_longer n before (says.Core core) all h

-- the answer at a line, and what it holds
pub answer_at : (r read : Result (Option Said) ScriptFault) (line said : Option Said) → r ≡ read → r ≡ Ok line → line ≡ said → Ok said ≡ read
answer_at r read line said e w s = ap (λ (x : Option Said). Ok x) (sym s) ∙ sym w ∙ e

-- what the next line says was taken
pub going_on : (count line : ℕ) (bytes rest after text : List ℕ) (draft taken : Draft) (said : Said) (g : Going count line bytes rest draft) → lines_of rest ≡ text ∷ lines_of after → Ok (Some said) ≡ line_of count (line + 1) text
    → (all : List Said) × (said_next (line + 1) g.said said ≡ Ok all) × Keeps count all taken → length after < length rest → Going count (line + 1) bytes after taken
going_on count line bytes rest after text draft taken said g l h a shorter =
    let next : behind count (line + 1) (lines_of after) (said_next (line + 1) g.said said) ≡ all_said count bytes =
    line_at count (line + 1) g.said text (lines_of rest) (lines_of after) (Ok (Some said)) (all_said count bytes) l h g.read in
    record {
      said = a.0;
      keeps = a.2;
      read = ap (behind count (line + 1) (lines_of after)) (sym a.1) ∙ next;
      few = omega (arith, g.few, next_longer (line + 1) g.said said a.0 a.1);
      within = omega (arith, g.within);
    }

fails_behind : (error : ParseError ScriptFault) (count n : ℕ) (texts : List (List ℕ)) (read total : Result (List Said) ScriptFault) → Fails error read → behind count n texts read ≡ total → Fails error total
fails_behind errors.Memory count n texts read total h so_far = tt
fails_behind (errors.Fault fault) count n texts read total h so_far = sym so_far ∙ ap (behind count n texts) h

-- what the next line says was not taken
pub going_stops : (count line : ℕ) (bytes rest after text : List ℕ) (draft : Draft) (said : Said) (error : ParseError ScriptFault) (g : Going count line bytes rest draft) → lines_of rest ≡ text ∷ lines_of after → Ok (Some said) ≡ line_of count (line + 1) text
    → Fails error (said_next (line + 1) g.said said) → Fails error (all_said count bytes)
going_stops count line bytes rest after text draft said error g l h fails =
    fails_behind error count (line + 1) (lines_of after) (said_next (line + 1) g.said said) (all_said count bytes) fails
    (line_at count (line + 1) g.said text (lines_of rest) (lines_of after) (Ok (Some said)) (all_said count bytes) l h g.read)

none_left : (count n : ℕ) (before : List Said) → said_from count n before [] ≡ Ok before
unfolding said_from
none_left count n before = refl

pub going_done : (count line : ℕ) (bytes rest : List ℕ) (draft : Draft) → Going count line bytes rest draft → eqb (length rest) 0 ≡ true → length bytes ≤ limit → Drafts count (Ok draft) (all_said count bytes)
going_done count line bytes rest draft g h within =
    let empty : lines_of rest ≡ [] = ap lines_of (nil_from_length rest (eqb-true _ _ h)) ∙ no_lines in
    (g.said, sym g.read ∙ ap (said_from count (line + 1) g.said) empty ∙ none_left count (line + 1) g.said, g.keeps, omega (arith, g.few, g.within))

pub going_from : (count : ℕ) (bytes : List ℕ) (draft : Draft) → Keeps count [] draft → Going count 0 bytes bytes draft
going_from count bytes draft k = record { said = []; keeps = k; read = refl; few = omega arith; within = omega arith }
