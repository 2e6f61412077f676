-- Lines of a trace, read one after the other.
use Rattle.std.proofs.Common.{◌≡◌, ℕ, ◌+◌, eqb, true, List, [], ◌∷◌, ◌++◌, length, Option, Some, None, Result, Ok, Err, refl, sym, ap, ◌∙◌, append_assoc}
use Rattle.std.specs.Option.{option_to_list}
use Rattle.std.proofs.lemmas.Bool.{eqb-true}
use Rattle.std.proofs.lemmas.List.{append-nil, nil_from_length}
use Rattle.mon_types.specs.Shape.{Shape}
use Rattle.text_in.specs.Lines.{lines_of}
use Rattle.text_in.proofs.Lines.{no_lines}
use Rattle.llc.specs.declared.fault.TraceFault.{TraceFault}
use Rattle.llc.specs.declared.fault.TraceFault.TheVariants as faults
use Rattle.llc.specs.declared.line.Head.{Head}
use Rattle.llc.specs.declared.trace.Trace.{Trace}
use Rattle.reader_answers.specs.Steps.{◌>>=◌}
use Rattle.llc.specs.Reading.{words_in, first_of, access_of, accesses_from, trace_behind, trace_at, trace_from}

no_lines_left : (rest : List ℕ) → eqb (length rest) 0 ≡ true → lines_of rest ≡ []
no_lines_left rest h = ap lines_of (nil_from_length rest (eqb-true (length rest) 0 h)) ∙ no_lines

-- ---- up to the head

-- what is read where the next line is this one
abbrev from_line : ℕ → List (List ℕ) → Result (Option Head) TraceFault → Result Trace TraceFault
from_line n texts line = line >>= λ head. trace_at head (n + 1) texts (trace_from (n + 1) texts)

from_unfolded : (n : ℕ) (text : List ℕ) (texts : List (List ℕ)) → trace_from n (text ∷ texts) ≡ from_line n texts (first_of n (words_in text))
unfolding trace_from
from_unfolded n text texts = refl

pub at_first : (n : ℕ) (text : List ℕ) (left texts : List (List ℕ)) (line : Result (Option Head) TraceFault) (total : Result Trace TraceFault)
    → left ≡ text ∷ texts → first_of n (words_in text) ≡ line → trace_from n left ≡ total → total ≡ from_line n texts line
at_first n text left texts line total l h so_far =
    sym so_far ∙ ap (trace_from n) l ∙ from_unfolded n text texts ∙ ap (from_line n texts) h

pub fault_met : (n : ℕ) (text : List ℕ) (left texts : List (List ℕ)) (fault : TraceFault) (total : Result Trace TraceFault)
    → left ≡ text ∷ texts → first_of n (words_in text) ≡ Err fault → trace_from n left ≡ total → total ≡ Err fault
fault_met n text left texts fault total l h so_far = at_first n text left texts (Err fault) total l h so_far

pub head_met : (n : ℕ) (text : List ℕ) (left texts : List (List ℕ)) (line : Option Head) (head : Head) (total : Result Trace TraceFault)
    → left ≡ text ∷ texts → first_of n (words_in text) ≡ Ok line → line ≡ Some head → trace_from n left ≡ total → total ≡ trace_behind head (n + 1) texts
head_met n text left texts line head total l h is so_far =
    at_first n text left texts (Ok line) total l h so_far
    ∙ ap (λ (x : Option Head). trace_at x (n + 1) texts (trace_from (n + 1) texts)) is

pub no_head_yet : (n : ℕ) (text : List ℕ) (left texts : List (List ℕ)) (line : Option Head) (total : Result Trace TraceFault)
    → left ≡ text ∷ texts → first_of n (words_in text) ≡ Ok line → line ≡ None → trace_from n left ≡ total → trace_from (n + 1) texts ≡ total
no_head_yet n text left texts line total l h is so_far =
    sym (at_first n text left texts (Ok line) total l h so_far
    ∙ ap (λ (x : Option Head). trace_at x (n + 1) texts (trace_from (n + 1) texts)) is)

pub no_head : (n : ℕ) (rest : List ℕ) (total : Result Trace TraceFault) → eqb (length rest) 0 ≡ true → trace_from n (lines_of rest) ≡ total
    → total ≡ Err (faults.BadLine n)
unfolding trace_from
no_head n rest total h so_far = sym so_far ∙ ap (trace_from n) (no_lines_left rest h)

-- ---- behind it

-- the accesses that were read, and behind them those that are still read
abbrev pub behind : List ℕ → Result (List ℕ) TraceFault → Result (List ℕ) TraceFault
behind front read = read >>= λ more. Ok (front ++ more)

abbrev with_line : Shape → ℕ → List (List ℕ) → Result (Option ℕ) TraceFault → Result (List ℕ) TraceFault
with_line shape n texts line = line >>= λ access. accesses_from shape (n + 1) texts >>= λ others. Ok (option_to_list access ++ others)

unfolded : (shape : Shape) (n : ℕ) (text : List ℕ) (texts : List (List ℕ)) → accesses_from shape n (text ∷ texts) ≡ with_line shape n texts (access_of shape n (words_in text))
unfolding accesses_from
unfolded shape n text texts = refl

regroup : (front more : List ℕ) (read : Result (List ℕ) TraceFault) → behind front (read >>= λ others. Ok (more ++ others)) ≡ behind (front ++ more) read
regroup front more (Ok others) = ap (λ (x : List ℕ). Ok x) (sym (append_assoc front more others))
regroup front more (Err fault) = refl

line_at : (shape : Shape) (front : List ℕ) (n : ℕ) (text : List ℕ) (left texts : List (List ℕ)) (line : Result (Option ℕ) TraceFault)
    → left ≡ text ∷ texts → access_of shape n (words_in text) ≡ line → behind front (accesses_from shape n left) ≡ behind front (with_line shape n texts line)
line_at shape front n text left texts line l h =
    ap (λ (x : List (List ℕ)). behind front (accesses_from shape n x)) l
    ∙ ap (behind front) (unfolded shape n text texts)
    ∙ ap (λ (x : Result (Option ℕ) TraceFault). behind front (with_line shape n texts x)) h

pub access_added : (shape : Shape) (front grown : List ℕ) (n : ℕ) (text : List ℕ) (left texts : List (List ℕ)) (access : Option ℕ) (total : Result (List ℕ) TraceFault)
    → left ≡ text ∷ texts → access_of shape n (words_in text) ≡ Ok access → grown ≡ front ++ option_to_list access
    → behind front (accesses_from shape n left) ≡ total → behind grown (accesses_from shape (n + 1) texts) ≡ total
access_added shape front grown n text left texts access total l h g so_far =
    ap (λ (x : List ℕ). behind x (accesses_from shape (n + 1) texts)) g
    ∙ sym (regroup front (option_to_list access) (accesses_from shape (n + 1) texts))
    ∙ sym (line_at shape front n text left texts (Ok access) l h)
    ∙ so_far

pub access_fails : (shape : Shape) (front : List ℕ) (n : ℕ) (text : List ℕ) (left texts : List (List ℕ)) (fault : TraceFault) (total : Result (List ℕ) TraceFault)
    → left ≡ text ∷ texts → access_of shape n (words_in text) ≡ Err fault → behind front (accesses_from shape n left) ≡ total → total ≡ Err fault
access_fails shape front n text left texts fault total l h so_far = sym so_far ∙ line_at shape front n text left texts (Err fault) l h

none_left : (shape : Shape) (front : List ℕ) (n : ℕ) → behind front (accesses_from shape n []) ≡ Ok front
unfolding accesses_from
none_left shape front n = ap (λ (x : List ℕ). Ok x) (append-nil front)

pub all_accesses : (shape : Shape) (front : List ℕ) (n : ℕ) (rest : List ℕ) (total : Result (List ℕ) TraceFault) → eqb (length rest) 0 ≡ true
    → behind front (accesses_from shape n (lines_of rest)) ≡ total → total ≡ Ok front
all_accesses shape front n rest total h so_far =
    sym so_far ∙ ap (λ (x : List (List ℕ)). behind front (accesses_from shape n x)) (no_lines_left rest h) ∙ none_left shape front n
