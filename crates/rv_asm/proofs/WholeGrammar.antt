-- A text is read as the grammar says: what is read is in the grammar, and what is in the grammar is read.
use Rattle.std.proofs.Common.{◌≡◌, ℕ, ◌≤◌, List, length, Result, Ok, Err, refl, sym, subst, ◌∙◌, arith, inl, inr}
use Rattle.std.specs.Prelude.{nat_lt, IfOk}
use Rattle.std.proofs.lemmas.Bool.{cases_Bool, ltb-false, le-ltb}
use Rattle.rv_asm.specs.declared.fault.AsmError.{AsmError}
use Rattle.rv_asm.specs.declared.fault.AsmError.TheVariants as errors
use Rattle.rv_asm.specs.declared.fault.AsmFault.{AsmFault}
use Rattle.rv_asm.specs.declared.statement.Statement.{Statement}
use Rattle.text_in.specs.Lines.{lines_of}
use Rattle.rv_asm.specs.Reading.{AreWordsOfAll, labels_from, spot_in, spots_of, lines_from, most_bytes, statements_of, Assembles}
use Rattle.rv_asm.specs.Grammar.{Label, AreLines, IsText}
use Rattle.rv_asm.specs.Parts.{viewed}
use Rattle.rv_asm.specs.Answers.{Gives}
use Rattle.rv_asm.proofs.Apart.{AreNew, placed, new_placed, new_entries, new_from_apart, apart_from_new, new_found, found_agrees, single_new}
use Rattle.text_in.proofs.Lines.{text_lines_are, text_lines_found}
use Rattle.rv_asm.proofs.LinesFound.{lines_found, lines_single, labels_rise}
use Rattle.rv_asm.proofs.LinesRead.{AreReadWith, lines_read}
use Rattle.rv_asm.proofs.SizeGrammar.{labels_are}

-- ---- what is read is in the grammar

text_parts : (limit : ℕ) (text : List ℕ) (statements : List Statement) → statements_of limit text ≡ Ok statements → (length text ≤ most_bytes) × (lines_from limit (spots_of limit (lines_of text)) 1 0 (lines_of text) ≡ Ok statements)
unfolding statements_of
text_parts limit text statements h =
    elim (cases_Bool (nat_lt most_bytes (length text))) [
      | inl t ↦ let k = rw t at h in absurd cc
      | inr f ↦ (ltb-false most_bytes (length text) f, rw f at h)
    ]

-- a text that is read is in the grammar, with its words
pub text_found : (limit : ℕ) (text : List ℕ) (statements : List Statement) (made : List ℕ) → statements_of limit text ≡ Ok statements → AreWordsOfAll statements made → length made ≤ limit → IsText limit text made
text_found limit text statements made h are few =
    let p = text_parts limit text statements h in
    let lines = lines_of text in
    let entries = labels_from limit 1 0 lines in
    let new = single_new entries 1 (labels_rise limit 1 0 lines) (lines_single (spot_in entries) limit 1 0 0 lines statements p.1) in
    let found = lines_found (placed entries) (spot_in entries) limit 1 0 lines statements made (found_agrees entries new) p.1 are in
    let same = labels_are (placed entries) limit 1 0 lines found.0 made found.1 (omega arith) in
    record {
      within = p.0;
      few = few;
      lines = lines;
      labels = placed entries;
      are_text_lines = text_lines_found text (lines_of text) refl;
      are_lines = subst (λ (own : List Label). AreLines (placed entries) 0 lines own made) same found.1;
      apart = apart_from_new (placed entries) (new_placed entries new);
    }

-- ---- what is in the grammar is read

text_read_by : (limit : ℕ) (text made : List ℕ) → length text ≤ most_bytes → AreReadWith (lines_from limit (spots_of limit (lines_of text)) 1 0 (lines_of text)) made → AreReadWith (statements_of limit text) made
unfolding statements_of
text_read_by limit text made within read = rw (le-ltb most_bytes (length text) within) read

-- a text of the grammar is read, with its words and no others
pub text_read : (limit : ℕ) (text made : List ℕ) → IsText limit text made → AreReadWith (statements_of limit text) made
text_read limit text made h =
    let lines = lines_of text in
    let entries = labels_from limit 1 0 lines in
    let are : AreLines h.labels 0 lines h.labels made = subst (λ (l : List (List ℕ)). AreLines h.labels 0 l h.labels made) (sym (text_lines_are text h.lines h.are_text_lines)) h.are_lines in
    let few : length made ≤ limit = h.few in
    let same = labels_are h.labels limit 1 0 lines h.labels made are (omega arith) in
    let new = new_entries entries (subst (λ (l : List Label). AreNew l) same (new_from_apart h.labels h.apart)) in
    text_read_by limit text made h.within
    (lines_read (placed entries) (spot_in entries) limit 1 0 lines (placed entries) made (found_agrees entries new) (subst (λ (l : List Label). AreLines l 0 lines l made) same are) (omega arith) (new_found entries new))

-- ---- what is assembled

-- what is assembled is in the grammar, with its words
pub assembled_found : {X : Type 0} (limit : ℕ) (text : List ℕ) (view : X → List ℕ) (result : Result X AsmError) → Assembles (viewed view result) (statements_of limit text) → IfOk result (λ x. length (view x) ≤ limit) → IfOk result (λ x. IsText limit text (view x))
assembled_found limit text view (Ok x) are few = by_read (statements_of limit text) refl are
  where
    by_read : (read : Result (List Statement) AsmFault) → statements_of limit text ≡ read → Assembles (Ok (view x)) read → IsText limit text (view x)
    by_read (Ok statements) e words_are = text_found limit text statements (view x) e words_are few
    by_read (Err fault) e none = absurd none
assembled_found limit text view (Err error) are few = tt

-- what is in the grammar is assembled, with its words
pub assembled_only : (limit : ℕ) (text made : List ℕ) (result : Result (List ℕ) AsmError) → IsText limit text made → Assembles result (statements_of limit text) → Gives result made
assembled_only limit text made (Ok words) is are =
    let r = text_read limit text made is in
    r.2 words (rw r.1 at are)
assembled_only limit text made (Err errors.Memory) is are = tt
assembled_only limit text made (Err (errors.Fault fault)) is are =
    let r = text_read limit text made is in
    let e : Err fault ≡ Ok r.0 = sym are ∙ r.1 in
    cc
