-- The calls whose lines begin at places of the bytes.
use Rattle.std.proofs.Common.{◌≡◌, ℕ, zero, suc, ◌<◌, ◌≤◌, true, List, [], ◌∷◌, length, drop, get_or, slice_get, Option, Some, None, refl, sym, ap, subst, ◌∙◌, arith}
use Rattle.std.specs.Prelude.{is_some, IsSome}
use Rattle.std.specs.Option.{unwrap_or}
use Rattle.mon_types.specs.Shape.{Shape}
use Rattle.hist.specs.declared.event.Entry.{Entry}
use Rattle.report_lines.specs.Lines.{ended_lines}
use Rattle.report_lines.specs.Reading.{call_in}
use Rattle.legal_report.specs.Laid.{call_at, calls_at, AreCalls}
use Rattle.legal_report.specs.Counted.{nothing_done}
use Rattle.legal_report.proofs.Walk.{here}

-- a call whose line begins at place k of these
pub record Placed (shape : Shape) (bytes places : List ℕ) (k : ℕ) : Type 0 where
  pub inside : get_or places k 0 < length bytes
  pub is_call : is_some (call_at shape bytes (get_or places k 0)) ≡ true
  pub there : slice_get (calls_at shape bytes places) k ≡ Some (unwrap_or (call_at shape bytes (get_or places k 0)) (nothing_done 0 0))

pub placed : (shape : Shape) (bytes places : List ℕ) (k : ℕ) → AreCalls shape bytes places → k < length places → Placed shape bytes places k
placed shape bytes [] k are lt = absurd (omega arith)
placed shape bytes (p ∷ places) zero are lt = record { inside = are.0.0; is_call = are.0.1; there = refl }
placed shape bytes (p ∷ places) (suc k) are lt =
    let later = placed shape bytes places k are.1 (omega arith) in
    record { inside = later.inside; is_call = later.is_call; there = later.there }

pub is_read : (shape : Shape) (bytes places : List ℕ) (k : ℕ) (left line : List ℕ) (more : List (List ℕ)) (read : Option Entry) → AreCalls shape bytes places → k < length places → left ≡ drop (get_or places k 0) bytes
    → ended_lines left ≡ line ∷ more → read ≡ call_in shape line → is_some read ≡ true
is_read shape bytes places k left line more read are lt l lines is =
    ap is_some (is ∙ sym (here shape bytes (get_or places k 0) line more (ap ended_lines (sym l) ∙ lines))) ∙ (placed shape bytes places k are lt).is_call

pub read_so : (shape : Shape) (bytes places : List ℕ) (k : ℕ) (left line : List ℕ) (more : List (List ℕ)) (read : Option Entry) (e : Entry) → AreCalls shape bytes places → k < length places → left ≡ drop (get_or places k 0) bytes
    → ended_lines left ≡ line ∷ more → read ≡ call_in shape line → read ≡ Some e → slice_get (calls_at shape bytes places) k ≡ Some e
read_so shape bytes places k left line more read e are lt l lines is got =
    (placed shape bytes places k are lt).there
    ∙ ap (λ (o : Option Entry). Some (unwrap_or o (nothing_done 0 0))) (here shape bytes (get_or places k 0) line more (ap ended_lines (sym l) ∙ lines) ∙ sym is ∙ got)

pub all_calls : (shape : Shape) (bytes places : List ℕ) → length (calls_at shape bytes places) ≡ length places
all_calls shape bytes [] = refl
all_calls shape bytes (p ∷ places) = ap suc (all_calls shape bytes places)
