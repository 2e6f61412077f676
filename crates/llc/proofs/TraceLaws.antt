-- A trace is read as what it is in the grammar, and as nothing else.
use Rattle.std.proofs.Common.{◌≡◌, ℕ, ◌+◌, true, ltb, List, [], ◌∷◌, ◌++◌, length, Option, Some, None, Result, Ok, Err, refl, sym, ap, subst, ◌∙◌, inl, inr}
use Rattle.std.specs.Prelude.{IfOk, All}
use Rattle.std.specs.Option.{option_to_list}
use Rattle.std.proofs.lemmas.Bool.{cases_Bool, ltb-false, le-ltb}
use Rattle.std.proofs.lemmas.List.Elements.{All-nil, All-cons}
use Rattle.mon_types.specs.Shape.{Shape, is_shape}
use Rattle.dram_map.specs.Addresses.{is_in_dram}
use Rattle.text_in.specs.Lines.{lines_of}
use Rattle.text_in.proofs.Lines.{text_lines_are, text_lines_found}
use Rattle.reader_answers.specs.Steps.{◌>>=◌}
use Rattle.reader_answers.specs.declared.errors.ParseError.{ParseError}
use Rattle.reader_answers.specs.Answers.{Gives}
use Rattle.reader_answers.proofs.Steps.{bind_ok, ok_is, not_ok}
use Rattle.llc.specs.declared.fault.TraceFault.{TraceFault}
use Rattle.llc.specs.declared.fault.TraceFault.TheVariants as faults
use Rattle.llc.specs.declared.line.Head.{Head}
use Rattle.llc.specs.declared.trace.Trace.{Trace}
use Rattle.llc.specs.Grammar.{HasWords, IsHead, IsAccess, AreAccesses, AreTraceLines, limit, IsTrace}
use Rattle.llc.specs.Reading.{words_in, first_of, access_of, accesses_from, trace_behind, trace_at, trace_from, trace_of}
use Rattle.llc.specs.Answers.{CanRun}
use Rattle.llc.proofs.Heads.{words_read, words_there, head_is, head_read, first_found, first_empty, access_read, access_found}

-- ---- what is in the grammar is read so

accesses_read : (shape : Shape) (n : ℕ) (texts : List (List ℕ)) (addresses : List ℕ) → is_shape shape ≡ true → AreAccesses shape texts addresses
    → accesses_from shape n texts ≡ Ok addresses
unfolding accesses_from
accesses_read shape n [] addresses is h = ap Ok (sym h)
accesses_read shape n (text ∷ texts) addresses is h =
    let here : access_of shape n (words_in text) ≡ Ok h.1 = ap (access_of shape n) (words_read text h.0 h.3) ∙ access_read shape n h.0 h.1 is h.4 in
    rw (here, accesses_read shape (n + 1) texts h.2 is h.6) (ap Ok (sym h.5))

behind_read : (n : ℕ) (texts : List (List ℕ)) (trace : Trace) → is_shape trace.config ≡ true → AreAccesses trace.config texts trace.addresses
    → trace_behind (head_is trace.config trace.ways) n texts ≡ Ok trace
behind_read n texts trace is h = rw (accesses_read trace.config n texts trace.addresses is h) refl

lines_read : (n : ℕ) (texts : List (List ℕ)) (trace : Trace) → AreTraceLines texts trace → trace_from n texts ≡ Ok trace
unfolding trace_from
lines_read n [] trace h = absurd h
lines_read n (text ∷ texts) trace (inl h) =
    let here : first_of n (words_in text) ≡ Ok None = ap (first_of n) (words_read text [] h.0) in
    rw here (lines_read (n + 1) texts trace h.1)
lines_read n (text ∷ texts) trace (inr h) =
    let head : IsHead h.0 trace.config trace.ways = h.2 in
    let here : first_of n (words_in text) ≡ Ok (Some (head_is trace.config trace.ways)) = ap (first_of n) (words_read text h.0 h.1) ∙ head_read h.0 trace.config trace.ways head n in
    rw here (behind_read (n + 1) texts trace head.within h.3)

pub trace_is : (bytes : List ℕ) (trace : Trace) → IsTrace bytes trace → trace_of bytes ≡ Ok trace
unfolding trace_of
trace_is bytes trace h =
    rw (le-ltb limit (length bytes) h.within) (ap (trace_from 1) (text_lines_are bytes h.texts h.are_texts) ∙ lines_read 1 h.texts trace h.are_lines)

-- ---- what is read is in the grammar

accesses_found : (shape : Shape) (n : ℕ) (texts : List (List ℕ)) (addresses : List ℕ) → accesses_from shape n texts ≡ Ok addresses → AreAccesses shape texts addresses
unfolding accesses_from
accesses_found shape n [] addresses h = sym (ok_is [] addresses h)
accesses_found shape n (text ∷ texts) addresses h =
    let a = bind_ok (access_of shape n (words_in text)) (λ access. accesses_from shape (n + 1) texts >>= λ others. Ok (option_to_list access ++ others)) addresses h in
    let b = bind_ok (accesses_from shape (n + 1) texts) (λ others. Ok (option_to_list a.0 ++ others)) addresses a.2 in (
      words_in text,
      a.0,
      b.0,
      words_there text,
      access_found shape n (words_in text) a.0 a.1,
      sym (ok_is (option_to_list a.0 ++ b.0) addresses b.2),
      accesses_found shape (n + 1) texts b.0 b.1,
    )

-- the trace with this head and these accesses
abbrev trace_with : Head → List ℕ → Trace
trace_with head addresses = record { config = head.config; ways = head.ways; addresses = addresses }

-- the lines are a head and accesses
abbrev BeginsWithHead : List ℕ → List (List ℕ) → Trace → Type 0
BeginsWithHead text texts trace =
    (words : List (List ℕ)) × HasWords text words × IsHead words trace.config trace.ways × AreAccesses trace.config texts trace.addresses

behind_found : (n m : ℕ) (text : List ℕ) (texts : List (List ℕ)) (head : Head) (trace : Trace) → first_of n (words_in text) ≡ Ok (Some head)
    → trace_behind head m texts ≡ Ok trace → BeginsWithHead text texts trace
behind_found n m text texts head trace first h =
    let a = bind_ok (accesses_from head.config m texts) (λ addresses. Ok (trace_with head addresses)) trace h in
    subst (BeginsWithHead text texts) (ok_is (trace_with head a.0) trace a.2)
    (words_in text, words_there text, first_found n (words_in text) head first, accesses_found head.config m texts a.0 a.1)

empty_line : (text : List ℕ) → words_in text ≡ [] → HasWords text []
empty_line text h = subst (HasWords text) h (words_there text)

by_head : (n : ℕ) (text : List ℕ) (texts : List (List ℕ)) (trace : Trace) → (trace_from (n + 1) texts ≡ Ok trace → AreTraceLines texts trace)
    → (head : Option Head) → first_of n (words_in text) ≡ Ok head → trace_at head (n + 1) texts (trace_from (n + 1) texts) ≡ Ok trace → AreTraceLines (text ∷ texts) trace
by_head n text texts trace found None first later = inl (empty_line text (first_empty n (words_in text) first), found later)
by_head n text texts trace found (Some head) first later = inr (behind_found n (n + 1) text texts head trace first later)

lines_found : (n : ℕ) (texts : List (List ℕ)) (trace : Trace) → trace_from n texts ≡ Ok trace → AreTraceLines texts trace
unfolding trace_from
lines_found n [] trace h = not_ok (faults.BadLine n) trace _ h
lines_found n (text ∷ texts) trace h =
    let a = bind_ok (first_of n (words_in text)) (λ head. trace_at head (n + 1) texts (trace_from (n + 1) texts)) trace h in
    by_head n text texts trace (lines_found (n + 1) texts trace) a.0 a.1 a.2

pub trace_found : (bytes : List ℕ) (trace : Trace) → trace_of bytes ≡ Ok trace → IsTrace bytes trace
unfolding trace_of
trace_found bytes trace h =
    elim (cases_Bool (ltb limit (length bytes))) [
      | inl t ↦ not_ok faults.TooLong trace (IsTrace bytes trace) (rw t at h)
      | inr f ↦ record {
        within = ltb-false limit (length bytes) f;
        texts = lines_of bytes;
        are_texts = text_lines_found bytes (lines_of bytes) refl;
        are_lines = lines_found 1 (lines_of bytes) trace (rw f at h);
      }
    ]

-- ---- what is in the grammar can be run

with_access : (shape : Shape) (words : List (List ℕ)) (access : Option ℕ) (others : List ℕ) → IsAccess shape words access → All (λ a. is_in_dram shape a ≡ true) others
    → All (λ a. is_in_dram shape a ≡ true) (option_to_list access ++ others)
with_access shape words None others is all = all
with_access shape words (Some address) others is all = All-cons (λ a. is_in_dram shape a ≡ true) address others is.in_dram all

accesses_in_dram : (shape : Shape) (texts : List (List ℕ)) (addresses : List ℕ) → AreAccesses shape texts addresses → All (λ a. is_in_dram shape a ≡ true) addresses
accesses_in_dram shape [] addresses h = subst (All (λ a. is_in_dram shape a ≡ true)) (sym h) (All-nil (λ a. is_in_dram shape a ≡ true))
accesses_in_dram shape (text ∷ texts) addresses h =
    subst (All (λ a. is_in_dram shape a ≡ true)) (sym h.5) (with_access shape h.0 h.1 h.2 h.4 (accesses_in_dram shape texts h.2 h.6))

lines_run : (texts : List (List ℕ)) (trace : Trace) → AreTraceLines texts trace → CanRun trace
lines_run [] trace h = absurd h
lines_run (text ∷ texts) trace (inl h) = lines_run texts trace h.1
lines_run (text ∷ texts) trace (inr h) =
    let head : IsHead h.0 trace.config trace.ways = h.2 in
    record { from = head.some; to = head.few; dram = accesses_in_dram trace.config texts trace.addresses h.3 }

-- ---- answers

pub runs_if : (bytes : List ℕ) (r : Result Trace (ParseError TraceFault)) → Gives (λ t. t) r (trace_of bytes) → IfOk r (λ trace. CanRun trace)
runs_if bytes (Ok trace) h = let t = trace_found bytes trace h in lines_run t.texts trace t.are_lines
runs_if bytes (Err e) h = tt
