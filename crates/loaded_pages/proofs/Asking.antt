-- A call that loads may be asked for its reply after each word: by the words so far it is Ok exactly where the walk goes
-- on.
use Rattle.std.proofs.Common.{◌≡◌, ◌∙◌, ◌+◌, ◌-◌, ◌<◌, ℕ, Bool, true, false, cond, eqb, ◌&&◌, ◌||◌, Some, List, [], ◌∷◌, ◌++◌, length, length-append, sym, ap, refl, arith}
use Rattle.std.specs.Prelude.{slice_get}
use Rattle.std.proofs.lemmas.Bool.{ne_eqb}
use Rattle.mon_types.specs.Shape.{Shape, region_of_page}
use Rattle.mon_types.specs.Replies.{is_done, done_if}
use Rattle.mon_types.specs.declared.call.Call.{Call}
use Rattle.mon_types.specs.declared.call.Call.TheVariants as calls
use Rattle.mon_types.specs.declared.reply.Reply.{Reply}
use Rattle.mon_types.specs.declared.reply.Reply.TheVariants as replies
use Rattle.mon_model.specs.State.{State, region_at, enclave_at, loaded_at}
use Rattle.mon_model.specs.Loading.{takes_page, reserves_page, has_place_for_table, has_place_for_leaf}
use Rattle.mon_model.specs.EnclaveCalls.{table_fits, leaf_fits, is_os_owned}
use Rattle.mon_model.specs.Step.{held_reply}
use Rattle.sv39_pte.specs.Tables.{leads_to_table}
use Rattle.mon_enclaves.specs.ByWords.{word_fits, words_fit}
use Rattle.mon_enclaves.specs.LoadReply.{is_load, slot_of, source_of, path_length, words_reply}
use Rattle.mon_enclaves.proofs.ByNone.{by_none}
use Rattle.loaded_pages.proofs.Cases.{clash}

-- ---- before any word is read

first_false : (a c : Bool) → is_done (done_if (a && true)) ≡ false → done_if (a && true) ≡ done_if (a && c)
first_false true c d = clash (sym d)
first_false false c d = refl

page_false : (a b c : Bool) → is_done (cond a (cond b (done_if true) replies.AccessDenied) replies.InvalidState) ≡ false
    → cond a (cond b (done_if true) replies.AccessDenied) replies.InvalidState ≡ cond a (cond b (done_if c) replies.AccessDenied) replies.InvalidState
page_false true true c d = clash (sym d)
page_false true false c d = refl
page_false false b c d = refl

pub refused_first : (s : State) (core : ℕ) (call : Call) → is_load call ≡ true → is_done (words_reply s call []) ≡ false → words_reply s call [] ≡ held_reply s core call
refused_first s core (calls.LoadTable e va level page) one d = first_false (takes_page s.shape (enclave_at s e) page && table_fits (enclave_at s e) va level) (eqb level 2 || has_place_for_table (loaded_at s e) va level) d
refused_first s core (calls.LoadPage e va page src perms) one d = page_false (takes_page s.shape (enclave_at s e) page && leaf_fits (enclave_at s e) va) (is_os_owned (region_at s (region_of_page s.shape src))) (has_place_for_leaf (loaded_at s e) va) d
refused_first s core (calls.Reserve e va page perms) one d = first_false (reserves_page s.shape (enclave_at s e) page && leaf_fits (enclave_at s e) va) (has_place_for_leaf (loaded_at s e) va) d
refused_first s core _ one d = absurd (cc)

-- ---- by the words so far

-- a reply that is r by none, and decided by the words where r is Ok
ok_if : (r : Reply) (f b : Bool) → is_done r ≡ b → is_done (cond b (done_if f) r) ≡ (b && f)
ok_if r true true d = refl
ok_if r false true d = refl
ok_if r f false d = d

pub ok_by_words : (s : State) (call : Call) (ws : List ℕ) → is_load call ≡ true → is_done (words_reply s call ws) ≡ (is_done (words_reply s call []) && words_fit s.shape (path_length call) ws)
ok_by_words s call ws one =
    ap is_done (by_none s.shape (enclave_at s (slot_of call)) (region_at s (region_of_page s.shape (source_of call))) call ws)
    ∙ ok_if (words_reply s call []) (words_fit s.shape (path_length call) ws) (is_done (words_reply s call [])) refl

-- one more word before the end of the path
pub fits_before : (shape : Shape) (path word : ℕ) (ws : List ℕ) → length ws + 1 < path → words_fit shape path (ws ++ word ∷ []) ≡ leads_to_table shape word
fits_before shape path word ws h =
    let long : length (ws ++ word ∷ []) ≡ length ws + 1 = length-append ws (word ∷ []) in
    let at : slice_get (ws ++ word ∷ []) (length (ws ++ word ∷ []) - 1) ≡ Some word = ap (slice_get (ws ++ word ∷ [])) (let e = long in omega arith) ∙ behind ws word in
    ap (λ o. word_fits shape (eqb (length (ws ++ word ∷ [])) path) o) at ∙ ap (λ b. cond b (eqb word 0) (leads_to_table shape word)) (ne_eqb (length (ws ++ word ∷ [])) path (λ e. absurd (let l = long in omega arith)))
  where
    behind : (ws : List ℕ) (w : ℕ) → slice_get (ws ++ w ∷ []) (length ws) ≡ Some w
    behind [] w = refl
    behind (x ∷ xs) w = behind xs w
