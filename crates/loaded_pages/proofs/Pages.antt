-- After an Ok of load_page its page holds the words that were read.
use Rattle.std.proofs.Common.{◌≡◌, ◌∙◌, inr, ℕ, suc, ◌+◌, ◌*◌, ◌%◌, ◌<◌, ◌&&◌, true, cond, None, List, [], ◌∷◌, length, map, get_or, ap, refl, sym, arith}
use Rattle.std.specs.List.{range_with_len}
use Rattle.mon_types.specs.Replies.{is_done}
use Rattle.mon_types.specs.Shape.{region_of_page}
use Rattle.mon_types.specs.declared.call.Call.TheVariants as calls
use Rattle.mon_model.specs.State.{State, region_at, enclave_at, loaded_at}
use Rattle.mon_model.specs.Loading.{is_there_for, is_table_0, has_table_1, has_table_0, is_next_page, takes_page, has_place_for_leaf}
use Rattle.mon_model.specs.EnclaveCalls.{leaf_fits, is_os_owned}
use Rattle.mon_model.specs.Step.{reply_of}
use Rattle.mon_model.proofs.Carried.{carried}
use Rattle.mon_facts.specs.Facts.{FactsHold}
use Rattle.sv39_pte.specs.Tables.{pte_index, leaf_pte}
use Rattle.loaded_pages.specs.Content.{Content, place_in_table, content_put, page_put, region_zeroed, content_by, content_after}
use Rattle.loaded_pages.specs.History.{page_words_of}
use Rattle.loaded_pages.proofs.Tables.{index_less}
use Rattle.loaded_pages.proofs.Changes.{link_other, paste_in}
use Rattle.loaded_pages.proofs.Stay.{table_inside}
use Rattle.loaded_pages.proofs.Loads.{and_left, and_right, taken, page_ok, any_found}

-- the pte's word lies in a table, which is not the page
word_loaded : (s : State) (core : ℕ) (f : Content) (ws : List ℕ) (e va page src perms : ℕ) → FactsHold s → is_done (reply_of s core (calls.LoadPage e va page src perms)) ≡ true → (i : ℕ) → i < 512
    → content_by s (calls.LoadPage e va page src perms) ws f (512 * page + i) ≡ get_or ws i 0
word_loaded s core f ws e va page src perms facts d i few =
    let x = enclave_at s e in
    let items = loaded_at s e in
    let ok = page_ok (takes_page s.shape x page && leaf_fits x va) (is_os_owned (region_at s (region_of_page s.shape src))) (has_place_for_leaf items va) (carried s core (calls.LoadPage e va page src perms) d).held in
    let tk = taken x page (and_left (is_next_page x page) _ (and_left (takes_page s.shape x page) (leaf_fits x va) ok.0)) in
    let t0 = any_found (λ item. is_table_0 item.kind && is_there_for va item) items (and_right (has_table_1 va items) (has_table_0 va items) (and_left (has_table_1 va items && has_table_0 va items) _ ok.2)) in
    let inside = table_inside s.shape x items va t0.0 (facts.placed e tk.loading) (inr t0.1) in
    let g : Content = page_put page ws (region_zeroed s.shape None f) in
    ap (λ z. content_put (place_in_table z 0 va) (leaf_pte page perms) g (512 * page + i)) t0.1
    ∙ link_other (512 * t0.0.page + pte_index 0 va) (leaf_pte page perms) g (512 * page + i) (λ q. absurd (let l = index_less 0 va in omega (arith, inside.below, tk.above, few, q, l)))
    ∙ paste_in page ws (region_zeroed s.shape None f) (512 * page + i) (let l = few in omega arith) ∙ ap (λ z. get_or ws z 0) (let l = few in let h : (512 * page + i) % 512 ≡ i = omega arith in h)

-- a list is what stands at its places
list_at : (g : ℕ → ℕ) (ws : List ℕ) (a : ℕ) → ((i : ℕ) → i < length ws → g (a + i) ≡ get_or ws i 0) → map g (range_with_len a (length ws)) ≡ ws
list_at g [] a h = refl
list_at g (w ∷ ws) a h =
    ap (λ x. x ∷ map g (range_with_len (a + 1) (length ws))) (ap g {x = a} {y = a + 0} (omega arith) ∙ h 0 (omega arith))
    ∙ ap (λ xs. w ∷ xs) (list_at g ws (a + 1) (λ i lt. ap g {x = a + 1 + i} {y = a + suc i} (omega arith) ∙ h (suc i) (omega arith)))

pub page_holds : (s : State) (f : Content) (core e va page src perms : ℕ) (ws : List ℕ) → FactsHold s → length ws ≡ 512 → is_done (reply_of s core (calls.LoadPage e va page src perms)) ≡ true
    → page_words_of (content_after s (reply_of s core (calls.LoadPage e va page src perms)) (calls.LoadPage e va page src perms) ws f) page ≡ ws
unfolding content_after
page_holds s f core e va page src perms ws facts count d =
    ap (λ b. page_words_of (cond b (content_by s (calls.LoadPage e va page src perms) ws f) f) page) d
    ∙ ap (λ n. map (λ j. content_by s (calls.LoadPage e va page src perms) ws f (512 * page + j)) (range_with_len 0 n)) (sym count)
    ∙ list_at (λ j. content_by s (calls.LoadPage e va page src perms) ws f (512 * page + j)) ws 0
    (λ i lt. ap (λ j. content_by s (calls.LoadPage e va page src perms) ws f (512 * page + j)) {x = 0 + i} {y = i} (omega arith) ∙ word_loaded s core f ws e va page src perms facts d i (omega (arith, count)))
