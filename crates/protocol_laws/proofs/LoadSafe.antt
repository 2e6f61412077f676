-- A call that loads an enclave is safe from where it holds its objects on.
use Rattle.std.proofs.Common.{◌≡◌, inl, inr, ◌<◌, ◌≤◌, ◌+◌, ◌-◌, ◌*◌, ◌/◌, ◌%◌, ◌^◌, ◌∙◌, ℕ, zero, suc, Bool, true, false, cond, eqb, Option, Some, None, List, [], ◌∷◌, ◌++◌, length, take, drop, ap, sym, refl, subst, get_or, arith, length-append}
use Rattle.std.specs.Prelude.{is_some, slice_get}
use Rattle.std.proofs.lemmas.Bool.{cases_eq, eq-eqb, ne_eqb}
use Rattle.std.proofs.lemmas.List.{length-map}
use Rattle.mon_types.specs.Shape.{Shape, page_total, region_of_page}
use Rattle.mon_types.specs.Owns.{own_word}
use Rattle.mon_types.specs.Objects.{width}
use Rattle.mon_types.specs.Replies.{is_done}
use Rattle.mon_types.specs.declared.region.Owner.TheVariants as owners
use Rattle.mon_types.specs.declared.region.Region.TheVariants as regions
use Rattle.mon_types.specs.declared.thread.Mode.{Mode}
use Rattle.mon_types.specs.declared.call.Call.{Call}
use Rattle.mon_types.specs.declared.call.Call.TheVariants as calls
use Rattle.mon_types.specs.declared.reply.Reply.{Reply}
use Rattle.mon_types.specs.declared.object.ObjectId.{ObjectId}
use Rattle.mon_types.specs.declared.object.ObjectId.TheVariants as objects
use Rattle.mon_model.specs.State.{State, region_at, enclave_at, mode_of}
use Rattle.mon_model.specs.OnCore.{is_load_page}
use Rattle.mon_model.specs.Early.{early}
use Rattle.mon_model.specs.Measure.{page_digest}
use Rattle.mon_model.specs.RegionCalls.{is_loading}
use Rattle.mon_model.specs.Step.{reply_of, held_reply, or_else}
use Rattle.mon_model.specs.Tries.{tries, held_tries}
use Rattle.mon_model.specs.Laws.{AgreeOn}
use Rattle.mon_model.proofs.Agree.{reads}
use Rattle.mon_model.proofs.InRange.{not_refused}
use Rattle.lock_plan.specs.EveryPlan.{tries_held}
use Rattle.dram_map.specs.Addresses.{word_total, region_of_word}
use Rattle.sv39_pte.specs.Tables.{pte_place, pte_index, leads_to_table, page_led_to, path_by, path_below, last_place}
use Rattle.mon_enclaves.specs.LoadReply.{is_load, slot_of, va_of, path_length, words_reply}
use Rattle.mon_records.specs.Rows.{Found, objects_of}
use Rattle.mon_records.specs.Rebuilt.{state_of}
use Rattle.mon_records.specs.RebuiltLaws.{rebuilt}
use Rattle.mon_records.specs.Members.{In}
use Rattle.mon_records.proofs.Members.{in_contains}
use Rattle.mon_records.proofs.RebuiltStates.{words_known, region_known, enclave_known, rows_long}
use Rattle.hist.specs.declared.event.PageInput.{PageInput}
use Rattle.hist.specs.History.{digest_of}
use Rattle.loaded_pages.specs.Content.{Content, page_put, content_put, loaded_place, loaded_pte, page_loaded, content_by, content_after}
use Rattle.loaded_pages.specs.History.{words_read}
use Rattle.loaded_pages.specs.Path.{call_places, call_words}
use Rattle.loaded_pages.proofs.Changes.{page_home}
use Rattle.loaded_pages.proofs.Tables.{index_less}
use Rattle.loaded_pages.proofs.Asking.{refused_first}
use Rattle.loaded_pages.proofs.Words.{words_decide, goes_last}
use Rattle.protocol.specs.Places.{Row, Dram, Memory}
use Rattle.protocol.specs.CallTree.{Tree, Issuer, places_of, ptes_of, page_read, copy_page, put_pte, load_if, loaded, loads_if, decided_by, walk_below, finish}
use Rattle.protocol_laws.specs.Known.{IsSound, Keeps, KeepsLoading, LooksSame}
use Rattle.protocol_laws.specs.Safe.{HasRead, StaysOrKept, Safe}
use Rattle.protocol_laws.proofs.Places.{row_own}
use Rattle.protocol_laws.proofs.Agreeing.{onto_in, agree_refl, agree_sub, agree_sym, keeps_agree, loading_kept}
use Rattle.protocol_laws.proofs.Standing.{words_look}
use Rattle.protocol_laws.proofs.Locking.{refused_page, can_read, tried_is_there, AllHeld}
use Rattle.protocol_laws.proofs.Finishing.{IsFilled, known_is, shape_is, safe_finish}
use Rattle.protocol_laws.proofs.Loading.{in_page, word_kept, inside_low, OwnedPath, owned_2, safe_walk_below, safe_copy}
use Rattle.protocol_laws.proofs.LoadCalls.{slot_tried, reply_same, goes_loading, page_facts, regions_stay, place_same, content_ext, put_or, IsOnPage, page_or, safe_put}

-- ---- lists

get_in : (xs : List ℕ) (n p : ℕ) → slice_get xs n ≡ Some p → In p xs
get_in [] n p e = absurd (cc)
get_in (x ∷ xs) zero p e = inl (some_is e)
  where
    some_is : Some x ≡ Some p → p ≡ x
    some_is e = cc
get_in (x ∷ xs) (suc n) p e = inr (get_in xs n p e)

drop_front : (xs ys : List ℕ) (n : ℕ) → n ≡ length xs → drop n (xs ++ ys) ≡ ys
drop_front [] ys zero e = refl
drop_front [] ys (suc n) e = absurd (omega arith)
drop_front (x ∷ xs) ys zero e = absurd (omega arith)
drop_front (x ∷ xs) ys (suc n) e = drop_front xs ys n (omega arith)

take_whole : (xs : List ℕ) (n : ℕ) → length xs ≡ n → take n xs ≡ xs
take_whole [] zero e = refl
take_whole [] (suc n) e = refl
take_whole (x ∷ xs) zero e = absurd (omega arith)
take_whole (x ∷ xs) (suc n) e = ap (λ ys. x ∷ ys) (take_whole xs n (omega arith))

in_if : (b : Bool) (xs : List ℕ) (p : ℕ) → In p (cond b xs []) → (b ≡ true) × In p xs
in_if true xs p h = (refl, h)
in_if false xs p h = absurd h

-- each place on an owned path is kept
path_kept : (core : ℕ) (s : State) (content : Content) (e va : ℕ) (held : List ObjectId) → IsSound core s content → In (objects.Enclave e) held → is_loading (enclave_at s e).stage ≡ true → (count level page : ℕ) → OwnedPath s e content va level count page → (p : ℕ) → In p (path_by s.shape content va level count page) → (p < word_total s.shape) × KeepsLoading s held p
path_kept core s content e va held sound h loading zero level page owned p m = absurd m
path_kept core s content e va held sound h loading (suc count) level page owned p m = elim m [
  | inl is ↦ subst (λ z. (z < word_total s.shape) × KeepsLoading s held z) (sym is)
      (in_page page (pte_index level va) (page_total s.shape) (index_less level va) (inside_low s e page sound.tables owned.0), word_kept s e held page (pte_index level va) h loading owned.0.in_set (index_less level va))
  | inr g ↦
      let f = in_if (leads_to_table s.shape (content (pte_place page level va))) (path_by s.shape content va (level - 1) count (page_led_to (content (pte_place page level va)))) p g in
      path_kept core s content e va held sound h loading count (level - 1) (page_led_to (content (pte_place page level va))) (owned.1 f.0) p f.1
]

-- ---- the copy

pub record CanCopy (s : State) (held : List ObjectId) (src page : ℕ) : Type 0 where
  pub since : ℕ
  pub from : (i : ℕ) → i < 512 → (512 * src + i < word_total s.shape) × In (objects.Region (region_of_word s.shape (512 * src + i))) held × (region_at s (region_of_word s.shape (512 * src + i)) ≡ regions.Owned owners.Os since)
  pub to : (i : ℕ) → i < 512 → (512 * page + i < word_total s.shape) × KeepsLoading s held (512 * page + i)

read_words : (answers words : List ℕ) (at : ℕ) → at ≡ length answers → length words ≡ 512 → words_read (Some (page_read at words)) (answers ++ words) ≡ words
read_words answers words at e long = ap (take 512) (drop_front answers words at e) ∙ take_whole words 512 long

page_no : (call : Call) (b : Bool) → is_load_page call ≡ false → false ≡ cond (is_load_page call) b false
page_no call b e = sym (ap (λ z. cond z b false) e)

safe_copy_page : (by : Issuer) (call : Call) (s : State) (content : Content) (held : List ObjectId) (memory : Memory) (c : Call) (answers : List ℕ) (at : ℕ) (next : Option PageInput → Tree) → at ≡ length answers →
    ((e va page src perms : ℕ) → c ≡ calls.LoadPage e va page src perms → CanCopy s held src page) → ((i : ℕ) → i < word_total s.shape → Keeps s held i → memory (Dram i) ≡ content i) →
    ((page : Option PageInput) (later : List ℕ) (m : Memory) → is_some page ≡ cond (is_load_page c) true false → HasRead page later → ((i : ℕ) → i < word_total s.shape → Keeps s held i → m (Dram i) ≡ page_loaded c (words_read page later) content i) → ((o : ObjectId) (j : ℕ) → m (Row o j) ≡ memory (Row o j)) → Safe by call s content later held m (next page)) →
    Safe by call s content answers held memory (copy_page c at next)
unfolding copy_page page_put
safe_copy_page by call s content held memory (calls.LoadPage e va page src perms) answers at next e_at can same cont =
    let c = can e va page src perms refl in
    safe_copy by call s content held src page c.since c.from c.to 512 0 answers memory (λ words. next (Some (page_read at words))) refl
    (λ words m long copied.
    let is = read_words answers words at e_at long in
    cont (Some (page_read at words)) (answers ++ words) m refl (record { count = ap length is ∙ long; digest = ap page_digest (sym is) })
    (λ i b k. elim (cases_eq (i / 512) page) [
      | inl f ↦
          let j : i ≡ 512 * page + (0 + i % 512) = omega (arith, f) in
          ap (λ z. m (Dram z)) j ∙ copied.there (i % 512) (omega (arith, long)) ∙ ap (λ ws. get_or ws (i % 512) 0) (sym is)
          ∙ sym (ap (λ z. cond z (get_or (words_read (Some (page_read at words)) (answers ++ words)) (i % 512) 0) (content i)) (eq-eqb (i / 512) page f))
      | inr ne ↦ copied.others i (λ n g small. ne (omega (arith, g, small))) ∙ same i b k
          ∙ sym (ap (λ z. cond z (get_or (words_read (Some (page_read at words)) (answers ++ words)) (i % 512) 0) (content i)) (ne_eqb (i / 512) page ne))
    ]) copied.rows)
safe_copy_page by call s content held memory _ answers at next e_at can same cont = cont None answers memory refl tt same (λ o j. refl)

-- ---- the call

refused_content : (t : State) (reply : Reply) (call : Call) (words : List ℕ) (now : Content) (i : ℕ) → is_done reply ≡ false → content_after t reply call words now i ≡ now i
unfolding content_after
refused_content t reply call words now i d = ap (λ b. cond b (content_by t call words now) now i) d

done_content : (t : State) (reply : Reply) (call : Call) (words : List ℕ) (now : Content) (i : ℕ) → is_done reply ≡ true → content_after t reply call words now i ≡ content_by t call words now i
unfolding content_after
done_content t reply call words now i d = ap (λ b. cond b (content_by t call words now) now i) d

wide_region : (r : ℕ) → 0 < width (objects.Region r)
unfolding width
wide_region r = omega arith

-- the words on the page of a load_page are kept
on_page_kept : (s : State) (held : List ObjectId) (c : Call) → ((e va page src perms : ℕ) → c ≡ calls.LoadPage e va page src perms → CanCopy s held src page) → (i : ℕ) → IsOnPage c i → Keeps s held i
on_page_kept s held (calls.LoadPage e va page src perms) can i h =
    let j : i ≡ 512 * page + i % 512 = omega (arith, h) in
    subst (λ z. Keeps s held z) (sym j) (loading_kept s held _ (((can e va page src perms refl).to (i % 512) (omega arith)).1))
on_page_kept s held _ can i h = absurd h

va_small : (m : Shape) (mode : Mode) (call : Call) → is_load call ≡ true → early m mode call ≡ None → va_of call < 2 ^ 38
va_small m mode (calls.LoadTable e va level page) h none = (not_refused m mode (calls.LoadTable e va level page) none).3
va_small m mode (calls.LoadPage e va page src perms) h none = (not_refused m mode (calls.LoadPage e va page src perms) none).4
va_small m mode (calls.Reserve e va page perms) h none = (not_refused m mode (calls.Reserve e va page perms) none).3
va_small m mode _ h none = absurd (cc)

table_short : (a b : Bool) → cond a 0 (cond b 1 2) ≤ 3
table_short true b = omega arith
table_short false true = omega arith
table_short false false = omega arith

path_short : (call : Call) → is_load call ≡ true → path_length call ≤ 3
path_short (calls.LoadTable e va level page) h = table_short (eqb level 2) (eqb level 1)
path_short (calls.LoadPage e va page src perms) h = omega arith
path_short (calls.Reserve e va page perms) h = omega arith
path_short _ h = absurd (cc)

below_kept : (core : ℕ) (s : State) (content : Content) (e va : ℕ) (held : List ObjectId) → IsSound core s content → In (objects.Enclave e) held → is_loading (enclave_at s e).stage ≡ true → (count : ℕ) (root : Option ℕ) → ((page : ℕ) → root ≡ Some page → OwnedPath s e content va 2 count page) → (p : ℕ) → In p (path_below s.shape content va count root) → (p < word_total s.shape) × KeepsLoading s held p
below_kept core s content e va held sound h loading count None owned p m = absurd m
below_kept core s content e va held sound h loading count (Some page) owned p m = path_kept core s content e va held sound h loading count 2 page (owned page refl) p m

module _ (by : Issuer) (call : Call) (found : Found) (shape : Shape) (s : State) (content : Content) (memory : Memory) (load : is_load call ≡ true) (none : early shape by.mode call ≡ None) (of_shape : s.shape ≡ shape) (of_mode : by.mode ≡ mode_of s by.core) (all : AllHeld by call found s content memory) where
  early_s : early s.shape (mode_of s by.core) call ≡ None
  early_s = ap (λ z. early z (mode_of s by.core) call) of_shape ∙ ap (λ z. early shape z call) (sym of_mode) ∙ none

  tried_in : (o : ObjectId) → In o (tries s by.core call) → In o (objects_of found)
  tried_in o h = elim (onto_in (objects_of found) [] o (subst (In o) (all.planned s content all.sound (agree_refl s by.core (objects_of found))) h)) [ inl g ↦ g | inr g ↦ absurd g ]

  is_tried : (o : ObjectId) → In o (held_tries s by.core call) → In o (tries s by.core call)
  is_tried o h = subst (In o) (sym (tries_held s by.core call early_s)) h

  slot_in : In (objects.Enclave (slot_of call)) (objects_of found)
  slot_in = tried_in (objects.Enclave (slot_of call)) (is_tried (objects.Enclave (slot_of call)) (slot_tried s by.core call load))

  known_same : state_of shape by.mode found ≡ rebuilt s by.core found
  known_same = known_is by found shape s s (objects_of found) of_shape of_mode (agree_refl s by.core (objects_of found))

  slot_is : enclave_at (state_of shape by.mode found) (slot_of call) ≡ enclave_at s (slot_of call)
  slot_is = ap (λ z. enclave_at z (slot_of call)) known_same
      ∙ enclave_known s by.core found (can_read by.core s content all.sound) all.are_rows (slot_of call) slot_in
      (tried_is_there by.core s content call (objects.Enclave (slot_of call)) all.sound (is_tried (objects.Enclave (slot_of call)) (slot_tried s by.core call load)))

  source_in : (e va page src perms : ℕ) → call ≡ calls.LoadPage e va page src perms → In (objects.Region (region_of_page s.shape src)) (tries s by.core call)
  source_in e va page src perms is = is_tried (objects.Region (region_of_page s.shape src)) (subst (λ z. In (objects.Region (region_of_page s.shape src)) (held_tries s by.core z)) (sym is) (inr (inl refl)))

  words_same : (words : List ℕ) → words_reply (state_of shape by.mode found) call words ≡ words_reply s call words
  words_same words = reply_same (state_of shape by.mode found) s call words (shape_is shape by.mode found ∙ sym of_shape) slot_is
      (λ e va page src perms is. ap (λ z. region_at z (region_of_page s.shape src)) known_same
      ∙ region_known s by.core found (can_read by.core s content all.sound) all.are_rows (region_of_page s.shape src) (tried_in (objects.Region (region_of_page s.shape src)) (source_in e va page src perms is))
      (tried_is_there by.core s content call (objects.Region (region_of_page s.shape src)) all.sound (source_in e va page src perms is)))

  held_is_reply : held_reply s by.core call ≡ reply_of s by.core call
  held_is_reply = sym (ap (λ o. or_else o (held_reply s by.core call)) early_s)

  later_reply : (reply : Reply) → reply ≡ reply_of s by.core call → (t : State) (now : Content) → IsSound by.core t now → AgreeOn s t by.core (objects_of found) → reply ≡ reply_of t by.core call
  later_reply reply is t now sound agree =
      is ∙ sym (reads s t by.core call [] 0 all.sound.tables.whole sound.tables.whole (agree_sub s t by.core (tries s by.core call) (objects_of found) tried_in agree)).reply

  words_kept : (i : ℕ) → i < word_total s.shape → Keeps s (objects_of found) i → memory (Dram i) ≡ content i
  words_kept i b k = all.words k.who k.held_is i b k.answers

  -- the finish of every such call
  finish_load : (reply : Reply) (page : Option PageInput) (answers : List ℕ) (m : Memory) → reply ≡ reply_of s by.core call → is_some page ≡ cond (is_load_page call) (is_done reply) false → HasRead page answers → ((o : ObjectId) (i : ℕ) → m (Row o i) ≡ memory (Row o i)) →
      ((t : State) (now : Content) → IsSound by.core t now → AgreeOn s t by.core (objects_of found) → StaysOrKept t (objects_of found) now (content_after t reply call (words_read page answers) now)) →
      ((t : State) (now : Content) (later : Memory) → LooksSame by.core s content (objects_of found) m t now later → IsSound by.core t now → IsFilled t reply call (words_read page answers) (objects_of found) now later) →
      Safe by call s content answers (objects_of found) m (finish by call reply page (objects_of found) (state_of shape by.mode found) found)
  finish_load reply page answers m reply_is page_is read rows stays fills =
      safe_finish by call reply page found found shape s content answers m of_shape of_mode all.are_rows all.planned
      (λ o i h b. rows o i ∙ all.rows o h i b ∙ ap (λ ws. get_or ws i 0) (sym (words_known found s o all.are_rows h)))
      (λ o h. ap length (words_known found s o all.are_rows h) ∙ rows_long s o (can_read by.core s content all.sound))
      (λ d. refl) (later_reply reply reply_is) page_is read
      (λ t now ticket r sound agree h live. rows (objects.Region r) 0 ∙ all.rows (objects.Region r) h 0 (wide_region r) ∙ row_own s r
      ∙ ap own_word (sym (agree.region r (in_contains (objects_of found) (objects.Region r) h)))
      ∙ ap (λ z. own_word (get_or z r regions.Free)) (sym (regions_stay t by.core call (digest_of page) ticket load)))
      (λ t now later looks sound. stays t now sound looks.agree) fills

  finish_refused : (reply : Reply) (answers : List ℕ) → reply ≡ reply_of s by.core call → is_done reply ≡ false → Safe by call s content answers (objects_of found) memory (finish by call reply None (objects_of found) (state_of shape by.mode found) found)
  finish_refused reply answers reply_is d = finish_load reply None answers memory reply_is (refused_page (is_load_page call) (is_done reply) d) tt (λ o i. refl)
      (λ t now sound agree i. inl (refused_content t reply call [] now i d))
      (λ t now later looks sound i b k. inr (words_look by.core s content (objects_of found) memory t now later looks all.words k.who k.held_is i b k.answers ∙ sym (refused_content t reply call [] now i d)))

  finish_done : (reply : Reply) (page : Option PageInput) (answers : List ℕ) (m : Memory) → reply ≡ reply_of s by.core call → is_done reply ≡ true → is_some page ≡ cond (is_load_page call) true false → HasRead page answers → ((o : ObjectId) (i : ℕ) → m (Row o i) ≡ memory (Row o i)) →
      ((i : ℕ) → i < word_total s.shape → Keeps s (objects_of found) i → m (Dram i) ≡ content_put (loaded_place s call) (loaded_pte call) (page_loaded call (words_read page answers) content) i) →
      ((p : ℕ) → loaded_place s call ≡ Some p → Keeps s (objects_of found) p) → ((i : ℕ) → IsOnPage call i → Keeps s (objects_of found) i) →
      Safe by call s content answers (objects_of found) m (finish by call reply page (objects_of found) (state_of shape by.mode found) found)
  finish_done reply page answers m reply_is d page_is read rows fill place_kept on_page =
      let words : List ℕ = words_read page answers in
      let same_place : (t : State) → AgreeOn s t by.core (objects_of found) → loaded_place t call ≡ loaded_place s call = λ t agree. place_same s t call (agree.enclave (slot_of call) (in_contains (objects_of found) _ slot_in)) (agree.items (slot_of call) (in_contains (objects_of found) _ slot_in)) in
      finish_load reply page answers m reply_is (page_is ∙ ap (λ z. cond (is_load_page call) z false) (sym d)) read rows
      (λ t now sound agree i.
      let e = done_content t reply call words now i d ∙ content_ext s t call words now now i load (same_place t agree) refl in
      elim (put_or (loaded_place s call) (loaded_pte call) (page_loaded call words now) i) [
        | inl a ↦ elim (page_or call words now i) [ inl b ↦ inl (e ∙ a ∙ b) | inr q ↦ inr (inr (keeps_agree s t by.core (objects_of found) agree i (on_page i q))) ]
        | inr a ↦ inr (inr (keeps_agree s t by.core (objects_of found) agree i (place_kept i a)))
      ])
      (λ t now later looks sound i b k.
      let before = keeps_agree t s by.core (objects_of found) (agree_sym s t by.core (objects_of found) looks.agree) i k in
      inr (looks.words i before ∙ fill i (subst (λ z. i < word_total z) looks.agree.shape b) before ∙ sym (done_content t reply call words now i d ∙ content_ext s t call words now content i load (same_place t looks.agree) (looks.kept i before))))

  -- ---- where the records do not refuse it

  module _ (went : is_done (words_reply s call []) ≡ true) where
    loading : is_loading (enclave_at s (slot_of call)).stage ≡ true
    loading = goes_loading s call load went

    owned : (page : ℕ) → (enclave_at s (slot_of call)).root ≡ Some page → OwnedPath s (slot_of call) content (va_of call) 2 (path_length call) page
    owned page rooted = owned_2 s (slot_of call) (va_of call) content all.sound.tables all.sound.facts loading page ((all.sound.holds.pages (slot_of call) loading).tables page rooted) rooted
        (va_small s.shape (mode_of s by.core) call load early_s) (path_length call) (path_short call load)

    can_copy : (e va page src perms : ℕ) → call ≡ calls.LoadPage e va page src perms → CanCopy s (objects_of found) src page
    can_copy e va page src perms is =
        let facts = page_facts s e va page src perms (subst (λ z. is_done (words_reply s z []) ≡ true) is went) in
        let range = not_refused s.shape (mode_of s by.core) (calls.LoadPage e va page src perms) (subst (λ z. early s.shape (mode_of s by.core) z ≡ None) is early_s) in
        record {
          since = facts.1.0;
          from = λ i small. (
            in_page src i (page_total s.shape) small range.2,
            subst (λ z. In (objects.Region z) (objects_of found)) (sym (page_home s.shape src i small)) (tried_in (objects.Region (region_of_page s.shape src)) (source_in e va page src perms is)),
            ap (λ z. region_at s z) (page_home s.shape src i small) ∙ facts.1.1,
          );
          to = λ i small. (
            in_page page i (page_total s.shape) small range.1,
            word_kept s e (objects_of found) page i (subst (λ z. In (objects.Enclave (slot_of z)) (objects_of found)) is slot_in) (subst (λ z. is_loading (enclave_at s (slot_of z)).stage ≡ true) is loading) facts.0 small,
          );
        }

    safe_load_if : (b : Bool) (reply : Reply) (ptes : List (ℕ × ℕ)) (answers : List ℕ) → is_done reply ≡ b → reply ≡ reply_of s by.core call → by.answers + length ptes ≡ length answers → places_of ptes ≡ call_places s content call →
        Safe by call s content answers (objects_of found) memory (load_if b by call reply ptes (state_of shape by.mode found) found)
    unfolding load_if
    safe_load_if false reply ptes answers d reply_is at path_is = finish_refused reply answers reply_is d
    safe_load_if true reply ptes answers d reply_is at path_is =
        let goes : loaded_place s call ≡ last_place (call_places s content call) = goes_last s content all.sound.tables all.sound.holds by.core call load (ap is_done (sym reply_is) ∙ d) in
        let place_is : last_place (places_of ptes) ≡ loaded_place s call = ap last_place path_is ∙ sym goes in
        let place_kept : (p : ℕ) → loaded_place s call ≡ Some p → (p < word_total s.shape) × KeepsLoading s (objects_of found) p = λ p e.
        below_kept by.core s content (slot_of call) (va_of call) (objects_of found) all.sound slot_in loading (path_length call) (enclave_at s (slot_of call)).root owned p
        (get_in (call_places s content call) _ p (sym goes ∙ e)) in
        safe_copy_page by call s content (objects_of found) memory call answers (by.answers + length ptes) (λ page. put_pte (last_place (places_of ptes)) call (finish by call reply page (objects_of found) (state_of shape by.mode found) found)) at can_copy words_kept
        (λ page later m page_is read filled rows.
        subst (λ z. Safe by call s content later (objects_of found) m (put_pte z call (finish by call reply page (objects_of found) (state_of shape by.mode found) found))) (sym place_is)
        (safe_put by call (loaded_place s call) (finish by call reply page (objects_of found) (state_of shape by.mode found) found) s content later (objects_of found) m (page_loaded call (words_read page later) content) place_kept filled
        (λ m2 fill rows2. finish_done reply page later m2 reply_is d page_is read (λ o i. rows2 o i ∙ rows o i) fill (λ p e. loading_kept s (objects_of found) p (place_kept p e).1) (on_page_kept s (objects_of found) call can_copy))))

    safe_loaded : (ptes : List (ℕ × ℕ)) (answers : List ℕ) → by.answers + length ptes ≡ length answers → places_of ptes ≡ call_places s content call → ptes_of ptes ≡ call_words s content call →
        Safe by call s content answers (objects_of found) memory (loaded by call (state_of shape by.mode found) found ptes)
    unfolding loaded
    safe_loaded ptes answers at path_is words_are =
        safe_load_if (is_done (words_reply (state_of shape by.mode found) call (ptes_of ptes))) (words_reply (state_of shape by.mode found) call (ptes_of ptes)) ptes answers refl
        (words_same (ptes_of ptes) ∙ ap (words_reply s call) words_are ∙ words_decide s content by.core all.sound.tables all.sound.holds call load early_s ∙ held_is_reply) at path_is

    safe_loading : (answers : List ℕ) → by.answers ≡ length answers →
        Safe by call s content answers (objects_of found) memory (walk_below (state_of shape by.mode found).shape (va_of call) (path_length call) (enclave_at (state_of shape by.mode found) (slot_of call)).root (loaded by call (state_of shape by.mode found) found))
    safe_loading answers heard =
        subst (λ z. Safe by call s content answers (objects_of found) memory (walk_below z (va_of call) (path_length call) (enclave_at (state_of shape by.mode found) (slot_of call)).root (loaded by call (state_of shape by.mode found) found))) (of_shape ∙ sym (shape_is shape by.mode found))
        (subst (λ x. Safe by call s content answers (objects_of found) memory (walk_below s.shape (va_of call) (path_length call) x.root (loaded by call (state_of shape by.mode found) found))) (sym slot_is)
        (safe_walk_below by call s content (objects_of found) memory (slot_of call) (va_of call) all.sound.tables slot_in loading all.words (path_length call) (enclave_at s (slot_of call)).root answers (loaded by call (state_of shape by.mode found) found) owned
        (λ ptes path_is words_are. safe_loaded ptes (answers ++ ptes_of ptes) (omega (arith, heard, length-append answers (ptes_of ptes), length-map ptes (λ p. p.1))) path_is words_are)))

  safe_by : (b : Bool) (answers : List ℕ) → is_done (words_reply (state_of shape by.mode found) call []) ≡ b → by.answers ≡ length answers → Safe by call s content answers (objects_of found) memory (loads_if b by call (state_of shape by.mode found) found)
  unfolding loads_if loaded load_if
  safe_by true answers d heard = safe_loading (ap is_done (sym (words_same [])) ∙ d) answers heard
  safe_by false answers d heard =
      subst (λ b. Safe by call s content answers (objects_of found) memory (load_if b by call (words_reply (state_of shape by.mode found) call []) [] (state_of shape by.mode found) found)) (sym d)
      (finish_refused (words_reply (state_of shape by.mode found) call []) answers
      (words_same [] ∙ refused_first s by.core call load (ap is_done (sym (words_same [])) ∙ d) ∙ held_is_reply) d)

  pub safe_load : (answers : List ℕ) → by.answers ≡ length answers → Safe by call s content answers (objects_of found) memory (decided_by true by call (state_of shape by.mode found) found)
  unfolding decided_by
  safe_load answers heard = safe_by (is_done (words_reply (state_of shape by.mode found) call [])) answers refl heard
