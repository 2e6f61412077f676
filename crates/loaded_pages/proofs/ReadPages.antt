-- In a legal history an Ok load_page leaves in its page the words that its entry read.
use Rattle.std.proofs.Common.{◌≡◌, ◌∙◌, ℕ, zero, suc, ◌+◌, ◌<◌, Bool, true, false, cond, ◌&&◌, nat_lt, Option, Some, None, is_some, List, [], ◌∷◌, length, take, refl, sym, ap, subst, arith}
use Rattle.std.specs.Prelude.{slice_get}
use Rattle.std.proofs.lemmas.Bool.Decides.{nat_tests}
use Rattle.std.proofs.lemmas.List.{get_or-set_same}
use Rattle.mon_types.specs.Bits.{has_bit}
use Rattle.mon_types.specs.Shape.{Shape, is_shape, page_total, region_of_page}
use Rattle.mon_types.specs.Enclaves.{empty_enclave}
use Rattle.mon_types.specs.Replies.{is_done, is_concurrent}
use Rattle.mon_types.specs.declared.enclave.Enclave.{Enclave}
use Rattle.mon_types.specs.declared.call.Call.{Call}
use Rattle.mon_types.specs.declared.call.Call.TheVariants as calls
use Rattle.mon_types.specs.declared.reply.Reply.{Reply}
use Rattle.mon_types.specs.declared.reply.Reply.TheVariants as replies
use Rattle.mon_model.specs.State.{State, IsWhole, start, region_at, enclave_at, loaded_at}
use Rattle.mon_model.specs.RegionCalls.{is_loading}
use Rattle.mon_model.specs.Loading.{is_next_page, takes_page, has_place_for_leaf}
use Rattle.mon_model.specs.EnclaveCalls.{leaf_fits, is_os_owned, with_page}
use Rattle.mon_model.specs.OnCore.{is_load_page}
use Rattle.mon_model.specs.Step.{reply_of, effect, after}
use Rattle.mon_model.proofs.Carried.{carried}
use Rattle.mon_model.proofs.InRange.{in_range}
use Rattle.mon_facts.specs.Facts.{FactsHold}
use Rattle.hist.specs.declared.event.PageInput.{PageInput}
use Rattle.hist.specs.declared.event.Entry.{Entry}
use Rattle.hist.specs.declared.event.Event.{Event}
use Rattle.hist.specs.History.{history, digest_of, after_entry, after_entries, state_after}
use Rattle.hist.specs.Legal.{IsLegalEntry, AreLegalEntries, Legal}
use Rattle.loaded_pages.specs.Content.{Content, zero_content, content_after}
use Rattle.loaded_pages.specs.History.{entry_words, after_one, content_from, content_at, page_words_of, is_page_of, loaded_page, HasReadPage, HaveReadPages}
use Rattle.loaded_pages.specs.Laws.{Reached}
use Rattle.loaded_pages.proofs.Cases.{clash, none_some, some_same}
use Rattle.loaded_pages.proofs.Histories.{AreOf, history_of, entry_reached, entry_shape, start_reached}
use Rattle.loaded_pages.proofs.Loads.{and_left, and_right, page_ok}
use Rattle.loaded_pages.proofs.Pages.{page_holds}

all_true : (a b c : Bool) → a ≡ true → b ≡ true → c ≡ true → (a && b && c) ≡ true
all_true true true true x y z = refl
all_true true true false x y z = clash z
all_true true false c x y z = clash y
all_true false b c x y z = clash x

below_true : (m n : ℕ) → m < n → nat_lt m n ≡ true
below_true m n h = grind (arith, nat_tests)

-- the page is one of the enclave's afterwards
page_there : (s : State) (core : ℕ) (digest : List ℕ) (k e va page src perms : ℕ) → IsWhole s → is_done (reply_of s core (calls.LoadPage e va page src perms)) ≡ true
    → is_page_of (effect s core (calls.LoadPage e va page src perms) digest k) e page ≡ true
page_there s core digest k e va page src perms w d =
    let c = carried s core (calls.LoadPage e va page src perms) d in
    let range = in_range s.shape (calls.LoadPage e va page src perms) c.value in
    let x : Enclave = enclave_at s e in
    let ok = page_ok (takes_page s.shape x page && leaf_fits x va) (is_os_owned (region_at s (region_of_page s.shape src))) (has_place_for_leaf (loaded_at s e) va) c.held in
    let takes = and_left (takes_page s.shape x page) (leaf_fits x va) ok.0 in
    let next = and_left (is_next_page x page) (has_bit x.regions (region_of_page s.shape page)) takes in
    let now = get_or-set_same s.enclaves e (with_page x va page perms digest) empty_enclave (subst (λ n. e < n) (sym w.enclaves) range.0) in
    subst (λ (z : Enclave). (nat_lt page (page_total s.shape) && is_loading z.stage && has_bit z.regions (region_of_page s.shape page)) ≡ true) (sym now)
    (all_true (nat_lt page (page_total s.shape)) (is_loading x.stage) (has_bit x.regions (region_of_page s.shape page))
    (below_true page (page_total s.shape) range.1) (and_left (is_loading x.stage) _ next) (and_right (is_next_page x page) _ takes))

-- ---- one entry

-- slot e has this page with these words, 512 of them
record HasPage (s : State) (content : Content) (e page : ℕ) (words : List ℕ) : Type 0 where
  there : is_page_of s e page ≡ true
  holds : page_words_of content page ≡ words
  count : length words ≡ 512

not_met : (r : Reply) → is_done r ≡ true → is_concurrent r ≡ false
not_met (replies.Ok count words) h = refl
not_met _ h = absurd (cc)

read_count : (answers : List (List ℕ)) (x : Entry) (o : Option PageInput) → is_some o ≡ true → HasReadPage answers x o → length (entry_words answers x) ≡ 512
read_count answers x None some h = clash some
read_count answers x (Some page) some h = h.count

entry_page : (answers : List (List ℕ)) (s : State) (f : Content) (x : Entry) (e va page src perms : ℕ) → IsWhole s → FactsHold s → IsLegalEntry s x → HasReadPage answers x x.page
    → x.call ≡ calls.LoadPage e va page src perms → is_done x.reply ≡ true → HasPage (after_entry s x) (after_one answers s x f) e page (entry_words answers x)
entry_page answers s f x e va page src perms w facts legal read q done =
    let call : Call = calls.LoadPage e va page src perms in
    let words : List ℕ = entry_words answers x in
    let digest : List ℕ = digest_of x.page in
    let reply : x.reply ≡ reply_of s x.core call = legal.reply (not_met x.reply done) ∙ ap (reply_of s x.core) q in
    let d : is_done (reply_of s x.core call) ≡ true = ap is_done (sym reply) ∙ done in
    let then : after_entry s x ≡ effect s x.core call digest x.ticket =
    ap (λ b. cond b s (after s x.core x.call digest x.ticket)) (not_met x.reply done) ∙ ap (λ c. after s x.core c digest x.ticket) q ∙ ap (λ b. cond b (effect s x.core call digest x.ticket) s) d in
    let content : after_one answers s x f ≡ content_after s (reply_of s x.core call) call words f =
    ap (λ r. content_after s r x.call words f) reply ∙ ap (λ c. content_after s (reply_of s x.core call) c words f) q in
    let many : length words ≡ 512 = read_count answers x x.page (legal.page ∙ ap (λ c. cond (is_load_page c) (is_done x.reply) false) q ∙ done) read in
    record {
      there = ap (λ t. is_page_of t e page) then ∙ page_there s x.core digest x.ticket e va page src perms w d;
      holds = ap (λ g. page_words_of g page) content ∙ page_holds s f x.core e va page src perms words facts many d;
      count = many;
    }

-- ---- any entry of a history

entry_at : (answers : List (List ℕ)) (n k : ℕ) (s : State) (f : Content) (es : List Entry) (x : Entry) (e va page src perms : ℕ) → s.shape.cores ≡ n → AreOf n es → AreLegalEntries s es → HaveReadPages answers es → Reached s f
    → slice_get es k ≡ Some x → x.call ≡ calls.LoadPage e va page src perms → is_done x.reply ≡ true
    → HasPage (after_entries s (take (suc k) es)) (content_from answers s (take (suc k) es) f) e page (entry_words answers x)
entry_at answers n k s f [] x e va page src perms cores of legal read h at q done = none_some at
entry_at answers n zero s f (y ∷ es) x e va page src perms cores of legal read h at q done =
    let same : y ≡ x = some_same at in
    subst (λ (z : Entry). HasPage (after_entry s y) (after_one answers s y f) e page (entry_words answers z)) same
    (entry_page answers s f y e va page src perms h.tables.whole h.facts legal.0 read.0 (ap (λ (z : Entry). z.call) same ∙ q) (ap (λ (z : Entry). is_done z.reply) same ∙ done))
entry_at answers n (suc k) s f (y ∷ es) x e va page src perms cores of legal read h at q done =
    entry_at answers n k (after_entry s y) (after_one answers s y f) es x e va page src perms (ap (λ m. m.cores) (entry_shape s y) ∙ cores) of.1 legal.1 read.1
    (entry_reached answers s f y (omega (arith, cores, of.0)) legal.0 h) at q done

pub loaded_page_is_read : (shape : Shape) (logs : List (List Event)) (answers : List (List ℕ)) (k e va page src perms : ℕ) (entry : Entry) → is_shape shape ≡ true → Legal shape logs → HaveReadPages answers (history logs)
    → slice_get (history logs) k ≡ Some entry → entry.call ≡ calls.LoadPage e va page src perms → is_done entry.reply ≡ true
    → (loaded_page shape logs answers (k + 1) e page ≡ Some (entry_words answers entry)) × (length (entry_words answers entry) ≡ 512)
loaded_page_is_read shape logs answers k e va page src perms entry is legal read at q done =
    let h : HasPage (state_after shape logs (suc k)) (content_at shape logs answers (suc k)) e page (entry_words answers entry) =
    entry_at answers shape.cores k (start shape) zero_content (history logs) entry e va page src perms refl (history_of shape logs legal) legal.entries read (start_reached shape is) at q done in
    let next : k + 1 ≡ suc k = omega arith in (
      ap (λ n. loaded_page shape logs answers n e page) next
          ∙ ap (λ b. cond b (Some (page_words_of (content_at shape logs answers (suc k)) page)) None) h.there ∙ ap Some h.holds,
      h.count,
    )
