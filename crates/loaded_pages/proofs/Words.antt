-- The words on an address's path are those that the items give, so a call that loads has by them the reply that it has
-- by the items.
use Rattle.std.proofs.Common.{◌≡◌, ◌∙◌, ◌-◌, ◌^◌, ◌<◌, ℕ, suc, Bool, true, false, cond, eqb, not, ◌&&◌, ◌||◌, Option, Some, None, List, [], ◌∷◌, map, ap, sym, refl, subst}
use Rattle.std.specs.List.{find}
use Rattle.mon_types.specs.Replies.{is_done, done_if}
use Rattle.mon_types.specs.Shape.{Shape, is_shape, page_total, region_of_page}
use Rattle.mon_types.specs.declared.enclave.Enclave.{Enclave}
use Rattle.mon_types.specs.declared.enclave.Loaded.{Loaded}
use Rattle.mon_types.specs.declared.call.Call.{Call}
use Rattle.mon_types.specs.declared.call.Call.TheVariants as calls
use Rattle.mon_types.specs.declared.reply.Reply.TheVariants as replies
use Rattle.mon_model.specs.State.{State, region_at, enclave_at, loaded_at, mode_of}
use Rattle.mon_model.specs.RegionCalls.{is_loading}
use Rattle.mon_model.specs.Loading.{StandInPages, is_there_for, is_table_1, is_table_0, has_table_1, has_table_0, has_leaf, has_root, in_range, is_next_page, takes_page, reserves_page, has_place_for_table, has_place_for_leaf}
use Rattle.mon_model.specs.EnclaveCalls.{table_fits, leaf_fits, is_os_owned}
use Rattle.mon_model.specs.Early.{early}
use Rattle.mon_model.proofs.InRange.{in_range as in_range_of, not_refused}
use Rattle.mon_model.proofs.Carried.{carried}
use Rattle.mon_model.specs.Step.{reply_of, held_reply}
use Rattle.mon_facts.specs.Tables.{AreTables}
use Rattle.sv39_pte.specs.Tables.{pte_index, pte_place, leads_to_table, page_led_to, path_by, path_below, last_place}
use Rattle.sv39_pte.proofs.Fields.{pointer_leads}
use Rattle.mon_enclaves.specs.ByWords.{table_path, leaf_path, words_fit, table_reply, page_reply, reserved_reply}
use Rattle.mon_enclaves.specs.FromItems.{table_1_for, table_0_for, leaf_for, pte_of_table, pte_of_leaf, below, table_1_words, table_0_words, table_words, leaf_words}
use Rattle.mon_enclaves.specs.LoadReply.{is_load, words_reply}
use Rattle.mon_enclaves.proofs.Alike.{table_reply-words, page_reply-words, reserved_reply-words}
use Rattle.loaded_pages.specs.Content.{Content, place_in_root, place_in_table, loaded_place}
use Rattle.loaded_pages.specs.Path.{words_below, call_places, call_words}
use Rattle.loaded_pages.specs.Facts.{word_in, TablesHold, ContentHolds}
use Rattle.loaded_pages.specs.Laws.{PathAgrees}
use Rattle.loaded_pages.proofs.Cases.{clash, none_some, some_same}
use Rattle.loaded_pages.proofs.Loads.{and_left, and_right, done_true, is_there, any_found, taken, page_ok}

-- ---- where the pte of a table leads

leads : (m : Shape) (t : Loaded) → is_shape m ≡ true → t.page < page_total m → (leads_to_table m (pte_of_table (Some t)) ≡ true) × (page_led_to (pte_of_table (Some t)) ≡ t.page)
leads m t is low = pointer_leads m t.page is low

-- what is found stands in a page of the machine
found_there : (m : Shape) (test : Loaded → Bool) (items : List Loaded) (t : Loaded) → StandInPages m items → find test items ≡ Some t → t.page < page_total m
found_there m test [] t h e = none_some e
found_there m test (x ∷ xs) t h e = by (test x) (λ f. found_there m test xs t h.1 f) e
  where
    by : (b : Bool) → (find test xs ≡ Some t → t.page < page_total m) → cond b (Some x) (find test xs) ≡ Some t → t.page < page_total m
    by true g f = subst (λ z. z.page < page_total m) (some_same f) h.0
    by false g f = g f

-- ---- the words on the path

both : {X : Type 0} (b : Bool) (x : X) → cond b x x ≡ x
both true x = refl
both false x = refl

module _ (m : Shape) (is : is_shape m ≡ true) (va : ℕ) (f : Content) (items : List Loaded) (stand : StandInPages m items) (root : ℕ) (tables : TablesHold items root (word_in f)) (small : va < 2 ^ 38) where
  one_in : (t : Loaded) → table_1_for va items ≡ Some t → t.page < page_total m
  one_in t e = found_there m _ items t stand e

  zero_in : (t : Loaded) → table_0_for va items ≡ Some t → t.page < page_total m
  zero_in t e = found_there m _ items t stand e

  abbrev words_from : ℕ → ℕ → ℕ → List ℕ
  words_from level count page = map f (path_by m f va level count page)

  step : (level count page : ℕ) (o : Option Loaded) → word_in f page (pte_index level va) ≡ pte_of_table o → ((t : Loaded) → o ≡ Some t → t.page < page_total m) → (rest : List ℕ)
      → ((t : Loaded) → o ≡ Some t → words_from (level - 1) count t.page ≡ rest) → words_from level (suc count) page ≡ pte_of_table o ∷ below o rest
  step level count page None e low rest next = ap (λ x. x ∷ map f (cond (leads_to_table m x) (path_by m f va (level - 1) count (page_led_to x)) [])) e
  step level count page (Some t) e low rest next =
      let l = leads m t is (low t refl) in
      ap (λ x. x ∷ map f (cond (leads_to_table m x) (path_by m f va (level - 1) count (page_led_to x)) [])) e
      ∙ ap (λ b. pte_of_table (Some t) ∷ map f (cond b (path_by m f va (level - 1) count (page_led_to (pte_of_table (Some t)))) [])) l.0
      ∙ ap (λ p. pte_of_table (Some t) ∷ words_from (level - 1) count p) l.1 ∙ ap (λ ws. pte_of_table (Some t) ∷ ws) (next t refl)

  last : (level page : ℕ) → words_from level 1 page ≡ word_in f page (pte_index level va) ∷ []
  last level page = ap (λ ps. word_in f page (pte_index level va) ∷ map f ps) (both (leads_to_table m (word_in f page (pte_index level va))) [])

  words_1 : words_from 2 1 root ≡ table_words items va 1
  words_1 = last 2 root ∙ ap (λ x. x ∷ []) (tables.first va small)

  words_0 : words_from 2 2 root ≡ table_words items va 0
  words_0 = step 2 1 root (table_1_for va items) (tables.first va small) one_in (pte_of_table (table_0_for va items) ∷ []) (λ t e. last 1 t.page ∙ ap (λ x. x ∷ []) (tables.second va t e))

  leaf_by : (o : Option Loaded) → table_0_for va items ≡ o → (perms : ℕ) × ((t : Loaded) → o ≡ Some t → word_in f t.page (pte_index 0 va) ≡ pte_of_leaf (leaf_for va items) perms)
  leaf_by None e = (0, λ t g. none_some g)
  leaf_by (Some u) e = let leaf = tables.third va u e in (leaf.0, λ t g. ap (λ z. word_in f z (pte_index 0 va)) (ap (λ z. z.page) (sym (some_same g))) ∙ leaf.1)

  words_leaf : (perms : ℕ) × (words_from 2 3 root ≡ leaf_words items va perms)
  words_leaf =
      let leaf = leaf_by (table_0_for va items) refl in (
        leaf.0,
        step 2 2 root (table_1_for va items) (tables.first va small) one_in (pte_of_table (table_0_for va items) ∷ below (table_0_for va items) (pte_of_leaf (leaf_for va items) leaf.0 ∷ []))
            (λ t e. step 1 1 t.page (table_0_for va items) (tables.second va t e) zero_in (pte_of_leaf (leaf_for va items) leaf.0 ∷ []) (λ u g. last 0 u.page ∙ ap (λ x. x ∷ []) (leaf.1 u g))),
      )

  pub agrees : PathAgrees m f items root va
  agrees = record { table_1 = words_1; table_0 = words_0; leaf = words_leaf }

  -- ---- and the places

  step_place : (level count page : ℕ) (t : Loaded) → word_in f page (pte_index level va) ≡ pte_of_table (Some t) → t.page < page_total m → path_by m f va level (suc count) page ≡ pte_place page level va ∷ path_by m f va (level - 1) count t.page
  step_place level count page t e low =
      let l = leads m t is low in
      ap (λ x. pte_place page level va ∷ cond (leads_to_table m x) (path_by m f va (level - 1) count (page_led_to x)) []) e
      ∙ ap (λ b. pte_place page level va ∷ cond b (path_by m f va (level - 1) count (page_led_to (pte_of_table (Some t)))) []) l.0
      ∙ ap (λ p. pte_place page level va ∷ path_by m f va (level - 1) count p) l.1

  last_step : (level page : ℕ) → path_by m f va level 1 page ≡ pte_place page level va ∷ []
  last_step level page = ap (λ ps. pte_place page level va ∷ ps) (both (leads_to_table m (word_in f page (pte_index level va))) [])

  pub place_1 : last_place (path_by m f va 2 1 root) ≡ Some (pte_place root 2 va)
  place_1 = ap last_place (last_step 2 root)

  pub place_0 : (t1 : Loaded) → table_1_for va items ≡ Some t1 → last_place (path_by m f va 2 2 root) ≡ Some (pte_place t1.page 1 va)
  place_0 t1 e = ap last_place (step_place 2 1 root t1 (tables.first va small ∙ ap pte_of_table e) (one_in t1 e) ∙ ap (λ ps. pte_place root 2 va ∷ ps) (last_step 1 t1.page))

  pub place_leaf : (t1 t0 : Loaded) → table_1_for va items ≡ Some t1 → table_0_for va items ≡ Some t0 → last_place (path_by m f va 2 3 root) ≡ Some (pte_place t0.page 0 va)
  place_leaf t1 t0 e g =
      ap last_place (step_place 2 2 root t1 (tables.first va small ∙ ap pte_of_table e) (one_in t1 e)
      ∙ ap (λ ps. pte_place root 2 va ∷ ps) (step_place 1 1 t1.page t0 (tables.second va t1 e ∙ ap pte_of_table g) (zero_in t0 g) ∙ ap (λ ps. pte_place t1.page 1 va ∷ ps) (last_step 0 t0.page)))

pub paths_agree : (s : State) (f : Content) (e root va : ℕ) → AreTables s → ContentHolds s f → is_loading (enclave_at s e).stage ≡ true → (enclave_at s e).root ≡ Some root → va < 2 ^ 38 → PathAgrees s.shape f (loaded_at s e) root va
paths_agree s f e root va t h load rooted small = agrees s.shape t.machine va f (loaded_at s e) (t.items e).pages root ((h.pages e load).tables root rooted) small

-- ---- what the records decide alone

refused_if : (a c w : Bool) → a ≡ false → done_if (a && w) ≡ done_if (a && c)
refused_if true c w d = clash (sym d)
refused_if false c w d = refl

-- ---- the reply

module _ (s : State) (f : Content) (core : ℕ) (t : AreTables s) (h : ContentHolds s f) where
  -- a table below the root
  table_decided : (e va level page : ℕ) → va < 2 ^ 38 → eqb level 2 ≡ false → (b : Bool) → (takes_page s.shape (enclave_at s e) page && table_fits (enclave_at s e) va level) ≡ b
      → words_reply s (calls.LoadTable e va level page) (words_below s.shape f va (table_path level) (enclave_at s e).root) ≡ held_reply s core (calls.LoadTable e va level page)
  table_decided e va level page small two false refused = refused_if _ (eqb level 2 || has_place_for_table (loaded_at s e) va level) (words_fit s.shape (table_path level) (words_below s.shape f va (table_path level) (enclave_at s e).root)) refused
  table_decided e va level page small two true fits =
      let x : Enclave = enclave_at s e in
      let its : List Loaded = loaded_at s e in
      let tk = taken x page (and_left _ _ (and_left (takes_page s.shape x page) _ fits)) in
      let below_root : (in_range x va && has_root x) ≡ true = ap (λ z. cond z (not (has_root x)) (in_range x va && has_root x)) (sym two) ∙ and_right (takes_page s.shape x page) (table_fits x va level) fits in
      let root = is_there x.root (and_right (in_range x va) (has_root x) below_root) in
      let p = paths_agree s f e root.0 va t h tk.loading root.1 small in
      ap (λ z. table_reply s.shape x va level page (words_below s.shape f va (table_path level) z)) root.1
      ∙ ap (table_reply s.shape x va level page) (by root.0 p (eqb level 1) (eqb level 2) two)
      ∙ table_reply-words s.shape x its va level page t.machine (t.items e).pages
    where
      by : (root : ℕ) → PathAgrees s.shape f (loaded_at s e) root va → (one two : Bool) → two ≡ false
          → words_below s.shape f va (cond two 0 (cond one 1 2)) (Some root) ≡ cond two [] (cond one (table_1_words (loaded_at s e) va) (table_0_words (loaded_at s e) va))
      by root p one true not_two = clash (sym not_two)
      by root p true false not_two = p.table_1
      by root p false false not_two = p.table_0

  -- a root: no word is read
  root_decided : (e va level page : ℕ) → eqb level 2 ≡ true → words_reply s (calls.LoadTable e va level page) (words_below s.shape f va (table_path level) (enclave_at s e).root) ≡ held_reply s core (calls.LoadTable e va level page)
  root_decided e va level page two =
      ap (table_reply s.shape (enclave_at s e) va level page) (by (eqb level 1) (eqb level 2) two (enclave_at s e).root)
      ∙ table_reply-words s.shape (enclave_at s e) (loaded_at s e) va level page t.machine (t.items e).pages
    where
      by : (one two : Bool) → two ≡ true → (root : Option ℕ) → words_below s.shape f va (cond two 0 (cond one 1 2)) root ≡ cond two [] (cond one (table_1_words (loaded_at s e) va) (table_0_words (loaded_at s e) va))
      by one false is_two root = clash is_two
      by one true is_two None = refl
      by one true is_two (Some root) = refl

  table_by : (e va level page : ℕ) → va < 2 ^ 38 → (b : Bool) → eqb level 2 ≡ b → words_reply s (calls.LoadTable e va level page) (words_below s.shape f va (table_path level) (enclave_at s e).root) ≡ held_reply s core (calls.LoadTable e va level page)
  table_by e va level page small true two = root_decided e va level page two
  table_by e va level page small false two = table_decided e va level page small two _ refl

  -- the words on a leaf's path, where the enclave is Loading and has a root
  leaf_by_items : (e va : ℕ) → va < 2 ^ 38 → is_loading (enclave_at s e).stage ≡ true → leaf_fits (enclave_at s e) va ≡ true → (perms : ℕ) × (words_below s.shape f va leaf_path (enclave_at s e).root ≡ leaf_words (loaded_at s e) va perms)
  leaf_by_items e va small load fits =
      let root = is_there (enclave_at s e).root (and_right (in_range (enclave_at s e) va) (has_root (enclave_at s e)) fits) in
      let leaf = (paths_agree s f e root.0 va t h load root.1 small).leaf in
      (leaf.0, ap (words_below s.shape f va leaf_path) root.1 ∙ leaf.1)

  page_decided : (e va page src perms : ℕ) → va < 2 ^ 38 → (b : Bool) → (takes_page s.shape (enclave_at s e) page && leaf_fits (enclave_at s e) va) ≡ b
      → words_reply s (calls.LoadPage e va page src perms) (words_below s.shape f va leaf_path (enclave_at s e).root) ≡ held_reply s core (calls.LoadPage e va page src perms)
  page_decided e va page src perms small false refused =
      let source = is_os_owned (region_at s (region_of_page s.shape src)) in
      ap (λ z. cond z (cond source (done_if (words_fit s.shape leaf_path (words_below s.shape f va leaf_path (enclave_at s e).root))) replies.AccessDenied) replies.InvalidState) refused
      ∙ sym (ap (λ z. cond z (cond source (done_if (has_place_for_leaf (loaded_at s e) va)) replies.AccessDenied) replies.InvalidState) refused)
  page_decided e va page src perms small true fits =
      let x : Enclave = enclave_at s e in
      let takes = and_left (takes_page s.shape x page) (leaf_fits x va) fits in
      let tk = taken x page (and_left _ _ takes) in
      let words = leaf_by_items e va small tk.loading (and_right (takes_page s.shape x page) (leaf_fits x va) fits) in
      ap (page_reply s.shape x va page (region_at s (region_of_page s.shape src))) words.1
      ∙ page_reply-words s.shape x (loaded_at s e) (region_at s (region_of_page s.shape src)) va words.0 page t.machine (t.items e).pages

  reserve_decided : (e va page perms : ℕ) → va < 2 ^ 38 → (b : Bool) → (reserves_page s.shape (enclave_at s e) page && leaf_fits (enclave_at s e) va) ≡ b
      → words_reply s (calls.Reserve e va page perms) (words_below s.shape f va leaf_path (enclave_at s e).root) ≡ held_reply s core (calls.Reserve e va page perms)
  reserve_decided e va page perms small false refused = refused_if _ (has_place_for_leaf (loaded_at s e) va) (words_fit s.shape leaf_path (words_below s.shape f va leaf_path (enclave_at s e).root)) refused
  reserve_decided e va page perms small true fits =
      let x : Enclave = enclave_at s e in
      let takes = and_left (reserves_page s.shape x page) (leaf_fits x va) fits in
      let tk = taken x page (and_left _ _ takes) in
      let words = leaf_by_items e va small tk.loading (and_right (reserves_page s.shape x page) (leaf_fits x va) fits) in
      ap (reserved_reply s.shape x va page) words.1 ∙ reserved_reply-words s.shape x (loaded_at s e) va words.0 page t.machine (t.items e).pages

  pub words_decide : (call : Call) → is_load call ≡ true → early s.shape (mode_of s core) call ≡ None → words_reply s call (call_words s f call) ≡ held_reply s core call
  words_decide (calls.LoadTable e va level page) l none = table_by e va level page (not_refused s.shape (mode_of s core) (calls.LoadTable e va level page) none).3 _ refl
  words_decide (calls.LoadPage e va page src perms) l none = page_decided e va page src perms (not_refused s.shape (mode_of s core) (calls.LoadPage e va page src perms) none).4 _ refl
  words_decide (calls.Reserve e va page perms) l none = reserve_decided e va page perms (not_refused s.shape (mode_of s core) (calls.Reserve e va page perms) none).3 _ refl
  words_decide _ l none = absurd (cc)

-- ---- the place of the pte

module _ (s : State) (f : Content) (t : AreTables s) (h : ContentHolds s f) where
  -- a table, by its level
  table_place : (e va page : ℕ) → va < 2 ^ 38 → (two one : Bool)
      → (takes_page s.shape (enclave_at s e) page && cond two (not (has_root (enclave_at s e))) (in_range (enclave_at s e) va && has_root (enclave_at s e))
      && (two || cond one (not (has_table_1 va (loaded_at s e))) (has_table_1 va (loaded_at s e) && not (has_table_0 va (loaded_at s e))))) ≡ true
      → cond two None (cond one (place_in_root (enclave_at s e).root va) (place_in_table (table_1_for va (loaded_at s e)) 1 va))
      ≡ last_place (path_below s.shape f va (cond two 0 (cond one 1 2)) (enclave_at s e).root)
  table_place e va page small true one ok = by (enclave_at s e).root
    where
      by : (root : Option ℕ) → None ≡ last_place (path_below s.shape f va 0 root)
      by None = refl
      by (Some root) = refl
  table_place e va page small false one ok =
      let x : Enclave = enclave_at s e in
      let first = and_left (takes_page s.shape x page && (in_range x va && has_root x)) _ ok in
      let tk = taken x page (and_left (is_next_page x page) _ (and_left (takes_page s.shape x page) _ first)) in
      let root = is_there x.root (and_right (in_range x va) (has_root x) (and_right (takes_page s.shape x page) _ first)) in
      by one (and_right (takes_page s.shape x page && (in_range x va && has_root x)) _ ok) root.0 root.1 ((h.pages e tk.loading).tables root.0 root.1)
    where
      by : (one : Bool) → cond one (not (has_table_1 va (loaded_at s e))) (has_table_1 va (loaded_at s e) && not (has_table_0 va (loaded_at s e))) ≡ true
          → (root : ℕ) → (enclave_at s e).root ≡ Some root → TablesHold (loaded_at s e) root (word_in f)
          → cond one (place_in_root (enclave_at s e).root va) (place_in_table (table_1_for va (loaded_at s e)) 1 va) ≡ last_place (path_below s.shape f va (cond one 1 2) (enclave_at s e).root)
      by true fits root is tables =
          ap (λ z. place_in_root z va) is ∙ sym (ap (λ z. last_place (path_below s.shape f va 1 z)) is ∙ place_1 s.shape t.machine va f (loaded_at s e) (t.items e).pages root tables small)
      by false fits root is tables =
          let t1 = any_found (λ item. is_table_1 item.kind && is_there_for va item) (loaded_at s e) (and_left (has_table_1 va (loaded_at s e)) _ fits) in
          ap (λ z. place_in_table z 1 va) t1.1 ∙ sym (ap (λ z. last_place (path_below s.shape f va 2 z)) is ∙ place_0 s.shape t.machine va f (loaded_at s e) (t.items e).pages root tables small t1.0 t1.1)

  -- a page or a reserved page
  leaf_place : (e va : ℕ) → va < 2 ^ 38 → is_loading (enclave_at s e).stage ≡ true → leaf_fits (enclave_at s e) va ≡ true → has_place_for_leaf (loaded_at s e) va ≡ true
      → place_in_table (table_0_for va (loaded_at s e)) 0 va ≡ last_place (path_below s.shape f va leaf_path (enclave_at s e).root)
  leaf_place e va small load fits place =
      let x : Enclave = enclave_at s e in
      let its : List Loaded = loaded_at s e in
      let root = is_there x.root (and_right (in_range x va) (has_root x) fits) in
      let there = and_left (has_table_1 va its && has_table_0 va its) (not (has_leaf va its)) place in
      let t1 = any_found (λ item. is_table_1 item.kind && is_there_for va item) its (and_left (has_table_1 va its) (has_table_0 va its) there) in
      let t0 = any_found (λ item. is_table_0 item.kind && is_there_for va item) its (and_right (has_table_1 va its) (has_table_0 va its) there) in
      ap (λ z. place_in_table z 0 va) t0.1
      ∙ sym (ap (λ z. last_place (path_below s.shape f va leaf_path z)) root.1 ∙ place_leaf s.shape t.machine va f its (t.items e).pages root.0 ((h.pages e load).tables root.0 root.1) small t1.0 t0.0 t1.1 t0.1)

  pub goes_last : (core : ℕ) (call : Call) → is_load call ≡ true → is_done (reply_of s core call) ≡ true → loaded_place s call ≡ last_place (call_places s f call)
  goes_last core (calls.LoadTable e va level page) l d =
      let c = carried s core (calls.LoadTable e va level page) d in
      table_place e va page (in_range_of s.shape (calls.LoadTable e va level page) c.value).3 (eqb level 2) (eqb level 1) (done_true _ c.held)
  goes_last core (calls.LoadPage e va page src perms) l d =
      let c = carried s core (calls.LoadPage e va page src perms) d in
      let x : Enclave = enclave_at s e in
      let ok = page_ok (takes_page s.shape x page && leaf_fits x va) (is_os_owned (region_at s (region_of_page s.shape src))) (has_place_for_leaf (loaded_at s e) va) c.held in
      let tk = taken x page (and_left (is_next_page x page) _ (and_left (takes_page s.shape x page) (leaf_fits x va) ok.0)) in
      leaf_place e va (in_range_of s.shape (calls.LoadPage e va page src perms) c.value).4 tk.loading (and_right (takes_page s.shape x page) (leaf_fits x va) ok.0) ok.2
  goes_last core (calls.Reserve e va page perms) l d =
      let c = carried s core (calls.Reserve e va page perms) d in
      let x : Enclave = enclave_at s e in
      let first = and_left (reserves_page s.shape x page && leaf_fits x va) (has_place_for_leaf (loaded_at s e) va) (done_true _ c.held) in
      let tk = taken x page (and_left (is_next_page x page) _ (and_left (reserves_page s.shape x page) (leaf_fits x va) first)) in
      leaf_place e va (in_range_of s.shape (calls.Reserve e va page perms) c.value).3 tk.loading (and_right (reserves_page s.shape x page) (leaf_fits x va) first) (and_right (reserves_page s.shape x page && leaf_fits x va) (has_place_for_leaf (loaded_at s e) va) (done_true _ c.held))
  goes_last core _ l d = absurd (cc)
