-- What an Ok of load_table, load_page or reserve leaves of the content: one word more, and a page's words, in pages of
-- the enclave; so what holds of the content is kept by every call.
use Rattle.std.proofs.Common.{◌≡◌, ◌≢◌, ◌⊎◌, inl, inr, ◌∙◌, ◌+◌, ◌*◌, ◌/◌, ◌^◌, ◌<◌, ◌≤◌, ℕ, zero, suc, Bool, true, false, cond, eqb, not, ◌&&◌, ◌||◌, nat_le, Option, Some, None, is_some, List, [], ◌∷◌, ◌++◌, length, replicate, All, ap, sym, refl, subst, get_or, arith}
use Rattle.std.specs.List.{find, list_any}
use Rattle.std.proofs.lemmas.Bool.{cases_eq, eqb-true}
use Rattle.std.proofs.lemmas.Bool.Decides.{nat_tests}
use Rattle.std.proofs.lemmas.List.{get_or-set_same, get_or-set_other}
use Rattle.mon_types.specs.Bits.{has_bit}
use Rattle.mon_types.specs.Replies.{is_done, done_if}
use Rattle.mon_types.specs.Shape.{Shape, region_of_page}
use Rattle.mon_types.specs.Enclaves.{empty_enclave}
use Rattle.mon_types.specs.declared.region.Owner.TheVariants as owners
use Rattle.mon_types.specs.declared.region.Region.{Region}
use Rattle.mon_types.specs.declared.region.Region.TheVariants as regions
use Rattle.mon_types.specs.declared.enclave.Enclave.{Enclave}
use Rattle.mon_types.specs.declared.enclave.Loaded.{Loaded}
use Rattle.mon_types.specs.declared.enclave.LoadedKind.{LoadedKind}
use Rattle.mon_types.specs.declared.enclave.LoadedKind.TheVariants as kinds
use Rattle.mon_types.specs.declared.call.Call.{Call}
use Rattle.mon_types.specs.declared.call.Call.TheVariants as calls
use Rattle.mon_types.specs.declared.reply.Reply.TheVariants as replies
use Rattle.mon_model.specs.State.{State, IsWhole, start, region_at, enclave_at, loaded_at, with_slot}
use Rattle.mon_model.specs.RegionCalls.{is_loading}
use Rattle.mon_model.specs.Loading.{served_part, is_there_for, is_table_1, is_table_0, is_leaf, has_table_1, has_table_0, has_root, in_range, is_next_page, takes_page, reserves_page, has_place_for_leaf}
use Rattle.mon_model.specs.EnclaveCalls.{leaf_fits, is_os_owned, with_table, with_page, with_reserved}
use Rattle.mon_model.proofs.InRange.{in_range as arguments_in_range}
use Rattle.mon_model.specs.Step.{reply_of, after, effect}
use Rattle.mon_model.proofs.Carried.{carried}
use Rattle.mon_facts.specs.Facts.{FactsHold, IsPlaced, IsRootPlaced, is_owned_by}
use Rattle.dram_map.specs.Addresses.{region_of_word}
use Rattle.sv39_pte.specs.Tables.{pte_index, pointer_pte, leaf_pte}
use Rattle.mon_enclaves.specs.FromItems.{table_1_for, table_0_for, leaf_for}
use Rattle.mon_enclaves.specs.LoadReply.{is_load}
use Rattle.mon_enclaves.proofs.Alike.{is_some-find}
use Rattle.loaded_pages.specs.Content.{Content, zero_content, emptied, region_zeroed, page_put, content_put, place_in_root, place_in_table, content_by, content_after}
use Rattle.mon_model.specs.RegionStep.{is_idle}
use Rattle.loaded_pages.specs.Facts.{word_in, IsTable, TablesHold, PagesHold, ContentHolds}
use Rattle.loaded_pages.proofs.Cases.{clash, none_some, some_same}
use Rattle.loaded_pages.proofs.Tables.{put, index_less, item, table_1_kept, table_0_kept, leaf_kept, same_1_leaf, same_0_leaf}
use Rattle.loaded_pages.proofs.Changes.{paste_other, link_none, link_other, link_put, put_content, page_home, Within, link_within, paste_within}
use Rattle.loaded_pages.proofs.Idle.{emptied_if}
use Rattle.loaded_pages.proofs.Later.{LoadsNothing, same_enclave}
use Rattle.loaded_pages.proofs.Stay.{table_inside, tables_same, pages_stay, content_kept}

-- ---- who has a region

one_owner : (g : Region) (e d : ℕ) → is_owned_by e g ≡ true → is_owned_by d g ≡ true → e ≡ d
one_owner regions.Free e d a b = clash a
one_owner (regions.Owned owners.Os since) e d a b = clash a
one_owner (regions.Owned (owners.Enclave x) since) e d a b = eqb-true e x a ∙ sym (eqb-true d x b)
one_owner (regions.Blocked o since at) e d a b = clash a
one_owner (regions.Offered to at) e d a b = clash a

owned_not_idle : {X : Type 0} (g : Region) (e : ℕ) → is_owned_by e g ≡ true → is_idle g ≡ true → X
owned_not_idle regions.Free e a b = clash a
owned_not_idle (regions.Owned o since) e a b = clash b
owned_not_idle (regions.Blocked o since at) e a b = clash a
owned_not_idle (regions.Offered to at) e a b = clash a

-- ---- content that is the same, and that of one slot that changes

content_same : (s : State) (f g : Content) → FactsHold s → ((i : ℕ) → g i ≡ f i) → ContentHolds s f → ContentHolds s g
content_same s f g facts same h = record {
  zeros = λ i e. same i ∙ h.zeros i e;
  pages = λ e l. pages_stay s e f g (enclave_at s e) (loaded_at s e) facts (same_enclave s (enclave_at s e) (loaded_at s e) l) (λ p i b k. same (512 * p + i))
      (λ p i b k. same (512 * p + i) ∙ h.zeros (512 * p + i) (ap (λ z. is_idle (region_at s z)) (page_home s.shape p i k) ∙ b)) (h.pages e l);
}

slot_content : (s : State) (f g : Content) (e : ℕ) (y : Enclave) (items : List Loaded) → FactsHold s → e < length s.enclaves → e < length s.loaded → ContentHolds s f
    → ((i : ℕ) → (g i ≡ f i) ⊎ (has_bit (enclave_at s e).regions (region_of_word s.shape i) ≡ true)) → PagesHold s.shape y items g → ContentHolds (with_slot s e y items) g
slot_content s f g e y items facts a b h only new =
    let t : State = with_slot s e y items in
    let mine : (i : ℕ) → has_bit (enclave_at s e).regions (region_of_word s.shape i) ≡ true → is_owned_by e (region_at s (region_of_word s.shape i)) ≡ true = λ i m. sym (facts.sets e (region_of_word s.shape i)) ∙ m in
    let blank : (i : ℕ) → is_idle (region_at s (region_of_word s.shape i)) ≡ true → g i ≡ 0 = λ i free. elim (only i) [
      | inl q ↦ q ∙ h.zeros i free
      | inr m ↦ owned_not_idle (region_at s (region_of_word s.shape i)) e (mine i m) free
    ] in
    record {
      zeros = blank;
      pages = λ d l. elim (cases_eq d e) [
        | inl q ↦ subst (λ z. PagesHold s.shape (enclave_at t z) (loaded_at t z) g) (sym q)
            (subst (λ z. PagesHold s.shape z (loaded_at t e) g) (sym (get_or-set_same s.enclaves e y empty_enclave a)) (subst (λ z. PagesHold s.shape y z g) (sym (get_or-set_same s.loaded e items [] b)) new))
        | inr ne ↦
            let x : enclave_at t d ≡ enclave_at s d = get_or-set_other s.enclaves e d y empty_enclave ne in
            let xs : loaded_at t d ≡ loaded_at s d = get_or-set_other s.loaded e d items [] ne in
            let old : is_loading (enclave_at s d).stage ≡ true = ap (λ z. is_loading z.stage) (sym x) ∙ l in
            subst (λ z. PagesHold s.shape z (loaded_at t d) g) (sym x) (subst (λ z. PagesHold s.shape (enclave_at s d) z g) (sym xs)
            (pages_stay s d f g (enclave_at s d) (loaded_at s d) facts (same_enclave s (enclave_at s d) (loaded_at s d) old)
            (λ p i m k. elim (only (512 * p + i)) [
              | inl q ↦ q
              | inr n ↦ absurd (ne (one_owner (region_at s (region_of_word s.shape (512 * p + i))) d e (sym (facts.sets d (region_of_word s.shape (512 * p + i))) ∙ ap (has_bit (enclave_at s d).regions) (page_home s.shape p i k) ∙ m) (mine (512 * p + i) n)))
            ])
            (λ p i m k. blank (512 * p + i) (ap (λ z. is_idle (region_at s z)) (page_home s.shape p i k) ∙ m))
            (h.pages d old)))
      ];
    }

-- ---- what Ok says

pub and_left : (a b : Bool) → (a && b) ≡ true → a ≡ true
and_left true b h = refl
and_left false b h = h

pub and_right : (a b : Bool) → (a && b) ≡ true → b ≡ true
and_right true b h = h
and_right false b h = clash h

pub not_true : (b : Bool) → not b ≡ true → b ≡ false
not_true true h = clash h
not_true false h = refl

pub done_true : (b : Bool) → is_done (done_if b) ≡ true → b ≡ true
done_true true h = refl
done_true false h = clash h

pub is_there : {X : Type 0} (o : Option X) → is_some o ≡ true → (x : X) × (o ≡ Some x)
is_there None e = clash e
is_there (Some x) e = (x, refl)

pub is_none : {X : Type 0} (o : Option X) → is_some o ≡ false → o ≡ None
is_none None e = refl
is_none (Some x) e = clash (sym e)

pub any_found : (test : Loaded → Bool) (items : List Loaded) → list_any test items ≡ true → (t : Loaded) × (find test items ≡ Some t)
any_found test items h = is_there (find test items) (is_some-find test items ∙ h)

none_found : (test : Loaded → Bool) (items : List Loaded) → not (list_any test items) ≡ true → find test items ≡ None
none_found test items h = is_none (find test items) (is_some-find test items ∙ not_true (list_any test items) h)

-- ---- a slot with one more item

more_pages : (m : Shape) (x y : Enclave) (items : List Loaded) (it : Loaded) (root : ℕ) (f g : Content) → PagesHold m x items f
    → y.root ≡ Some root → y.regions ≡ x.regions → y.next_page ≡ it.page + 1 → x.next_page ≤ it.page → TablesHold (items ++ it ∷ []) root (word_in g)
    → ((p i : ℕ) → it.page < p → i < 512 → word_in g p i ≡ word_in f p i) → PagesHold m y (items ++ it ∷ []) g
more_pages m x y items it root f g h is same next above tables beyond = record {
  tables = λ r e. subst (λ z. TablesHold (items ++ it ∷ []) z (word_in g)) (some_same (sym is ∙ e)) tables;
  fresh = λ p i b n l. beyond p i (omega (arith, n, next)) l ∙ h.fresh p i (ap (λ z. has_bit z (region_of_page m p)) (sym same) ∙ b) (omega (arith, n, next, above)) l;
}

module _ (m : Shape) (x y : Enclave) (items : List Loaded) (f : Content) (h : PagesHold m x items f) (placed : All (IsPlaced m x) items) (va page : ℕ) (small : va < 2 ^ 38) (above : x.next_page ≤ page) (same : y.regions ≡ x.regions) (next : y.next_page ≡ page + 1) where
  low_table : (other : ℕ) (t : Loaded) → IsTable items other t → t.page < page
  low_table other t k = let p = table_inside m x items other t placed k in omega (arith, p.below, above)

  -- the root
  root_pages : items ≡ [] → has_bit x.regions (region_of_page m page) ≡ true → y.root ≡ Some page → PagesHold m y (items ++ item kinds.Table2 va page ∷ []) f
  root_pages none mine is =
      subst (λ xs. PagesHold m y (xs ++ item kinds.Table2 va page ∷ []) f) (sym none)
      (more_pages m x y [] (item kinds.Table2 va page) page f f (subst (λ xs. PagesHold m x xs f) none h) is same next above
      (record {
        first = λ o s. h.fresh page (pte_index 2 o) mine above (index_less 2 o);
        second = λ o t e. none_some e;
        third = λ o t e. none_some e;
        parents = λ o e. clash e;
        children = λ o e. clash e;
        beside = λ o t k. elim k [ inl e ↦ none_some e | inr e ↦ none_some e ];
        levels = λ a b t u e g. none_some e;
        apart_1 = λ a b t u e g. none_some e;
        apart_0 = λ a b t u e g. none_some e;
      })
      (λ p i a b. refl))

  module _ (root : ℕ) (rooted : x.root ≡ Some root) (is : y.root ≡ Some root) (root_low : root < page) where
    tables : TablesHold items root (word_in f)
    tables = h.tables root rooted

    apart : page ≢ root
    apart e = absurd (let l = root_low in omega arith)

    new : (other : ℕ) (t : Loaded) → IsTable items other t → t.page ≢ page
    new other t k e = absurd (let l = low_table other t k in omega arith)

    -- a table of level 1
    one_pages : table_1_for va items ≡ None → has_bit x.regions (region_of_page m page) ≡ true → PagesHold m y (items ++ item kinds.Table1 va page ∷ []) (content_put (Some (512 * root + pte_index 2 va)) (pointer_pte page) f)
    one_pages none mine =
        let fresh : (i : ℕ) → i < 512 → word_in f page i ≡ 0 = λ i b. h.fresh page i mine above b in
        let kept = table_1_kept items root va page (word_in f) small tables none fresh apart new in
        let g : Content = content_put (Some (512 * root + pte_index 2 va)) (pointer_pte page) f in
        more_pages m x y items (item kinds.Table1 va page) root f g h is same next above
        (tables_same _ root _ (word_in g) (λ i b. link_put f root (pte_index 2 va) _ root i (index_less 2 va) b) (λ o t i k b. link_put f root (pte_index 2 va) _ t.page i (index_less 2 va) b) kept)
        (λ p i a b. link_other (512 * root + pte_index 2 va) _ f (512 * p + i) (λ e. absurd (let l = root_low in let l2 = index_less 2 va in omega arith)))

    -- a table of level 0
    zero_pages : (t1 : Loaded) → table_1_for va items ≡ Some t1 → table_0_for va items ≡ None → has_bit x.regions (region_of_page m page) ≡ true → PagesHold m y (items ++ item kinds.Table0 va page ∷ []) (content_put (Some (512 * t1.page + pte_index 1 va)) (pointer_pte page) f)
    zero_pages t1 up none mine =
        let fresh : (i : ℕ) → i < 512 → word_in f page i ≡ 0 = λ i b. h.fresh page i mine above b in
        let kept = table_0_kept items root va page (word_in f) tables t1 up none fresh apart new in
        let g : Content = content_put (Some (512 * t1.page + pte_index 1 va)) (pointer_pte page) f in
        more_pages m x y items (item kinds.Table0 va page) root f g h is same next above
        (tables_same _ root _ (word_in g) (λ i b. link_put f t1.page (pte_index 1 va) _ root i (index_less 1 va) b) (λ o t i k b. link_put f t1.page (pte_index 1 va) _ t.page i (index_less 1 va) b) kept)
        (λ p i a b. link_other (512 * t1.page + pte_index 1 va) _ f (512 * p + i) (λ e. absurd (let l = low_table va t1 (inl up) in let l2 = index_less 1 va in omega arith)))

    -- a leaf; the words of its page may differ
    leaf_pages : (kind : LoadedKind) (perms : ℕ) (fp : Content) → ((q j : ℕ) → q ≢ page → j < 512 → word_in fp q j ≡ word_in f q j) → (leaf : (is_leaf kind ≡ true) × (is_table_1 kind ≡ false) × (is_table_0 kind ≡ false)) → (part : (at : ℕ) → served_part kind at ≡ at / 2 ^ 12)
        → (t0 : Loaded) → table_0_for va items ≡ Some t0 → leaf_for va items ≡ None → PagesHold m y (items ++ item kind va page ∷ []) (content_put (Some (512 * t0.page + pte_index 0 va)) (leaf_pte page perms) fp)
    leaf_pages kind perms fp off leaf part t0 up none =
        let kept = leaf_kept items root va page perms kind (word_in f) tables leaf part t0 up none in
        let entry : ℕ = leaf_pte page perms in
        let g : Content = content_put (Some (512 * t0.page + pte_index 0 va)) entry fp in
        let old : (o : ℕ) (t : Loaded) → IsTable (items ++ item kind va page ∷ []) o t → IsTable items o t = λ o t k. elim k [
          | inl e ↦ inl (sym (same_1_leaf items root va page perms kind (word_in f) tables leaf part t0 up none o) ∙ e)
          | inr e ↦ inr (sym (same_0_leaf items root va page perms kind (word_in f) tables leaf part t0 up none o) ∙ e)
        ] in
        let at : (q i : ℕ) → q ≢ page → i < 512 → word_in g q i ≡ put (word_in f) t0.page (pte_index 0 va) entry q i = λ q i ne b.
        link_put fp t0.page (pte_index 0 va) entry q i (index_less 0 va) b ∙ put_content (word_in fp) (word_in f) t0.page (pte_index 0 va) entry q i (off q i ne b) in
        more_pages m x y items (item kind va page) root f g h is same next above
        (tables_same _ root _ (word_in g) (λ i b. at root i (λ e. apart (sym e)) b) (λ o t i k b. at t.page i (new o t (old o t k)) b) kept)
        (λ p i a b. link_other (512 * t0.page + pte_index 0 va) entry fp (512 * p + i) (λ e. absurd (let l = low_table va t0 (inr up) in let l2 = index_less 0 va in omega arith)) ∙ off p i (λ e. absurd (omega arith)) b)

-- ---- the three calls

pub record Taken (x : Enclave) (page : ℕ) : Type 0 where
  pub loading : is_loading x.stage ≡ true
  pub above : x.next_page ≤ page

at_least : (a b : ℕ) → nat_le a b ≡ true → a ≤ b
at_least a b h = grind (arith, nat_tests)

pub taken : (x : Enclave) (page : ℕ) → is_next_page x page ≡ true → Taken x page
taken x page h = record { loading = and_left (is_loading x.stage) (nat_le x.next_page page) h; above = at_least x.next_page page (and_right (is_loading x.stage) (nat_le x.next_page page) h) }

no_root : (o : Option ℕ) → not (is_some o) ≡ true → o ≡ None
no_root None h = refl
no_root (Some r) h = clash h

abbrev Grown : Shape → Enclave → Enclave → List Loaded → Content → Content → Type 0
Grown m x y items f g = PagesHold m y items g × Within m x g f

pages_same : (m : Shape) (y : Enclave) (items : List Loaded) (f g : Content) → ((i : ℕ) → g i ≡ f i) → PagesHold m y items f → PagesHold m y items g
pages_same m y items f g e t = record {
  tables = λ r q. tables_same items r (word_in f) (word_in g) (λ i b. e (512 * r + i)) (λ o t i k b. e (512 * t.page + i)) (t.tables r q);
  fresh = λ p i b n l. e (512 * p + i) ∙ t.fresh p i b n l;
}

module _ (m : Shape) (x y : Enclave) (items : List Loaded) (f : Content) (h : is_loading x.stage ≡ true → PagesHold m x items f) (placed : is_loading x.stage ≡ true → All (IsPlaced m x) items) (rooted : (root : ℕ) → x.root ≡ Some root → IsRootPlaced m x root) (rootless : x.root ≡ None → items ≡ []) (va page : ℕ) (small : va < 2 ^ 38) (same : y.regions ≡ x.regions) (next : y.next_page ≡ page + 1) where
  abbrev table_at : Bool → Bool → Option ℕ
  table_at two one = cond two None (cond one (place_in_root x.root va) (place_in_table (table_1_for va items) 1 va))

  table_grown : (two one : Bool) → is_done (done_if (takes_page m x page && cond two (not (has_root x)) (in_range x va && has_root x) && (two || cond one (not (has_table_1 va items)) (has_table_1 va items && not (has_table_0 va items))))) ≡ true
      → y.root ≡ cond two (Some page) x.root → Grown m x y (items ++ item (cond two kinds.Table2 (cond one kinds.Table1 kinds.Table0)) va page ∷ []) f (content_put (table_at two one) (pointer_pte page) f)
  table_grown true one d root =
      let b = done_true _ d in
      let takes : takes_page m x page ≡ true = and_left (takes_page m x page) (not (has_root x)) (and_left _ true b) in
      let tk = taken x page (and_left _ _ takes) in
      let mine : has_bit x.regions (region_of_page m page) ≡ true = and_right (is_next_page x page) _ takes in
      let none : x.root ≡ None = no_root x.root (and_right (takes_page m x page) (not (has_root x)) (and_left _ true b)) in
      let s = root_pages m x y items f (h tk.loading) (placed tk.loading) va page small tk.above same next (rootless none) mine root in
      (pages_same m y _ f (content_put None (pointer_pte page) f) (λ i. link_none (pointer_pte page) f i) s, λ i. inl (link_none (pointer_pte page) f i))
  table_grown false one d root =
      let b = done_true _ d in
      let first = and_left (takes_page m x page && (in_range x va && has_root x)) _ b in
      let takes : takes_page m x page ≡ true = and_left (takes_page m x page) _ first in
      let tk = taken x page (and_left _ _ takes) in
      let mine : has_bit x.regions (region_of_page m page) ≡ true = and_right (is_next_page x page) _ takes in
      let r = is_there x.root (and_right (in_range x va) _ (and_right (takes_page m x page) _ first)) in
      by one (and_right (takes_page m x page && (in_range x va && has_root x)) _ b) tk mine r.0 r.1
    where
      by : (one : Bool) → cond one (not (has_table_1 va items)) (has_table_1 va items && not (has_table_0 va items)) ≡ true → Taken x page → has_bit x.regions (region_of_page m page) ≡ true → (r : ℕ) → x.root ≡ Some r
          → Grown m x y (items ++ item (cond one kinds.Table1 kinds.Table0) va page ∷ []) f (content_put (cond one (place_in_root x.root va) (place_in_table (table_1_for va items) 1 va)) (pointer_pte page) f)
      by true b tk mine r is =
          let at = rooted r is in
          subst (λ z. Grown m x y (items ++ item kinds.Table1 va page ∷ []) f (content_put (place_in_root z va) (pointer_pte page) f)) (sym is) (
            one_pages m x y items f (h tk.loading) (placed tk.loading) va page small tk.above same next r is (root ∙ is) (omega (arith, at.below, tk.above)) (none_found _ items b) mine,
            link_within m x r (pte_index 2 va) _ f f (at.in_set tk.loading) (index_less 2 va) (λ i. inl refl),
          )
      by false b tk mine r is =
          let at = rooted r is in
          let t1 = any_found (λ item. is_table_1 item.kind && is_there_for va item) items (and_left (has_table_1 va items) _ b) in
          subst (λ z. Grown m x y (items ++ item kinds.Table0 va page ∷ []) f (content_put (place_in_table z 1 va) (pointer_pte page) f)) (sym t1.1) (
            zero_pages m x y items f (h tk.loading) (placed tk.loading) va page small tk.above same next r is (root ∙ is) (omega (arith, at.below, tk.above)) t1.0 t1.1 (none_found _ items (and_right (has_table_1 va items) _ b)) mine,
            link_within m x t1.0.page (pte_index 1 va) _ f f (table_inside m x items va t1.0 (placed tk.loading) (inl t1.1)).in_set (index_less 1 va) (λ i. inl refl),
          )

  leaf_grown : (kind : LoadedKind) (perms : ℕ) (fp : Content) → ((q j : ℕ) → q ≢ page → j < 512 → word_in fp q j ≡ word_in f q j) → (leaf : (is_leaf kind ≡ true) × (is_table_1 kind ≡ false) × (is_table_0 kind ≡ false)) → (part : (at : ℕ) → served_part kind at ≡ at / 2 ^ 12)
      → is_next_page x page ≡ true → leaf_fits x va ≡ true → has_place_for_leaf items va ≡ true → y.root ≡ x.root → (Within m x fp f)
      → Grown m x y (items ++ item kind va page ∷ []) f (content_put (place_in_table (table_0_for va items) 0 va) (leaf_pte page perms) fp)
  leaf_grown kind perms fp off leaf part nextp fits place root within =
      let tk = taken x page nextp in
      let r = is_there x.root (and_right (in_range x va) _ fits) in
      let at = rooted r.0 r.1 in
      let both = and_left (has_table_1 va items && has_table_0 va items) _ place in
      let t0 = any_found (λ item. is_table_0 item.kind && is_there_for va item) items (and_right (has_table_1 va items) _ both) in
      subst (λ z. Grown m x y (items ++ item kind va page ∷ []) f (content_put (place_in_table z 0 va) (leaf_pte page perms) fp)) (sym t0.1) (
        leaf_pages m x y items f (h tk.loading) (placed tk.loading) va page small tk.above same next r.0 r.1 (root ∙ r.1) (omega (arith, at.below, tk.above)) kind perms fp off leaf part t0.0 t0.1 (none_found _ items (and_right (has_table_1 va items && has_table_0 va items) _ place)),
        link_within m x t0.0.page (pte_index 0 va) _ fp f (table_inside m x items va t0.0 (placed tk.loading) (inr t0.1)).in_set (index_less 0 va) within,
      )

pub page_ok : (a b c : Bool) → is_done (cond a (cond b (done_if c) replies.AccessDenied) replies.InvalidState) ≡ true → (a ≡ true) × (b ≡ true) × (c ≡ true)
page_ok true true true d = (refl, refl, refl)
page_ok true true false d = clash d
page_ok true false c d = clash d
page_ok false b c d = clash d

loads_or : (call : Call) → LoadsNothing call ⊎ (is_load call ≡ true)
loads_or (calls.LoadTable e va level page) = inr refl
loads_or (calls.LoadPage e va page src perms) = inr refl
loads_or (calls.Reserve e va page perms) = inr refl
loads_or _ = inl tt

load_content : (s : State) (f : Content) (core : ℕ) (call : Call) (ws digest : List ℕ) (k : ℕ) → IsWhole s → FactsHold s → ContentHolds s f → is_load call ≡ true → is_done (reply_of s core call) ≡ true
    → ContentHolds (effect s core call digest k) (content_by s call ws f)
unfolding region_zeroed
load_content s f core (calls.LoadTable e va level page) ws digest k w facts h l d =
    let c = carried s core (calls.LoadTable e va level page) d in
    let range = arguments_in_range s.shape (calls.LoadTable e va level page) c.value in
    let x : Enclave = enclave_at s e in
    let grown = table_grown s.shape x (with_table x va level page) (loaded_at s e) f (h.pages e) (facts.placed e) (facts.root_pages e) (facts.rootless e) va page range.3 refl refl (eqb level 2) (eqb level 1) c.held refl in
    slot_content s f _ e _ _ facts (subst (λ z. e < z) (sym w.enclaves) range.0) (subst (λ z. e < z) (sym w.loaded) range.0) h grown.1 grown.0
load_content s f core (calls.LoadPage e va page src perms) ws digest k w facts h l d =
    let c = carried s core (calls.LoadPage e va page src perms) d in
    let range = arguments_in_range s.shape (calls.LoadPage e va page src perms) c.value in
    let x : Enclave = enclave_at s e in
    let items : List Loaded = loaded_at s e in
    let ok = page_ok (takes_page s.shape x page && leaf_fits x va) (is_os_owned (region_at s (region_of_page s.shape src))) (has_place_for_leaf items va) c.held in
    let takes = and_left (takes_page s.shape x page) _ ok.0 in
    let grown = leaf_grown s.shape x (with_page x va page perms digest) items f (h.pages e) (facts.placed e) (facts.root_pages e) (facts.rootless e) va page range.4 refl refl kinds.Page perms (page_put page ws f)
    (λ q j ne b. paste_other page ws f (512 * q + j) (λ g. ne (let e : (512 * q + j) / 512 ≡ page = g in omega arith)))
    (refl, refl, refl) (λ at. refl) (and_left (is_next_page x page) _ takes) (and_right (takes_page s.shape x page) _ ok.0) ok.2 refl (paste_within s.shape x page ws f (and_right (is_next_page x page) _ takes)) in
    slot_content s f _ e _ _ facts (subst (λ z. e < z) (sym w.enclaves) range.0) (subst (λ z. e < z) (sym w.loaded) range.0) h grown.1 grown.0
load_content s f core (calls.Reserve e va page perms) ws digest k w facts h l d =
    let c = carried s core (calls.Reserve e va page perms) d in
    let range = arguments_in_range s.shape (calls.Reserve e va page perms) c.value in
    let x : Enclave = enclave_at s e in
    let items : List Loaded = loaded_at s e in
    let b = done_true _ c.held in
    let first = and_left (reserves_page s.shape x page && leaf_fits x va) _ b in
    let takes = and_left (reserves_page s.shape x page) _ first in
    let grown = leaf_grown s.shape x (with_reserved x va page perms) items f (h.pages e) (facts.placed e) (facts.root_pages e) (facts.rootless e) va page range.3 refl refl kinds.Reserved perms f
    (λ q j ne b. refl) (refl, refl, refl) (λ at. refl) (and_left (is_next_page x page) _ takes) (and_right (reserves_page s.shape x page) _ first) (and_right (reserves_page s.shape x page && leaf_fits x va) _ b) refl (λ i. inl refl) in
    slot_content s f _ e _ _ facts (subst (λ z. e < z) (sym w.enclaves) range.0) (subst (λ z. e < z) (sym w.loaded) range.0) h grown.1 grown.0
load_content s f core _ ws digest k w facts h l d = absurd (cc)

-- ---- every call

nothing_loaded : (s : State) (call : Call) (ws : List ℕ) (f : Content) (i : ℕ) → LoadsNothing call → content_by s call ws f i ≡ region_zeroed s.shape (emptied call) f i
unfolding content_put
nothing_loaded s (calls.LoadTable e va level page) ws f i a = absurd a
nothing_loaded s (calls.LoadPage e va page src perms) ws f i a = absurd a
nothing_loaded s (calls.Reserve e va page perms) ws f i a = absurd a
nothing_loaded s _ ws f i a = refl

refused_same : (m : Shape) (f : Content) (i : ℕ) → region_zeroed m None f i ≡ f i
unfolding region_zeroed
refused_same m f i = refl

pub content_stays : (s : State) (f : Content) (core : ℕ) (call : Call) (ws digest : List ℕ) (k : ℕ) → IsWhole s → FactsHold s → FactsHold (after s core call digest k) → ContentHolds s f
    → ContentHolds (after s core call digest k) (content_after s (reply_of s core call) call ws f)
unfolding content_after
content_stays s f core call ws digest k w facts next h = elim (loads_or call) [
  | inl n ↦ content_same (after s core call digest k) (region_zeroed s.shape (emptied_if (is_done (reply_of s core call)) call) f) _ next (λ i. nothing (is_done (reply_of s core call)) i n) (content_kept s f core call digest k w facts n h)
  | inr l ↦ by l (is_done (reply_of s core call)) (λ d. d)
]
  where
    nothing : (b : Bool) (i : ℕ) → LoadsNothing call → cond b (content_by s call ws f) f i ≡ region_zeroed s.shape (emptied_if b call) f i
    nothing true i n = nothing_loaded s call ws f i n
    nothing false i n = sym (refused_same s.shape f i)

    by : is_load call ≡ true → (b : Bool) → (b ≡ true → is_done (reply_of s core call) ≡ true) → ContentHolds (cond b (effect s core call digest k) s) (cond b (content_by s call ws f) f)
    by l true d = load_content s f core call ws digest k w facts h l (d refl)
    by l false d = h

-- ---- the start

empty_at : (n e : ℕ) → is_loading (get_or (replicate n empty_enclave) e empty_enclave).stage ≡ false
empty_at zero e = refl
empty_at (suc n) zero = refl
empty_at (suc n) (suc e) = empty_at n e

pub content_start : (m : Shape) → ContentHolds (start m) zero_content
content_start m = record { zeros = λ i e. refl; pages = λ e l. clash (sym (empty_at 8 e) ∙ l) }
