-- The Loads and Stores of the calls that load an enclave: the ptes on a path, and a page that is copied.
use Rattle.std.proofs.Common.{◌≡◌, inl, inr, ◌<◌, ◌≤◌, ◌+◌, ◌-◌, ◌*◌, ◌∙◌, ◌^◌, ℕ, zero, suc, Bool, true, false, cond, Option, Some, None, List, [], ◌∷◌, ◌++◌, map, length, ap, sym, refl, subst, get_or, arith, append_assoc, append-nil}
use Rattle.mon_types.specs.Shape.{page_total, region_of_page}
use Rattle.mon_types.specs.Bits.{has_bit}
use Rattle.mon_types.specs.declared.region.Owner.TheVariants as owners
use Rattle.mon_types.specs.declared.region.Region.TheVariants as regions
use Rattle.mon_types.specs.declared.enclave.Loaded.{Loaded}
use Rattle.mon_types.specs.declared.call.Call.{Call}
use Rattle.mon_types.specs.declared.object.ObjectId.{ObjectId}
use Rattle.mon_types.specs.declared.object.ObjectId.TheVariants as objects
use Rattle.mon_model.specs.State.{State, region_at, enclave_at, loaded_at}
use Rattle.mon_model.specs.RegionCalls.{is_loading}
use Rattle.mon_facts.specs.Tables.{AreTables}
use Rattle.mon_facts.specs.Facts.{FactsHold}
use Rattle.dram_map.specs.Addresses.{word_total, region_of_word}
use Rattle.sv39_pte.specs.Tables.{pte_index, pte_place, leads_to_table, page_led_to, path_by, path_below}
use Rattle.sv39_pte.proofs.Fields.{pointer_leads}
use Rattle.mon_enclaves.specs.FromItems.{table_1_for, table_0_for, pte_of_table}
use Rattle.mon_records.specs.Members.{In}
use Rattle.loaded_pages.specs.Content.{Content}
use Rattle.loaded_pages.specs.Facts.{IsTable, TablesHold, word_in}
use Rattle.loaded_pages.proofs.Tables.{index_less}
use Rattle.loaded_pages.proofs.Changes.{page_home}
use Rattle.loaded_pages.proofs.Stay.{IsInside, table_inside, root_inside}
use Rattle.protocol.specs.Places.{Row, Dram, Memory, with_word}
use Rattle.protocol.specs.CallTree.{Tree, Issuer, go_on, walk, walk_below, places_of, ptes_of, copy_words}
use Rattle.protocol_laws.specs.Known.{KeepsLoading}
use Rattle.protocol_laws.specs.Safe.{Safe}
use Rattle.protocol_laws.proofs.Places.{at_place, here, dram_index, dram_row}
use Rattle.protocol_laws.proofs.Standing.{AllWordsStand}

clash : {X : Type 0} → false ≡ true → X
clash e = absurd (cc)

pub in_page : (p i n : ℕ) → i < 512 → p < n → 512 * p + i < 512 * n
in_page p i n small low = omega arith

-- ---- pages of an enclave's set

-- a word on a page of a Loading enclave's set is kept by a core that holds the enclave
pub word_kept : (s : State) (e : ℕ) (held : List ObjectId) (page i : ℕ) → In (objects.Enclave e) held → is_loading (enclave_at s e).stage ≡ true → has_bit (enclave_at s e).regions (region_of_page s.shape page) ≡ true → i < 512 → KeepsLoading s held (512 * page + i)
word_kept s e held page i h loading in_set small = record {
  slot = e;
  held_is = h;
  answers = record { is = (loading, ap (has_bit (enclave_at s e).regions) (page_home s.shape page i small) ∙ in_set) };
}

pub inside_low : (s : State) (e page : ℕ) → AreTables s → IsInside s.shape (enclave_at s e) page → page < page_total s.shape
inside_low s e page tables inside = let next = (tables.items e).next in omega (arith, inside.below, next)

-- each page on the path is in the set, as far as the content leads
abbrev pub OwnedPath : State → ℕ → Content → ℕ → ℕ → ℕ → ℕ → Type 0
OwnedPath s e content va level zero page = Unit {0}
OwnedPath s e content va level (suc count) page =
    IsInside s.shape (enclave_at s e) page
    × (leads_to_table s.shape (content (pte_place page level va)) ≡ true → OwnedPath s e content va (level - 1) count (page_led_to (content (pte_place page level va))))

module _ (s : State) (e va : ℕ) (content : Content) (tables : AreTables s) (facts : FactsHold s) (loading : is_loading (enclave_at s e).stage ≡ true) where
  descend : (level count page : ℕ) (o : Option Loaded) → content (pte_place page level va) ≡ pte_of_table o → ((t : Loaded) → o ≡ Some t → (t.page < page_total s.shape) × OwnedPath s e content va (level - 1) count t.page) → leads_to_table s.shape (content (pte_place page level va)) ≡ true → OwnedPath s e content va (level - 1) count (page_led_to (content (pte_place page level va)))
  descend level count page None is next l = clash (ap (leads_to_table s.shape) (sym is) ∙ l)
  descend level count page (Some t) is next l =
      let n = next t refl in
      subst (OwnedPath s e content va (level - 1) count) (sym (ap page_led_to is ∙ (pointer_leads s.shape t.page tables.machine n.0).1)) n.1

  inside_of : (t : Loaded) → IsTable (loaded_at s e) va t → IsInside s.shape (enclave_at s e) t.page
  inside_of t is = table_inside s.shape (enclave_at s e) (loaded_at s e) va t (facts.placed e loading) is

  owned_0 : (t : Loaded) → table_0_for va (loaded_at s e) ≡ Some t → (count : ℕ) → count ≤ 1 → OwnedPath s e content va 0 count t.page
  owned_0 t is zero b = tt
  owned_0 t is (suc zero) b = (inside_of t (inr is), λ l. tt)
  owned_0 t is (suc (suc n)) b = absurd (omega arith)

  module _ (root : ℕ) (hold : TablesHold (loaded_at s e) root (word_in content)) where
    owned_1 : (t : Loaded) → table_1_for va (loaded_at s e) ≡ Some t → (count : ℕ) → count ≤ 2 → OwnedPath s e content va 1 count t.page
    owned_1 t is zero b = tt
    owned_1 t is (suc count) b = (
      inside_of t (inl is),
      descend 1 count t.page (table_0_for va (loaded_at s e)) (hold.second va t is)
          (λ u g. (inside_low s e u.page tables (inside_of u (inr g)), owned_0 u g count (omega arith))),
    )

    pub owned_2 : (enclave_at s e).root ≡ Some root → va < 2 ^ 38 → (count : ℕ) → count ≤ 3 → OwnedPath s e content va 2 count root
    owned_2 rooted small zero b = tt
    owned_2 rooted small (suc count) b = (
      root_inside s e root facts loading rooted,
      descend 2 count root (table_1_for va (loaded_at s e)) (hold.first va small)
          (λ t g. (inside_low s e t.page tables (inside_of t (inl g)), owned_1 t g count (omega arith))),
    )

module _ (by : Issuer) (call : Call) where
  -- ---- the walk

  module _ (s : State) (content : Content) (held : List ObjectId) (memory : Memory) where
    -- a pte that leads on, or ends the walk
    safe_go : (b : Bool) (further : (List (ℕ × ℕ) → Tree) → Tree) (place : ℕ) (path answers : List ℕ) (next : List (ℕ × ℕ) → Tree) →
        (b ≡ true → (k : List (ℕ × ℕ) → Tree) → ((ptes : List (ℕ × ℕ)) → places_of ptes ≡ path → ptes_of ptes ≡ map content path → Safe by call s content ((answers ++ content place ∷ []) ++ ptes_of ptes) held memory (k ptes)) → Safe by call s content (answers ++ content place ∷ []) held memory (further k)) →
        ((ptes : List (ℕ × ℕ)) → places_of ptes ≡ place ∷ cond b path [] → ptes_of ptes ≡ map content (place ∷ cond b path []) → Safe by call s content (answers ++ ptes_of ptes) held memory (next ptes)) →
        Safe by call s content (answers ++ content place ∷ []) held memory (go_on b (further (λ rest. next ((place, content place) ∷ rest))) (next ((place, content place) ∷ [])))
    unfolding go_on
    safe_go true further place path answers next on cont = on refl (λ rest. next ((place, content place) ∷ rest))
        (λ rest e f. subst (λ z. Safe by call s content z held memory (next ((place, content place) ∷ rest))) (sym (append_assoc answers (content place ∷ []) (ptes_of rest)))
        (cont ((place, content place) ∷ rest) (ap (λ z. place ∷ z) e) (ap (λ z. content place ∷ z) f)))
    safe_go false further place path answers next on cont = cont ((place, content place) ∷ []) refl refl

    module _ (e va : ℕ) (tables : AreTables s) (h : In (objects.Enclave e) held) (loading : is_loading (enclave_at s e).stage ≡ true) (words : AllWordsStand held s content memory) where
      safe_walk : (count level page : ℕ) (answers : List ℕ) (next : List (ℕ × ℕ) → Tree) → OwnedPath s e content va level count page →
          ((ptes : List (ℕ × ℕ)) → places_of ptes ≡ path_by s.shape content va level count page → ptes_of ptes ≡ map content (path_by s.shape content va level count page) → Safe by call s content (answers ++ ptes_of ptes) held memory (next ptes)) →
          Safe by call s content answers held memory (walk s.shape va level count page next)
      unfolding walk
      safe_walk zero level page answers next owned cont = subst (λ z. Safe by call s content z held memory (next [])) (append-nil answers) (cont [] refl refl)
      safe_walk (suc count) level page answers next owned cont =
          let place : ℕ = pte_place page level va in
          let low : place < word_total s.shape = in_page page (pte_index level va) (page_total s.shape) (index_less level va) (inside_low s e page tables owned.0) in
          let kept : KeepsLoading s held place = word_kept s e held page (pte_index level va) h loading owned.0.in_set (index_less level va) in
          let is : memory (Dram place) ≡ content place = words (objects.Enclave kept.slot) kept.held_is place low kept.answers in (
            low,
            inr (
              kept,
              subst (λ w. Safe by call s content (answers ++ w ∷ []) held memory (go_on (leads_to_table s.shape w) (walk s.shape va (level - 1) count (page_led_to w) (λ rest. next ((place, w) ∷ rest))) (next ((place, w) ∷ [])))) (sym is)
                  (safe_go (leads_to_table s.shape (content place)) (λ k. walk s.shape va (level - 1) count (page_led_to (content place)) k) place (path_by s.shape content va (level - 1) count (page_led_to (content place))) answers next
                  (λ l k more. safe_walk count (level - 1) (page_led_to (content place)) (answers ++ content place ∷ []) k (owned.1 l) more) cont),
            ),
          )

      pub safe_walk_below : (count : ℕ) (root : Option ℕ) (answers : List ℕ) (next : List (ℕ × ℕ) → Tree) → ((page : ℕ) → root ≡ Some page → OwnedPath s e content va 2 count page) →
          ((ptes : List (ℕ × ℕ)) → places_of ptes ≡ path_below s.shape content va count root → ptes_of ptes ≡ map content (path_below s.shape content va count root) → Safe by call s content (answers ++ ptes_of ptes) held memory (next ptes)) →
          Safe by call s content answers held memory (walk_below s.shape va count root next)
      unfolding walk_below
      safe_walk_below count None answers next owned cont = subst (λ z. Safe by call s content z held memory (next [])) (append-nil answers) (cont [] refl refl)
      safe_walk_below count (Some page) answers next owned cont = safe_walk count 2 page answers next (owned page refl) cont

  -- ---- the copy

  -- the words stand on the page from place i on, and nothing else is changed
  pub record IsCopied (page i : ℕ) (words : List ℕ) (memory later : Memory) : Type 0 where
    pub there : (k : ℕ) → k < length words → later (Dram (512 * page + (i + k))) ≡ get_or words k 0
    pub before : (k : ℕ) → k < i → later (Dram (512 * page + k)) ≡ memory (Dram (512 * page + k))
    pub others : (j : ℕ) → ((k : ℕ) → j ≡ 512 * page + k → k < 512 → ⊥) → later (Dram j) ≡ memory (Dram j)
    pub rows : (o : ObjectId) (j : ℕ) → later (Row o j) ≡ memory (Row o j)

  pub safe_copy : (s : State) (content : Content) (held : List ObjectId) (src page a : ℕ) →
      ((i : ℕ) → i < 512 → (512 * src + i < word_total s.shape) × In (objects.Region (region_of_word s.shape (512 * src + i))) held × (region_at s (region_of_word s.shape (512 * src + i)) ≡ regions.Owned owners.Os a)) →
      ((i : ℕ) → i < 512 → (512 * page + i < word_total s.shape) × KeepsLoading s held (512 * page + i)) →
      (count i : ℕ) (answers : List ℕ) (memory : Memory) (next : List ℕ → Tree) → i + count ≡ 512 →
      ((words : List ℕ) (m : Memory) → length words ≡ count → IsCopied page i words memory m → Safe by call s content (answers ++ words) held m (next words)) →
      Safe by call s content answers held memory (copy_words count i src page next)
  unfolding copy_words
  safe_copy s content held src page a from to zero i answers memory next total cont =
      subst (λ z. Safe by call s content z held memory (next [])) (append-nil answers)
      (cont [] memory refl (record { there = λ k b. absurd (omega arith); before = λ k b. refl; others = λ j n. refl; rows = λ o j. refl }))
  safe_copy s content held src page a from to (suc count) i answers memory next total cont =
      let small : i < 512 = omega arith in
      let source = from i small in
      let target = to i small in (
        source.0,
        inl (
          source.1,
          (a, source.2),
          λ word. (
            target.0,
            inl target.1,
            safe_copy s content held src page a from to count (suc i) (answers ++ word ∷ []) (with_word memory (Dram (512 * page + i)) word) (λ words. next (word ∷ words)) (omega arith)
                (λ words m long copied. subst (λ z. Safe by call s content z held m (next (word ∷ words))) (sym (append_assoc answers (word ∷ []) words))
                (cont (word ∷ words) m (ap suc long) (joined word words m memory copied))),
          ),
        ),
      )
    where
      joined : (word : ℕ) (words : List ℕ) (m memory : Memory) → IsCopied page (suc i) words (with_word memory (Dram (512 * page + i)) word) m → IsCopied page i (word ∷ words) memory m
      joined word words m memory copied = record {
        there = there;
        before = λ k b. copied.before k (omega arith) ∙ elsewhere (512 * page + k) (λ g. absurd (omega arith));
        others = λ j n. copied.others j n ∙ elsewhere j (λ g. n i (sym g) (omega (arith, total)));
        rows = λ o j. copied.rows o j ∙ dram_row memory (512 * page + i) word o j;
      }
        where
          elsewhere : (j : ℕ) → (512 * page + i ≡ j → ⊥) → with_word memory (Dram (512 * page + i)) word (Dram j) ≡ memory (Dram j)
          elsewhere j n = elim (at_place memory (Dram (512 * page + i)) word (Dram j)) [
            | inl f ↦ absurd (n (dram_index f.0))
            | inr f ↦ f.1
          ]

          there : (k : ℕ) → k < suc (length words) → m (Dram (512 * page + (i + k))) ≡ get_or (word ∷ words) k 0
          there zero b =
              let z : 512 * page + (i + 0) ≡ 512 * page + i = omega arith in
              ap (λ j. m (Dram j)) z ∙ copied.before i (omega arith) ∙ here memory (Dram (512 * page + i)) word
          there (suc k) b =
              let z : 512 * page + (i + suc k) ≡ 512 * page + (suc i + k) = omega arith in
              ap (λ j. m (Dram j)) z ∙ copied.there k (omega arith)
