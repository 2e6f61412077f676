-- The calls that load an enclave are safe: the reply by the ptes that they have loaded is the state's, and what they have
-- stored is what the content becomes.
use Rattle.std.proofs.Common.{◌≡◌, ◌⊎◌, inl, inr, ◌<◌, ◌/◌, ◌%◌, ◌∙◌, ℕ, Bool, true, false, cond, eqb, ◌&&◌, Option, Some, None, List, [], ap, sym, refl, get_or}
use Rattle.std.proofs.lemmas.Bool.{eq-eqb, ne_eqb, cases_eq}
use Rattle.mon_types.specs.Shape.{Shape, region_of_page}
use Rattle.mon_types.specs.Bits.{has_bit}
use Rattle.mon_types.specs.Replies.{is_done}
use Rattle.mon_types.specs.declared.region.Owner.TheVariants as owners
use Rattle.mon_types.specs.declared.region.Region.{Region}
use Rattle.mon_types.specs.declared.region.Region.TheVariants as regions
use Rattle.mon_types.specs.declared.call.Call.{Call}
use Rattle.mon_types.specs.declared.call.Call.TheVariants as calls
use Rattle.mon_types.specs.declared.object.ObjectId.{ObjectId}
use Rattle.mon_types.specs.declared.object.ObjectId.TheVariants as objects
use Rattle.mon_model.specs.State.{State, region_at, enclave_at, loaded_at}
use Rattle.mon_model.specs.RegionCalls.{is_loading}
use Rattle.mon_model.specs.Loading.{is_next_page, takes_page, reserves_page}
use Rattle.mon_model.specs.EnclaveCalls.{is_os_owned, table_fits, leaf_fits}
use Rattle.mon_model.specs.Step.{reply_of, after, effect}
use Rattle.mon_model.specs.Tries.{held_tries}
use Rattle.dram_map.specs.Addresses.{word_total}
use Rattle.mon_enclaves.specs.ByWords.{table_reply, page_reply, reserved_reply, words_fit, leaf_path}
use Rattle.mon_enclaves.specs.FromItems.{table_1_for, table_0_for}
use Rattle.mon_enclaves.specs.LoadReply.{is_load, slot_of, words_reply}
use Rattle.mon_records.specs.Members.{In}
use Rattle.loaded_pages.specs.Content.{Content, region_zeroed, page_put, content_put, emptied, place_in_root, place_in_table, loaded_place, loaded_pte, page_loaded, content_by}
use Rattle.loaded_pages.proofs.Loads.{and_left, and_right, done_true, page_ok, taken}
use Rattle.protocol.specs.Places.{Row, Dram, Memory, with_word}
use Rattle.protocol.specs.CallTree.{Tree, Issuer, put_pte}
use Rattle.protocol_laws.specs.Known.{Keeps, KeepsLoading}
use Rattle.protocol_laws.specs.Safe.{Safe}
use Rattle.protocol_laws.proofs.Places.{at_place, dram_index, dram_row}

pub clash : {X : Type 0} → false ≡ true → X
clash e = absurd (cc)

-- ---- what the records say of such a call

pub slot_tried : (s : State) (core : ℕ) (call : Call) → is_load call ≡ true → In (objects.Enclave (slot_of call)) (held_tries s core call)
slot_tried s core (calls.LoadTable e va level page) h = inl refl
slot_tried s core (calls.LoadPage e va page src perms) h = inl refl
slot_tried s core (calls.Reserve e va page perms) h = inl refl
slot_tried s core _ h = absurd (cc)

pub reply_same : (known s : State) (call : Call) (words : List ℕ) → known.shape ≡ s.shape → enclave_at known (slot_of call) ≡ enclave_at s (slot_of call) → ((e va page src perms : ℕ) → call ≡ calls.LoadPage e va page src perms → region_at known (region_of_page s.shape src) ≡ region_at s (region_of_page s.shape src)) → words_reply known call words ≡ words_reply s call words
reply_same known s (calls.LoadTable e va level page) words shape slot source =
    ap (λ z. table_reply z (enclave_at known e) va level page words) shape ∙ ap (λ x. table_reply s.shape x va level page words) slot
reply_same known s (calls.LoadPage e va page src perms) words shape slot source =
    ap (λ z. page_reply z (enclave_at known e) va page (region_at known (region_of_page z src)) words) shape
    ∙ ap (λ x. page_reply s.shape x va page (region_at known (region_of_page s.shape src)) words) slot
    ∙ ap (λ g. page_reply s.shape (enclave_at s e) va page g words) (source e va page src perms refl)
reply_same known s (calls.Reserve e va page perms) words shape slot source =
    ap (λ z. reserved_reply z (enclave_at known e) va page words) shape ∙ ap (λ x. reserved_reply s.shape x va page words) slot
reply_same known s _ words shape slot source = refl

-- where the records do not refuse it, its enclave is Loading
pub goes_loading : (s : State) (call : Call) → is_load call ≡ true → is_done (words_reply s call []) ≡ true → is_loading (enclave_at s (slot_of call)).stage ≡ true
goes_loading s (calls.LoadTable e va level page) h d =
    let x = enclave_at s e in
    (taken x page (and_left (is_next_page x page) _ (and_left (takes_page s.shape x page) (table_fits x va level) (and_left (takes_page s.shape x page && table_fits x va level) _ (done_true _ d))))).loading
goes_loading s (calls.LoadPage e va page src perms) h d =
    let x = enclave_at s e in
    let ok = page_ok (takes_page s.shape x page && leaf_fits x va) (is_os_owned (region_at s (region_of_page s.shape src))) (words_fit s.shape leaf_path []) d in
    (taken x page (and_left (is_next_page x page) _ (and_left (takes_page s.shape x page) (leaf_fits x va) ok.0))).loading
goes_loading s (calls.Reserve e va page perms) h d =
    let x = enclave_at s e in
    (taken x page (and_left (is_next_page x page) _ (and_left (reserves_page s.shape x page) (leaf_fits x va) (and_left (reserves_page s.shape x page && leaf_fits x va) _ (done_true _ d))))).loading
goes_loading s _ h d = absurd (cc)

os_owned : (g : Region) → is_os_owned g ≡ true → (a : ℕ) × (g ≡ regions.Owned owners.Os a)
os_owned regions.Free h = clash h
os_owned (regions.Owned owners.Os since) h = (since, refl)
os_owned (regions.Owned (owners.Enclave e) since) h = clash h
os_owned (regions.Blocked owner since at) h = clash h
os_owned (regions.Offered to at) h = clash h

-- the page that a load_page fills is in the set, and src is the OS's
pub page_facts : (s : State) (e va page src perms : ℕ) → is_done (words_reply s (calls.LoadPage e va page src perms) []) ≡ true → (has_bit (enclave_at s e).regions (region_of_page s.shape page) ≡ true) × ((a : ℕ) × (region_at s (region_of_page s.shape src) ≡ regions.Owned owners.Os a))
page_facts s e va page src perms d =
    let x = enclave_at s e in
    let ok = page_ok (takes_page s.shape x page && leaf_fits x va) (is_os_owned (region_at s (region_of_page s.shape src))) (words_fit s.shape leaf_path []) d in
    (and_right (is_next_page x page) (has_bit x.regions (region_of_page s.shape page)) (and_left (takes_page s.shape x page) (leaf_fits x va) ok.0), os_owned (region_at s (region_of_page s.shape src)) ok.1)

-- no region is changed
same_if : (b : Bool) (x t : State) → x.regions ≡ t.regions → (cond b x t).regions ≡ t.regions
same_if true x t e = e
same_if false x t e = refl

pub regions_stay : (t : State) (core : ℕ) (call : Call) (digest : List ℕ) (k : ℕ) → is_load call ≡ true → (after t core call digest k).regions ≡ t.regions
regions_stay t core (calls.LoadTable e va level page) digest k h = same_if (is_done (reply_of t core (calls.LoadTable e va level page))) (effect t core (calls.LoadTable e va level page) digest k) t refl
regions_stay t core (calls.LoadPage e va page src perms) digest k h = same_if (is_done (reply_of t core (calls.LoadPage e va page src perms))) (effect t core (calls.LoadPage e va page src perms) digest k) t refl
regions_stay t core (calls.Reserve e va page perms) digest k h = same_if (is_done (reply_of t core (calls.Reserve e va page perms))) (effect t core (calls.Reserve e va page perms) digest k) t refl
regions_stay t core _ digest k h = absurd (cc)

-- ---- what such a call makes of the content

pub place_same : (s t : State) (call : Call) → enclave_at t (slot_of call) ≡ enclave_at s (slot_of call) → loaded_at t (slot_of call) ≡ loaded_at s (slot_of call) → loaded_place t call ≡ loaded_place s call
place_same s t (calls.LoadTable e va level page) slot items =
    ap (λ z. cond (eqb level 2) None (cond (eqb level 1) (place_in_root z.root va) (place_in_table (table_1_for va (loaded_at t e)) 1 va))) slot
    ∙ ap (λ z. cond (eqb level 2) None (cond (eqb level 1) (place_in_root (enclave_at s e).root va) (place_in_table (table_1_for va z) 1 va))) items
place_same s t (calls.LoadPage e va page src perms) slot items = ap (λ z. place_in_table (table_0_for va z) 0 va) items
place_same s t (calls.Reserve e va page perms) slot items = ap (λ z. place_in_table (table_0_for va z) 0 va) items
place_same s t _ slot items = refl

zeroed_none : (m : Shape) (call : Call) (f : Content) (i : ℕ) → is_load call ≡ true → region_zeroed m (emptied call) f i ≡ f i
unfolding region_zeroed
zeroed_none m (calls.LoadTable e va level page) f i h = refl
zeroed_none m (calls.LoadPage e va page src perms) f i h = refl
zeroed_none m (calls.Reserve e va page perms) f i h = refl
zeroed_none m _ f i h = absurd (cc)

put_ext : (at : Option ℕ) (pte : ℕ) (f g : Content) (i : ℕ) → f i ≡ g i → content_put at pte f i ≡ content_put at pte g i
unfolding content_put
put_ext None pte f g i e = e
put_ext (Some p) pte f g i e = ap (λ z. cond (eqb p i) pte z) e

page_ext : (call : Call) (words : List ℕ) (f g : Content) (i : ℕ) → f i ≡ g i → page_loaded call words f i ≡ page_loaded call words g i
unfolding page_put
page_ext (calls.LoadPage slot va page src perms) words f g i e = ap (λ z. cond (eqb (i / 512) page) (get_or words (i % 512) 0) z) e
page_ext _ words f g i e = e

pub content_ext : (s t : State) (call : Call) (words : List ℕ) (f g : Content) (i : ℕ) → is_load call ≡ true → loaded_place t call ≡ loaded_place s call → f i ≡ g i → content_by t call words f i ≡ content_put (loaded_place s call) (loaded_pte call) (page_loaded call words g) i
content_ext s t call words f g i h place e =
    ap (λ o. content_put o (loaded_pte call) (page_loaded call words (region_zeroed t.shape (emptied call) f)) i) place
    ∙ put_ext (loaded_place s call) (loaded_pte call) (page_loaded call words (region_zeroed t.shape (emptied call) f)) (page_loaded call words g) i (page_ext call words (region_zeroed t.shape (emptied call) f) g i (zeroed_none t.shape call f i h ∙ e))

-- a word that is changed is the place or on the page
pub put_or : (at : Option ℕ) (pte : ℕ) (f : Content) (i : ℕ) → (content_put at pte f i ≡ f i) ⊎ (at ≡ Some i)
unfolding content_put
put_or None pte f i = inl refl
put_or (Some p) pte f i = elim (cases_eq p i) [
  | inl e ↦ inr (ap Some e)
  | inr ne ↦ inl (ap (λ b. cond b pte (f i)) (ne_eqb p i ne))
]

abbrev pub IsOnPage : Call → ℕ → Type 0
IsOnPage (calls.LoadPage e va page src perms) i = i / 512 ≡ page
IsOnPage _ i = ⊥

pub page_or : (call : Call) (words : List ℕ) (f : Content) (i : ℕ) → (page_loaded call words f i ≡ f i) ⊎ IsOnPage call i
unfolding page_put
page_or (calls.LoadPage e va page src perms) words f i = elim (cases_eq (i / 512) page) [
  | inl e ↦ inr e
  | inr ne ↦ inl (ap (λ b. cond b (get_or words (i % 512) 0) (f i)) (ne_eqb (i / 512) page ne))
]
page_or _ words f i = inl refl

module _ (by : Issuer) (call : Call) where
  -- ---- the pte

  pub safe_put : (at : Option ℕ) (next : Tree) (s : State) (content : Content) (answers : List ℕ) (held : List ObjectId) (m : Memory) (f : Content) → ((p : ℕ) → at ≡ Some p → (p < word_total s.shape) × KeepsLoading s held p) → ((i : ℕ) → i < word_total s.shape → Keeps s held i → m (Dram i) ≡ f i) →
      ((m2 : Memory) → ((i : ℕ) → i < word_total s.shape → Keeps s held i → m2 (Dram i) ≡ content_put at (loaded_pte call) f i) → ((o : ObjectId) (j : ℕ) → m2 (Row o j) ≡ m (Row o j)) → Safe by call s content answers held m2 next) →
      Safe by call s content answers held m (put_pte at call next)
  unfolding put_pte content_put
  safe_put None next s content answers held m f kept is cont = cont m is (λ o j. refl)
  safe_put (Some p) next s content answers held m f kept is cont =
      let k = kept p refl in (
        k.0,
        inl k.1,
        cont (with_word m (Dram p) (loaded_pte call))
            (λ i b g. elim (at_place m (Dram p) (loaded_pte call) (Dram i)) [
              | inl e ↦ e.1 ∙ sym (ap (λ z. cond z (loaded_pte call) (f i)) (eq-eqb p i (dram_index e.0)))
              | inr e ↦ e.1 ∙ is i b g ∙ sym (ap (λ z. cond z (loaded_pte call) (f i)) (ne_eqb p i (λ q. e.0 (ap (λ z. Dram z) q))))
            ])
            (λ o j. dram_row m p (loaded_pte call) o j),
      )
