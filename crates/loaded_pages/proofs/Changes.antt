-- What each change makes of each word of the content.
use Rattle.std.proofs.Common.{◌≡◌, ◌⊎◌, inl, inr, ◌∙◌, ◌+◌, ◌*◌, ◌/◌, ◌%◌, ◌^◌, ◌<◌, ℕ, true, cond, eqb, Option, Some, None, List, ap, sym, refl, subst, get_or, arith}
use Rattle.std.proofs.lemmas.Bool.{cases_eq, eq-eqb, ne_eqb}
use Rattle.mon_types.specs.Bits.{has_bit}
use Rattle.mon_types.specs.Shape.{Shape, region_of_page}
use Rattle.mon_types.specs.declared.enclave.Enclave.{Enclave}
use Rattle.dram_map.specs.Addresses.{region_of_word}
use Rattle.loaded_pages.specs.Content.{Content, region_zeroed, page_put, content_put}
use Rattle.loaded_pages.specs.Facts.{word_in}
use Rattle.loaded_pages.proofs.Tables.{put, put_same, put_other, put_beside}

-- ---- a region

zeroed_none : (m : Shape) (f : Content) (i : ℕ) → region_zeroed m None f i ≡ f i
unfolding region_zeroed
zeroed_none m f i = refl

zeroed_out : (m : Shape) (r : ℕ) (f : Content) (i : ℕ) → (region_of_word m i ≡ r → ⊥) → region_zeroed m (Some r) f i ≡ f i
unfolding region_zeroed
zeroed_out m r f i ne = ap (λ b. cond b 0 (f i)) (ne_eqb (region_of_word m i) r ne)

pub zeroed_in : (m : Shape) (r : ℕ) (f : Content) (i : ℕ) → region_of_word m i ≡ r → region_zeroed m (Some r) f i ≡ 0
unfolding region_zeroed
zeroed_in m r f i e = ap (λ b. cond b 0 (f i)) (eq-eqb (region_of_word m i) r e)

-- a word of another region
pub same_word : (m : Shape) (emptied : Option ℕ) (f : Content) (i : ℕ) → (emptied ≡ Some (region_of_word m i) → ⊥) → region_zeroed m emptied f i ≡ f i
same_word m None f i ne = zeroed_none m f i
same_word m (Some r) f i ne = zeroed_out m r f i (λ e. ne (ap Some (sym e)))

-- ---- a page

pub paste_other : (page : ℕ) (ws : List ℕ) (f : Content) (i : ℕ) → (i / 512 ≡ page → ⊥) → page_put page ws f i ≡ f i
unfolding page_put
paste_other page ws f i ne = ap (λ z. cond z (get_or ws (i % 512) 0) (f i)) (ne_eqb (i / 512) page ne)

pub paste_in : (page : ℕ) (ws : List ℕ) (f : Content) (i : ℕ) → i / 512 ≡ page → page_put page ws f i ≡ get_or ws (i % 512) 0
unfolding page_put
paste_in page ws f i e = ap (λ z. cond z (get_or ws (i % 512) 0) (f i)) (eq-eqb (i / 512) page e)

-- ---- a word

pub link_none : (x : ℕ) (f : Content) (i : ℕ) → content_put None x f i ≡ f i
unfolding content_put
link_none x f i = refl

pub link_other : (at x : ℕ) (f : Content) (i : ℕ) → (at ≡ i → ⊥) → content_put (Some at) x f i ≡ f i
unfolding content_put
link_other at x f i ne = ap (λ z. cond z x (f i)) (ne_eqb at i ne)

-- by its page and its place in it
pub link_put : (f : Content) (p i x q j : ℕ) → i < 512 → j < 512 → word_in (content_put (Some (512 * p + i)) x f) q j ≡ put (word_in f) p i x q j
unfolding content_put
link_put f p i x q j a b = elim (cases_eq (512 * p + i) (512 * q + j)) [
  | inl e ↦
      let pq : p ≡ q = omega arith in
      let ij : i ≡ j = omega arith in
      ap (λ z. cond z x (f (512 * q + j))) (eq-eqb (512 * p + i) (512 * q + j) e) ∙ sym (subst (λ z. put (word_in f) p i x z j ≡ x) pq (put_same (word_in f) p i x j ij))
  | inr ne ↦ ap (λ z. cond z x (f (512 * q + j))) (ne_eqb (512 * p + i) (512 * q + j) ne) ∙ elim (cases_eq p q) [
    | inl e ↦ sym (subst (λ z. put (word_in f) p i x z j ≡ word_in f z j) e (put_beside (word_in f) p i x j (λ g. ne (ap (λ z. 512 * z + i) e ∙ ap (λ z. 512 * q + z) g))))
    | inr e ↦ sym (put_other (word_in f) p i x q j e)
  ]
]

pub put_content : (word other : ℕ → ℕ → ℕ) (p i x q j : ℕ) → word q j ≡ other q j → put word p i x q j ≡ put other p i x q j
unfolding put
put_content word other p i x q j e = ap (λ z. cond (eqb p q) (cond (eqb i j) x z) z) e

-- ---- words of a page of an enclave's set

pub page_home : (m : Shape) (p i : ℕ) → i < 512 → region_of_word m (512 * p + i) ≡ region_of_page m p
page_home m p i h = ap (λ z. z / 2 ^ m.shift % m.regions) (let f : (512 * p + i) / 512 ≡ p = omega arith in f)

-- each word is as it was, or in a region of the set
abbrev pub Within : Shape → Enclave → Content → Content → Type 0
Within m x g f = (i : ℕ) → (g i ≡ f i) ⊎ (has_bit x.regions (region_of_word m i) ≡ true)

pub link_within : (m : Shape) (x : Enclave) (p j v : ℕ) (g f : Content) → has_bit x.regions (region_of_page m p) ≡ true → j < 512 → Within m x g f → Within m x (content_put (Some (512 * p + j)) v g) f
link_within m x p j v g f mine small h i = elim (cases_eq (512 * p + j) i) [
  | inl e ↦ inr (ap (λ z. has_bit x.regions (region_of_word m z)) (sym e) ∙ ap (has_bit x.regions) (page_home m p j small) ∙ mine)
  | inr ne ↦ elim (h i) [ inl q ↦ inl (link_other (512 * p + j) v g i ne ∙ q) | inr q ↦ inr q ]
]

pub paste_within : (m : Shape) (x : Enclave) (page : ℕ) (ws : List ℕ) (f : Content) → has_bit x.regions (region_of_page m page) ≡ true → Within m x (page_put page ws f) f
paste_within m x page ws f mine i = elim (cases_eq (i / 512) page) [
  | inl e ↦ inr (ap (λ z. has_bit x.regions (region_of_page m z)) e ∙ mine)
  | inr ne ↦ inl (paste_other page ws f i ne)
]
