-- What always holds of the monitor's states makes their records readable: no set has a bit past the last region, and no
-- root is past the last page.
use Rattle.std.proofs.Common.{◌≡◌, ◌≢◌, inl, inr, ◌<◌, ◌≤◌, ◌+◌, ◌-◌, ◌/◌, ◌%◌, ◌^◌, ◌∙◌, ℕ, zero, suc, false, Option, Some, None, List, [], ◌∷◌, length, ap, refl, subst, get_or, arith, pow-suc}
use Rattle.std.specs.Int.{bit_at}
use Rattle.std.proofs.lemmas.Bool.{eqb-false, cases_eq}
use Rattle.std.proofs.lemmas.Nat.Bits.{bit_at_lowest, bit_at-suc}
use Rattle.mon_types.specs.Bits.{has_bit}
use Rattle.mon_types.specs.LimitLaws.{few_regions}
use Rattle.mon_types.specs.RowLaws.{HasRootWithin}
use Rattle.mon_types.proofs.EnclaveRows.{within_same}
use Rattle.mon_types.specs.declared.region.Region.{Region}
use Rattle.mon_types.specs.declared.region.Region.TheVariants as regions
use Rattle.mon_model.specs.State.{State, region_at, enclave_at}
use Rattle.mon_facts.specs.Tables.{AreTables}
use Rattle.mon_facts.specs.Facts.{FactsHold, is_owned_by}
use Rattle.mon_records.specs.Ranges.{AreInRange}
use Rattle.mon_records.specs.RebuiltLaws.{IsReadable}

-- ---- a set without bits from n on

one_bit_less : (w n : ℕ) → bit_at w n ≢ 1 → w < 2 ^ suc n → w < 2 ^ n
one_bit_less w zero none b =
    let low = bit_at_lowest w in
    elim (cases_eq w 1) [ inl e ↦ absurd (none (low ∙ ap (λ x. x % 2) e)) | inr ne ↦ omega (arith, ne) ]
one_bit_less w (suc n) none b =
    let half = one_bit_less (w / 2) n (λ e. none (bit_at-suc w n ∙ e)) (omega (arith, pow-suc 2 (suc n))) in
    omega (arith, half, pow-suc 2 n)

bits_less : (w n k m : ℕ) → m ≡ n + k → ((i : ℕ) → n ≤ i → has_bit w i ≡ false) → w < 2 ^ m → w < 2 ^ n
bits_less w n zero m e none b = let same : m ≡ n = omega (arith, e) in subst (λ x. w < 2 ^ x) same b
bits_less w n (suc k) m e none b =
    let same : m ≡ suc (n + k) = omega (arith, e) in
    bits_less w n k (n + k) refl none
    (one_bit_less w (n + k) (eqb-false (bit_at w (n + k)) 1 (none (n + k) (omega arith))) (subst (λ x. w < 2 ^ x) same b))

past_end : (xs : List Region) (i : ℕ) → length xs ≤ i → get_or xs i regions.Free ≡ regions.Free
past_end [] i l = refl
past_end (x ∷ xs) zero l = absurd (omega arith)
past_end (x ∷ xs) (suc i) l = past_end xs i (omega arith)

module _ (s : State) (tables : AreTables s) (facts : FactsHold s) (ranges : AreInRange s) where
  no_bit : (e r : ℕ) → s.shape.regions ≤ r → has_bit (enclave_at s e).regions r ≡ false
  no_bit e r l =
      let none : region_at s r ≡ regions.Free = past_end s.regions r (let k = tables.whole.regions in omega arith) in
      facts.sets e r ∙ ap (is_owned_by e) none

  set_within : (e : ℕ) → (enclave_at s e).regions < 2 ^ s.shape.regions
  set_within e =
      let few = few_regions s.shape tables.machine in
      bits_less (enclave_at s e).regions s.shape.regions (64 - s.shape.regions) 64 (omega (arith, few)) (no_bit e) (ranges.enclave e).regions

  root_of : (e : ℕ) (root : Option ℕ) → (enclave_at s e).root ≡ root → HasRootWithin s.shape root
  root_of e None h = tt
  root_of e (Some page) h =
      let placed = facts.root_pages e page h in
      let next = (tables.items e).next in
      omega (arith, placed.below, next)

  pub readable : IsReadable s
  readable = record {
    machine = tables.machine;
    whole = tables.whole;
    ranges = ranges;
    within = λ e. within_same s.shape (enclave_at s e) (set_within e) (root_of e (enclave_at s e).root refl);
  }
