-- The first move of each tree, and what follows it.
use Rattle.std.proofs.Common.{◌≡◌, ◌∙◌, ◌+◌, ◌-◌, ◌<◌, ◌≤◌, ℕ, zero, suc, Bool, true, false, cond, Option, Some, None, List, [], ◌∷◌, ap, sym, refl, subst, arith}
use Rattle.mon_types.specs.Shape.{Shape}
use Rattle.dram_map.specs.Addresses.{first_word, is_dram_frame, page_in_frame}
use Rattle.sv39_pte.specs.Pte.{ppn_of}
use Rattle.sv39_pte.specs.Tables.{pte_place, leads_to_table, page_led_to, table_led_to}
use Rattle.protocol.specs.declared.action.Action.{Action}
use Rattle.protocol.specs.declared.action.Action.TheVariants as actions
use Rattle.protocol.specs.declared.action.Outcome.{Outcome}
use Rattle.protocol.specs.CallTree.{Tree, Makes, number_in, then_, copy_words, walk, walk_below, go_on}
use Rattle.call_machine.specs.Meaning.{Heads, after}

pub heads_of : (t : Tree) (a : Action) (k : Outcome → Tree) → t ≡ Makes a k → Heads t a
heads_of t a k e = subst (λ u. Heads u a) (sym e) refl

pub after_of : (t : Tree) (a : Action) (k : Outcome → Tree) (out : Outcome) → t ≡ Makes a k → after t out ≡ k out
after_of t a k out e = ap (λ u. after u out) e

pub copy_step : (n i src page : ℕ) (next : List ℕ → Tree) → i < n
    → copy_words (n - i) i src page next
    ≡ Makes (actions.Load (first_word src + i)) (λ outcome. then_ (actions.Store (first_word page + i) (number_in outcome)) (copy_words (n - (i + 1)) (i + 1) src page (λ words. next (number_in outcome ∷ words))))
unfolding copy_words
copy_step n i src page next h =
    ap (λ m. copy_words m i src page next) {x = n - i} {y = suc (n - (i + 1))} (omega (arith, h)) ∙ first (n - (i + 1))
  where
    first : (m : ℕ) → copy_words (suc m) i src page next ≡ Makes (actions.Load (first_word src + i)) (λ outcome. then_ (actions.Store (first_word page + i) (number_in outcome)) (copy_words m (i + 1) src page (λ words. next (number_in outcome ∷ words))))
    first m = let e : i + 1 ≡ suc i = omega arith in rw e refl

pub copy_end : (n i src page : ℕ) (next : List ℕ → Tree) → n ≤ i → copy_words (n - i) i src page next ≡ next []
unfolding copy_words
copy_end n i src page next h = let e : n - i ≡ 0 = omega (arith, h) in rw e refl

pub walk_step : (shape : Shape) (va level count page : ℕ) (next : List (ℕ × ℕ) → Tree) → 0 < count
    → walk shape va level count page next
    ≡ Makes (actions.Load (pte_place page level va)) (λ outcome. go_on (leads_to_table shape (number_in outcome)) (walk shape va (level - 1) (count - 1) (page_led_to (number_in outcome)) (λ rest. next ((pte_place page level va, number_in outcome) ∷ rest))) (next ((pte_place page level va, number_in outcome) ∷ [])))
unfolding walk
walk_step shape va level zero page next h = absurd (omega (arith, h))
walk_step shape va level (suc n) page next h = let e : suc n - 1 ≡ n = omega arith in rw e refl

-- where a pte leads to a table, and where it leads to none
pub led_some : (shape : Shape) (pte page : ℕ) → table_led_to shape pte ≡ Some page → (leads_to_table shape pte ≡ true) × (page_led_to pte ≡ page)
led_some shape pte page e = by (is_dram_frame shape (ppn_of pte)) refl e
  where
    by : (b : Bool) → is_dram_frame shape (ppn_of pte) ≡ b → cond b (Some (page_in_frame (ppn_of pte))) None ≡ Some page → (is_dram_frame shape (ppn_of pte) ≡ true) × (page_in_frame (ppn_of pte) ≡ page)
    by true is e = (is, cc)
    by false is e = absurd (cc)

pub led_none : (shape : Shape) (pte : ℕ) → table_led_to shape pte ≡ None → leads_to_table shape pte ≡ false
led_none shape pte e = by (is_dram_frame shape (ppn_of pte)) refl e
  where
    by : (b : Bool) → is_dram_frame shape (ppn_of pte) ≡ b → cond b (Some (page_in_frame (ppn_of pte))) None ≡ None → is_dram_frame shape (ppn_of pte) ≡ false
    by true is e = absurd (cc)
    by false is e = is

go_same : (b : Bool) (t : Tree) → go_on b t t ≡ t
unfolding go_on
go_same true t = refl
go_same false t = refl

-- the last pte of a walk, wherever it leads
pub walk_last : (shape : Shape) (va level page : ℕ) (next : List (ℕ × ℕ) → Tree) (outcome : Outcome)
    → go_on (leads_to_table shape (number_in outcome)) (walk shape va (level - 1) 0 (page_led_to (number_in outcome)) (λ rest. next ((pte_place page level va, number_in outcome) ∷ rest))) (next ((pte_place page level va, number_in outcome) ∷ []))
    ≡ next ((pte_place page level va, number_in outcome) ∷ [])
unfolding walk
walk_last shape va level page next outcome = go_same (leads_to_table shape (number_in outcome)) (next ((pte_place page level va, number_in outcome) ∷ []))

pub walk_none : (shape : Shape) (va count : ℕ) (root : Option ℕ) (next : List (ℕ × ℕ) → Tree) → count ≡ 0 → walk_below shape va count root next ≡ next []
unfolding walk walk_below
walk_none shape va count None next e = refl
walk_none shape va count (Some page) next e = ap (λ n. walk shape va 2 n page next) e
