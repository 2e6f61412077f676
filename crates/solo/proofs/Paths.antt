-- The path of an address, pte by pte.
use Rattle.std.proofs.Common.{◌≡◌, ℕ, suc, ◌+◌, ◌-◌, ◌<◌, Bool, true, false, cond, List, [], ◌∷◌, ◌++◌, append_assoc, Some, None, refl, ap, sym, ◌∙◌, arith}
use Rattle.mon_types.specs.Shape.{Shape}
use Rattle.dram_map.specs.Words.{word_at}
use Rattle.sv39_pte.specs.Tables.{pte_place, leads_to_table, page_led_to, path_by}

-- a path of at least one pte
begins : (shape : Shape) (words : List ℕ) (va level count n page : ℕ) → count ≡ suc n
    → path_by shape (word_at words) va level count page
    ≡ pte_place page level va ∷ cond (leads_to_table shape (word_at words (pte_place page level va))) (path_by shape (word_at words) va (level - 1) n (page_led_to (word_at words (pte_place page level va)))) []
begins shape words va level count n page h = rw h

-- where a pte leads to a table, the rest of the path follows
led : (leads : Bool) (table at : ℕ) (rest : ℕ → List ℕ) → Some table ≡ cond leads (Some at) None → cond leads (rest at) [] ≡ rest table
led true table at rest h =
    let same : at ≡ table = cc in
    ap rest same
led false table at rest h = cc

-- and where it leads to none, nothing follows
ended : (leads : Bool) (at : ℕ) (rest : List ℕ) → None ≡ cond leads (Some at) None → cond leads rest [] ≡ []
ended true at rest h = cc
ended false at rest h = refl

-- the places so far and what is left of the path, after a pte that leads to a table
pub one_more : (shape : Shape) (words whole places : List ℕ) (va step count page place word table : ℕ) → step < count
    → whole ≡ places ++ path_by shape (word_at words) va (2 - step) (count - step) page
    → place ≡ pte_place page (2 - step) va → word ≡ word_at words place
    → Some table ≡ cond (leads_to_table shape word) (Some (page_led_to word)) None
    → whole ≡ (places ++ place ∷ []) ++ path_by shape (word_at words) va (2 - (step + 1)) (count - (step + 1)) table
one_more shape words whole places va step count page place word table below so_far here read found =
    let left : count - step ≡ suc (count - (step + 1)) = omega arith in
    let level : 2 - step - 1 ≡ 2 - (step + 1) = omega arith in
    let rest = rw (read, here) at (led (leads_to_table shape word) table (page_led_to word) (path_by shape (word_at words) va (2 - step - 1) (count - (step + 1))) found) in
    let tail = rest ∙ ap (λ (n : ℕ). path_by shape (word_at words) va n (count - (step + 1)) table) level in
    let head = begins shape words va (2 - step) (count - step) (count - (step + 1)) page left ∙ ap (λ (l : List ℕ). pte_place page (2 - step) va ∷ l) tail in
    rw here (so_far ∙ ap (λ (l : List ℕ). places ++ l) head ∙ sym (append_assoc places (pte_place page (2 - step) va ∷ []) _))

-- the same after one that leads to none
pub last_one : (shape : Shape) (words whole places : List ℕ) (va step count page place word : ℕ) → step < count
    → whole ≡ places ++ path_by shape (word_at words) va (2 - step) (count - step) page
    → place ≡ pte_place page (2 - step) va → word ≡ word_at words place
    → None ≡ cond (leads_to_table shape word) (Some (page_led_to word)) None
    → whole ≡ places ++ place ∷ []
last_one shape words whole places va step count page place word below so_far here read found =
    let left : count - step ≡ suc (count - (step + 1)) = omega arith in
    let rest = rw (read, here) at (ended (leads_to_table shape word) (page_led_to word) (path_by shape (word_at words) va (2 - step - 1) (count - (step + 1)) (page_led_to word)) found) in
    let head = begins shape words va (2 - step) (count - step) (count - (step + 1)) page left ∙ ap (λ (l : List ℕ). pte_place page (2 - step) va ∷ l) rest in
    rw here (so_far ∙ ap (λ (l : List ℕ). places ++ l) head)
