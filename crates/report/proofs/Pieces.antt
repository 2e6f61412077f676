-- The texts of numbered items, and of cores, one after the other.
use Rattle.std.proofs.Common.{◌≡◌, ℕ, ◌+◌, ◌<◌, ◌≤◌, List, [], ◌∷◌, ◌++◌, length, drop, get_or, refl, sym, ap, ◌∙◌, arith, append-nil}
use Rattle.std.proofs.lemmas.List.{drop_more, drop_all}
use Rattle.report.specs.Objects.{numbered}
use Rattle.std.specs.List.{flat_map}
use Rattle.mon_types.specs.declared.thread.Mode.{Mode}
use Rattle.report.specs.Tables.{core_line, core_lines}

-- ---- numbered items

pub numbered_next : {X : Type 0} (text : ℕ → X → List ℕ) (xs : List X) (i : ℕ) (x : X) → i < length xs → x ≡ get_or xs i x → numbered text i (drop i xs) ≡ text i x ++ numbered text (i + 1) (drop (i + 1) xs)
numbered_next text xs i x lt e = ap (numbered text i) (drop_more xs i x lt) ∙ ap (λ y. text i y ++ numbered text (i + 1) (drop (i + 1) xs)) (sym e)

pub numbered_all : {X : Type 0} (text : ℕ → X → List ℕ) (xs : List X) (i : ℕ) → length xs ≤ i → numbered text i (drop i xs) ≡ []
numbered_all text xs i le = ap (numbered text i) (drop_all i xs le)

-- where an item's text does not tell its number
pub numbered_same : {X : Type 0} (text : X → List ℕ) (i : ℕ) (xs : List X) → numbered (λ _ x. text x) i xs ≡ flat_map text xs
numbered_same text i [] = refl
numbered_same text i (x ∷ xs) = ap (λ rest. text x ++ rest) (numbered_same text (i + 1) xs)

pub numbered_two : {X : Type 0} (text : ℕ → X → List ℕ) (xs : List X) (d e : X) → length xs ≡ 2 → numbered text 0 xs ≡ text 0 (get_or xs 0 d) ++ text 1 (get_or xs 1 e)
numbered_two text [] d e two = cc
numbered_two text (x ∷ []) d e two = absurd (omega arith)
numbered_two text (x ∷ y ∷ []) d e two = ap (λ rest. text 0 x ++ rest) (append-nil (text 1 y))
numbered_two text (x ∷ y ∷ z ∷ more) d e two = absurd (omega arith)

-- ---- cores

pub core_lines_next : (modes : List Mode) (flushed : List ℕ) (i : ℕ) (d : Mode) (e : ℕ) → i < length modes → i < length flushed
    → core_lines i (drop i modes) (drop i flushed) ≡ core_line i (get_or modes i d) (get_or flushed i e) ++ core_lines (i + 1) (drop (i + 1) modes) (drop (i + 1) flushed)
core_lines_next modes flushed i d e lt le = ap (λ ms. core_lines i ms (drop i flushed)) (drop_more modes i d lt) ∙ ap (λ fs. core_lines i (get_or modes i d ∷ drop (i + 1) modes) fs) (drop_more flushed i e le)

pub core_lines_all : (modes : List Mode) (flushed : List ℕ) (i : ℕ) → length modes ≤ i → core_lines i (drop i modes) (drop i flushed) ≡ []
core_lines_all modes flushed i le = ap (λ ms. core_lines i ms (drop i flushed)) (drop_all i modes le)
