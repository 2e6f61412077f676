-- How many words of a reply there are.
use Rattle.std.proofs.Common.{◌≡◌, ℕ, min, List, length, take, sym, ap, ◌∙◌, inl, inr, arith}
use Rattle.std.proofs.lemmas.List.{take_all}
use Rattle.std.proofs.lemmas.Bool.{cases_lt}

-- as many words as there are, if fewer were asked for
pub take_least : (count some : ℕ) (words : List ℕ) → some ≡ min count (length words) → take some words ≡ take count words
take_least count some words is = elim (cases_lt count (length words)) [
  | inl lt ↦ ap (λ (n : ℕ). take n words) (omega arith)
  | inr ge ↦ take_all some words (omega arith) ∙ sym (take_all count words ge)
]
