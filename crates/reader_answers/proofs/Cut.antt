-- A file is read up to one byte past the limit, which tells as much as the whole file.
use Rattle.std.proofs.Common.{◌≡◌, ℕ, ◌+◌, ◌<◌, ◌≤◌, List, length, take, sym, ap, ◌∙◌, arith, inl, inr}
use Rattle.std.proofs.lemmas.Bool.{cases_lt}
use Rattle.std.proofs.lemmas.List.{take_all, length-take}

-- where every text over the limit is read alike
pub cut_same : {X : Type 0} (read : List ℕ → X) (long : X) (limit : ℕ) (bytes : List ℕ) → ((text : List ℕ) → limit < length text → read text ≡ long) → read (take (limit + 1) bytes) ≡ read bytes
cut_same read long limit bytes too_long =
    elim (cases_lt limit (length bytes)) [
      | inl lt ↦ too_long (take (limit + 1) bytes) (omega (arith, length-take (limit + 1) bytes)) ∙ sym (too_long bytes lt)
      | inr le ↦ ap read (take_all (limit + 1) bytes (omega arith))
    ]

-- what was read is the whole file, where it is within the limit
pub whole_file : (limit : ℕ) (bytes : List ℕ) → length (take (limit + 1) bytes) ≤ limit → take (limit + 1) bytes ≡ bytes
whole_file limit bytes le =
    elim (cases_lt limit (length bytes)) [
      | inl lt ↦ absurd (omega (arith, length-take (limit + 1) bytes))
      | inr short ↦ take_all (limit + 1) bytes (omega arith)
    ]
