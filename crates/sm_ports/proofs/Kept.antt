-- The first bytes of what a sink was given.
use Rattle.std.proofs.Common.{◌≡◌, ℕ, ◌+◌, ◌-◌, ◌≤◌, List, ◌++◌, length, take, min, arith, ap, sym, ◌∙◌}
use Rattle.std.proofs.Math.Seq.{take-append-add}
use Rattle.std.proofs.lemmas.List.{take_min}

-- what was kept, and as much of more bytes as there is room for
pub kept_more : (limit n : ℕ) (kept bytes : List ℕ) → length kept ≤ limit → n ≡ min (length bytes) (limit - length kept) → kept ++ take n bytes ≡ take limit (kept ++ bytes)
kept_more limit n kept bytes within is =
    let room : ℕ = limit - length kept in
    let cut : n ≡ min room (length bytes) = omega (arith, is) in
    let whole : length kept + room ≡ limit = omega (arith, within) in
    ap (λ (k : ℕ). kept ++ take k bytes) cut ∙ ap (λ (x : List ℕ). kept ++ x) (take_min room bytes) ∙ sym (take-append-add kept bytes room) ∙ ap (λ (k : ℕ). take k (kept ++ bytes)) whole
