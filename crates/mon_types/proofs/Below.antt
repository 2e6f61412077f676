-- What holds of each number below one, two or eight, given by hand.
use Rattle.std.proofs.Common.{ℕ, zero, suc, ◌<◌, arith}

pub by_one : (P : ℕ → Type 0) → P 0 → (n : ℕ) → n < 1 → P n
by_one P first zero lt = first
by_one P first (suc n) lt = absurd (omega arith)

pub by_two : (P : ℕ → Type 0) → P 0 → P 1 → (n : ℕ) → n < 2 → P n
by_two P first second zero lt = first
by_two P first second (suc n) lt = by_one (λ k. P (suc k)) second n (omega arith)

pub by_eight : (P : ℕ → Type 0) → P 0 → P 1 → P 2 → P 3 → P 4 → P 5 → P 6 → P 7 → (n : ℕ) → n < 8 → P n
by_eight P a b c d e f g h zero lt = a
by_eight P a b c d e f g h (suc zero) lt = b
by_eight P a b c d e f g h (suc (suc zero)) lt = c
by_eight P a b c d e f g h (suc (suc (suc zero))) lt = d
by_eight P a b c d e f g h (suc (suc (suc (suc zero)))) lt = e
by_eight P a b c d e f g h (suc (suc (suc (suc (suc zero))))) lt = f
by_eight P a b c d e f g h (suc (suc (suc (suc (suc (suc zero)))))) lt = g
by_eight P a b c d e f g h (suc (suc (suc (suc (suc (suc (suc n))))))) lt =
    by_one (λ k. P (suc (suc (suc (suc (suc (suc (suc k)))))))) h n (omega arith)
