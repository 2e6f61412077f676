use Rattle.std.proofs.Common.{inl, inr, ◌<◌, ◌^◌, ℕ, suc, List, [], ◌∷◌, get_or, length, subst, arith}
use Rattle.std.specs.List.{AllByRecursion}
use Rattle.std.proofs.lemmas.Bool.{cases_lt}
use Rattle.call_machine.proofs.begin.words.Goals as goal

all_of : (xs : List ℕ) → ((k : ℕ) → k < length xs → get_or xs k 0 < 2 ^ 64) → AllByRecursion (λ w. w < 2 ^ 64) xs
all_of [] h = tt
all_of (x ∷ xs) h = (h 0 (omega arith), all_of xs (λ k less. h (suc k) (omega (arith, less))))

pub loop-at-preserved : goal.loop-at-preserved
loop-at-preserved c =
    record {
      end = omega (arith, c.loop-at-test.true);
      before = λ k less. elim (cases_lt k c.loop-at.at) [
        | inl b ↦ c.loop-at.invariant.before k b
        | inr a ↦ subst (λ i. get_or c.args.words.now i 0 < 2 ^ 64) {x = c.loop-at.at} {y = k} (omega (arith, less, a)) (omega (arith, c.word-word.ensures, c.word-word.type_inv))
      ];
    }

pub loop-at-init : goal.loop-at-init
loop-at-init c = record { end = omega arith; before = λ k less. absurd (omega (arith, less)) }

pub returns : goal.returns
returns c = all_of c.args.words.now (λ k less. c.loop-at.invariant.before k (omega (arith, less, c.loop-at-test.false)))
