-- What a swap's answer tells of its word.
use Rattle.std.proofs.Common.{◌≡◌, inl, inr, ◌∙◌, ℕ, true, false, cond, eqb, ap, sym, refl}
use Rattle.std.proofs.lemmas.Bool.{eqb-true, eq-eqb, cases_Bool}
use Rattle.protocol.specs.declared.action.Outcome.TheVariants as outcomes
use Rattle.protocol.specs.Places.{Dram, same_place, Memory, with_word}
use Rattle.protocol.specs.Moves.{place_of, word_found, swap_outcome, outcome_of, leaves, left_at, memory_after_move, DoneIsStored, AgainIsLeft}

again_done : {a b : ℕ} → outcomes.Again a b ≡ outcomes.Done → ⊥
again_done e = cc

done_again : {a b : ℕ} → outcomes.Done ≡ outcomes.Again a b → ⊥
done_again e = cc

again_first : {a b c d : ℕ} → outcomes.Again a b ≡ outcomes.Again c d → c ≡ a
again_first e = cc

again_second : {a b c d : ℕ} → outcomes.Again a b ≡ outcomes.Again c d → b ≡ d
again_second e = cc

there : (m : Memory) (i word : ℕ) → with_word m (Dram i) word (Dram i) ≡ word
unfolding with_word same_place
there m i word = ap (λ b. cond b word (m (Dram i))) (eq-eqb i i refl)

pub done_is_stored : DoneIsStored
unfolding place_of word_found swap_outcome outcome_of leaves left_at memory_after_move
done_is_stored mine memory i loaded value h = elim (cases_Bool (eqb (memory (Dram i)) loaded)) [
  | inl e ↦ (eqb-true (memory (Dram i)) loaded e, there memory i _ ∙ ap (λ b. cond b value (memory (Dram i))) e)
  | inr e ↦ absurd (again_done (sym (ap (λ b. cond b outcomes.Done (outcomes.Again loaded (memory (Dram i)))) e) ∙ h))
]

pub again_is_left : AgainIsLeft
unfolding place_of word_found swap_outcome outcome_of leaves left_at memory_after_move
again_is_left mine memory i loaded value before found h = elim (cases_Bool (eqb (memory (Dram i)) loaded)) [
  | inl e ↦ absurd (done_again (sym (ap (λ b. cond b outcomes.Done (outcomes.Again loaded (memory (Dram i)))) e) ∙ h))
  | inr e ↦
      let is : outcomes.Again loaded (memory (Dram i)) ≡ outcomes.Again before found = sym (ap (λ b. cond b outcomes.Done (outcomes.Again loaded (memory (Dram i)))) e) ∙ h in (
        again_first is,
        again_second is,
        λ f. apart (sym e ∙ eq-eqb (memory (Dram i)) loaded (again_second is ∙ f)),
        there memory i _ ∙ ap (λ b. cond b value (memory (Dram i))) e ∙ again_second is,
      )
]
  where
    apart : false ≡ true → ⊥
    apart e = cc
