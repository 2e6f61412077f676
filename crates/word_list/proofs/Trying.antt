-- What a TryLock answers and leaves.
use Rattle.std.proofs.Common.{◌≡◌, ◌∙◌, inl, inr, ℕ, zero, suc, ◌/◌, ◌%◌, Option, Some, None, ap, refl, arith}
use Rattle.mon_types.specs.Locks.{IsLock}
use Rattle.protocol.specs.declared.action.Outcome.TheVariants as outcomes
use Rattle.protocol.specs.Moves.{try_outcome, try_leaves}
use Rattle.word_list.specs.Finds.{IsLockWord}

-- whose a lock word is
pub held_by_its_core : (word core serial : ℕ) → IsLock word core serial → outcomes.HeldBy core serial ≡ try_outcome word
unfolding try_outcome
held_by_its_core zero core serial is = let p = is.packed in absurd (omega (arith, p))
held_by_its_core (suc n) core serial is =
    let p = is.packed in
    let few = is.among_cores in
    let of : core ≡ suc n / 2 % 16 = omega (arith, p, few) in
    let with_ : serial ≡ suc n / 32 = omega (arith, p, few) in
    ap (λ (c : ℕ). outcomes.HeldBy c serial) of ∙ ap (λ (s : ℕ). outcomes.HeldBy (suc n / 2 % 16) s) with_

-- a word that is no call's is a free lock's
pub taken_where_nobodys : (word : ℕ) → IsLockWord word → ((core serial : ℕ) → IsLock word core serial → ◌≡◌ {A = Option (ℕ × ℕ)} None (Some (core, serial))) → outcomes.Taken ≡ try_outcome word
unfolding try_outcome
taken_where_nobodys zero is only = refl
taken_where_nobodys (suc n) (inl free) only = absurd (omega arith)
taken_where_nobodys (suc n) (inr held) only = let clash = only held.core held.serial held.lock in absurd (cc)

pub left_where_free : (mine word : ℕ) → word ≡ 0 → mine ≡ try_leaves mine word
unfolding try_leaves
left_where_free mine zero free = refl
left_where_free mine (suc n) free = absurd (omega arith)

pub left_where_held : (mine word : ℕ) → (word ≡ 0 → ⊥) → word ≡ try_leaves mine word
unfolding try_leaves
left_where_held mine zero held = absurd (held refl)
left_where_held mine (suc n) held = refl
