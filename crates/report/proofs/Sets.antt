-- The members of a set, one more at a time.
use Rattle.std.proofs.Common.{◌≡◌, ℕ, ◌+◌, List, ◌++◌, refl, sym, ap, ◌∙◌, append_assoc, append-nil, add-one}
use Rattle.std.proofs.lemmas.Grind.{flat_map-append}
use Rattle.std.specs.List.{flat_map}
use Rattle.mon_types.specs.Bits.{member, members}
use Rattle.report.specs.Objects.{lettered, members_text}

members-more : (set i : ℕ) → members set (i + 1) ≡ members set i ++ member set i
unfolding members
members-more set i = rw add-one refl

pub members_begun : (base letter : List ℕ) (set : ℕ) → base ≡ base ++ members_text letter set 0
unfolding members
members_begun base letter set = sym (append-nil base)

-- a line that grew by the next number, where it is a member
pub members_grow : (base letter old new : List ℕ) (set i : ℕ) → old ≡ base ++ members_text letter set i → new ≡ old ++ flat_map (lettered letter) (member set i) → new ≡ base ++ members_text letter set (i + 1)
members_grow base letter old new set i before grown =
    grown ∙ ap (λ line. line ++ flat_map (lettered letter) (member set i)) before ∙ append_assoc base (members_text letter set i) (flat_map (lettered letter) (member set i))
    ∙ ap (λ text. base ++ text) (sym (ap (flat_map (lettered letter)) (members-more set i) ∙ flat_map-append (lettered letter) (members set i) (member set i)))
