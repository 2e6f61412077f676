-- A tally that is told a text piece by piece.
use Rattle.std.proofs.Common.{ℕ, List, [], ◌++◌, Result, Ok, Err, OnOk, sym, subst, append_assoc, append-nil}
use Rattle.image_read.specs.Told.{Covers}

pub covers_nothing : (told : List ℕ → Type 0) → Covers told told []
covers_nothing told m before = subst told (sym (append-nil m)) before

pub covers_then : (h k l : List ℕ → Type 0) (x y : List ℕ) → Covers h k x → Covers k l y → Covers h l (x ++ y)
covers_then h k l x y first next m before = subst l (append_assoc m x y) (next (m ++ x) (first m before))

-- one text was told, and then another by a call that may fail
pub told_then : {T E : Type 0} (h k l : List ℕ → Type 0) (r : Result T E) (x y : List ℕ) → Covers h k x → OnOk r (Covers k l y) → OnOk r (Covers h l (x ++ y))
told_then h k l (Ok v) x y first next = covers_then h k l x y first next
told_then h k l (Err e) x y first next = tt
