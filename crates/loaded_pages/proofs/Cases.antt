-- Cases that do not come, and what is under Some.
use Rattle.std.proofs.Common.{◌≡◌, true, false, Some, None}

pub clash : {X : Type 0} → false ≡ true → X
clash e = absurd (cc)

pub none_some : {X Y : Type 0} {x : X} → None ≡ Some x → Y
none_some e = absurd (cc)

pub some_same : {X : Type 0} {x y : X} → Some x ≡ Some y → x ≡ y
some_same e = cc
