-- A few passes, split, joined and in the middle of a call. This project's own.
use Rattle.std.specs.Prelude.{List, [], ◌∷◌}
use Rattle.mon_types.specs.Shape.{Shape, plain}
use Rattle.protocol.specs.Passes.{Pass, Spent, Live, new_view}
use Rattle.protocol.specs.Permits.{has_lock}

-- the passes of both cores, of which core 0's counts
abbrev pub both_passes : List Pass
both_passes = Live (new_view 0) 2 [] ∷ Live (new_view 1) 0 [] ∷ []

-- three cores, and 8 regions of one page
abbrev pub three : Shape
three = plain 3

-- the passes of all three
abbrev pub three_passes : List Pass
three_passes = Live (new_view 0) 3 [] ∷ Live (new_view 1) 0 [] ∷ Live (new_view 2) 0 [] ∷ []

-- core 0's has taken in core 1's
abbrev pub after_join : List Pass
after_join = Live (new_view 0) 2 (new_view 1 ∷ []) ∷ Spent ∷ []

-- core 0 has the lock of region 1
abbrev pub after_lock : List Pass
after_lock = Live (record { core = 0; moves = has_lock }) 2 [] ∷ Live (new_view 1) 0 [] ∷ []

-- core 1 has that lock, and its call goes on
abbrev pub in_call : Pass
in_call = Live (record { core = 1; moves = has_lock }) 0 []
