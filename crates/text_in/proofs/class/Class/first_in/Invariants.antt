use Rattle.std.proofs.Common.{take}
use Rattle.text_in.specs.Classes.{is_of}
use Rattle.text_in.proofs.Places.{NonePass}
use Rattle.text_in.proofs.class.Class.first_in.Given as goal

abbrev pub invariant-loop-i : goal.invariant-loop-i
invariant-loop-i l = NonePass (is_of l.self) (take l.i l.text)
