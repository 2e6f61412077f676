use Rattle.std.proofs.Common.{◌≤◌, length, drop}
use Rattle.text_in.specs.Classes.{is_of}
use Rattle.text_in.proofs.Places.{NonePass}
use Rattle.text_in.proofs.class.Class.up_to_last.Given as goal

abbrev pub invariant-loop-len : goal.invariant-loop-len
invariant-loop-len l = record {
  none : NonePass (is_of l.self) (drop l.len l.text);
  within : l.len ≤ length l.text;
}

abbrev pub decreases-loop-len : goal.decreases-loop-len
decreases-loop-len l = l.len
