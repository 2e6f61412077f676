use Rattle.std.proofs.Common.{◌≡◌, ◌≤◌, ◌+◌, ◌*◌, ◌++◌, length}
use Rattle.report.specs.Objects.{members_text}
use Rattle.report.proofs.objects.add_members.Given as goal

abbrev pub invariant-loop-i : goal.invariant-loop-i
invariant-loop-i l = record {
  text : l.line ≡ l.fn.line ++ members_text l.letter l.set l.i;
  len : length l.line ≤ length l.fn.line + 4 * l.i;
}
