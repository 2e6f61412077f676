use Rattle.std.proofs.Common.{◌≡◌, ℕ, ◌<◌, ◌≤◌, length, get_or}
use Rattle.hist.specs.Walk.{flag_of}
use Rattle.legal_report.specs.declared.marks.Marks.{Marks}
use Rattle.legal_report.specs.Marks.{IsNoted}
use Rattle.legal_report.proofs.marks.note_all.Given as goal

abbrev pub invariant-loop-region : goal.invariant-loop-region
invariant-loop-region l = record {
  noted : (r : ℕ) (d : Marks) → r < l.region → IsNoted r (flag_of l.initialized) l.ticket l.entry (get_or l.fn.marks.items r d) (get_or l.marks.items r d);
  others : (r : ℕ) (d : Marks) → l.region ≤ r → get_or l.marks.items r d ≡ get_or l.fn.marks.items r d;
  count : length l.marks.items ≡ length l.fn.marks.items;
}
