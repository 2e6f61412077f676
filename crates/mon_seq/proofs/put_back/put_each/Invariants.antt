use Rattle.std.proofs.Common.{◌≡◌, drop}
use Rattle.mon_seq.specs.Put.{put_all}
use Rattle.mon_seq.proofs.put_back.put_each.Given as goal

-- what remains leads to the same end
abbrev pub invariant-loop-i : goal.invariant-loop-i
invariant-loop-i g l = put_all l.table (drop l.i-index l.items) ≡ put_all l.initial.table l.items
