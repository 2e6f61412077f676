use Rattle.std.proofs.Common.{[]}
use Rattle.lab.proofs.lab.Lab.new.Goals as goal

pub invariant_of-result : goal.invariant_of-result
invariant_of-result c =
    let r = c.requires in
    record { image = r.image; script = r.script; run = []; stands = c.in_ok-bench.ensures.stands r.image r.script r.made }
