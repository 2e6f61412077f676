use Rattle.std.proofs.Common.{◌≡◌, ◌≤◌, ◌-◌, ℕ, List, vec_len}
use Rattle.sm_ports.specs.Contents.{IsPrefix}
use Rattle.sm_ports.proofs.whole.read_file.Given as goal

abbrev pub invariant-loop-depot : goal.invariant-loop-depot
invariant-loop-depot g l =
    record {
      prefix : IsPrefix (g.D.Depot.contents l.fn.depot l.name) l.bytes.items;
      within : vec_len l.bytes ≤ l.limit;
      contents : g.D.Depot.contents l.depot ≡ g.D.Depot.contents l.fn.depot;
      later : (other : List ℕ) → g.D.Depot.faults l.fn.depot other ≤ g.D.Depot.faults l.depot other;
    }

abbrev pub decreases-loop-depot : goal.decreases-loop-depot
decreases-loop-depot g l = l.limit - vec_len l.bytes
