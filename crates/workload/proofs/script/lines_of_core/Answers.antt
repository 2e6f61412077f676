use Rattle.std.proofs.Common.{◌≡◌, ℕ, suc, ◌+◌, ◌-◌, ap, ◌∙◌, arith}
use Rattle.workload.proofs.Listing.{one_more, none_left}
use Rattle.workload.proofs.script.lines_of_core.Goals as goal

pub loop-preserved : goal.loop-preserved
loop-preserved c =
    let one : 1000 - c.loop.counter ≡ suc (1000 - (c.loop.counter + 1)) = omega arith in
    record {
      all = one_more _ _ _ _ (1000 - c.loop.counter) (1000 - (c.loop.counter + 1)) _ _ c.loop.invariant.all one c.next_line.ensures.state c.next_line.ensures.line c.push_reserved.ensures.items;
      room = c.push_reserved.ensures.capacity ∙ c.loop.invariant.room;
      count = c.push_reserved.ensures.len ∙ ap (λ (n : ℕ). n + 1) c.loop.invariant.count;
    }

pub returns : goal.returns
returns c =
    let none : 1000 - c.loop.counter ≡ 0 = omega arith in
    c.from_vec.ensures ∙ none_left _ _ _ _ c.loop.invariant.all none
