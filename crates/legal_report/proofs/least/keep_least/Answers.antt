use Rattle.std.proofs.Common.{◌≡◌, ℕ, suc, ◌-◌, ◌≤◌, ◌++◌, List, length, take, drop, sym, ap, subst, ◌∙◌, arith}
use Rattle.legal_report.specs.Least.{least_behind, lowered}
use Rattle.legal_report.proofs.Lowest.{lower_one, last_alone}
use Rattle.legal_report.proofs.least.keep_least.Goals as goal

pub loop-at-init : goal.loop-at-init
loop-at-init c =
    let n : ℕ = length c.args.tickets.now in
    record { done = sym (last_alone c.args.tickets.now (n - 1) (omega arith)); within = omega arith }

pub loop-at-preserved : goal.loop-at-preserved
loop-at-preserved c =
    let old : List ℕ = c.args.tickets.now in
    let j : ℕ = c.loop-at.at - 1 - 1 in
    let before : c.loop-at.at - 1 ≡ suc j = omega arith in
    let was : c.loop-at.tickets ≡ take (suc j) old ++ least_behind (drop (suc j) old) = subst (λ (n : ℕ). c.loop-at.tickets ≡ take n old ++ least_behind (drop n old)) before c.loop-at.invariant.done in
    record {
      done = c.lower.ensures ∙ ap (λ (ts : List ℕ). lowered ts j) was ∙ lower_one old j (omega (arith, c.loop-at.invariant.within));
      within = omega (arith, c.loop-at.invariant.within);
    }
