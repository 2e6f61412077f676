use Rattle.std.proofs.Common.{ℕ, sym, subst}
use Rattle.script_read.specs.Cores.{core_count}
use Rattle.script_read.specs.Answers.{AreFew}
use Rattle.script_read.specs.Drafts.{Keeps}
use Rattle.script_read.proofs.ScriptLaws.{few_lists}
use Rattle.script_read.proofs.script.parse.Goals as goal

pub returns-clause-few : goal.returns-clause-few
returns-clause-few c =
    let d = c.in_ok-draft.ensures in
    let k = subst (λ (n : ℕ). Keeps n d.0 c.in_ok-draft.draft) c.unwrap_or.ensures d.2 in
    subst AreFew (sym (c.finish.ensures d.0 k)) (few_lists (core_count c.args.cores d.0) d.0 d.3)
