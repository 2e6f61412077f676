use Rattle.std.proofs.Common.{◌≡◌, ℕ, ◌+◌, ap, ◌∙◌}
use Rattle.script_read.specs.Cores.{core_count}
use Rattle.script_read.proofs.Drafting.{count_given, count_named, finished}
use Rattle.script_read.proofs.draft.Draft.finish.Goals as goal
use Rattle.script_read.proofs.draft.Draft.finish.Goals.{in-Some, in-None}

pub returns : goal.returns
returns c = λ said k.
    let some : c.match-cores.count ≡ core_count c.args.cores said = elim c.match-cores.branch [
      | in-Some w ↦ w.count-is ∙ w.from-count.ensures ∙ count_given c.args.cores w.in-Some.count said w.in-Some.is
      | in-None w ↦ w.count-is ∙ ap (λ (n : ℕ). n + 1) w.from.ensures ∙ count_named c.args.cores c.args.self.top said w.in-None.is k.top
    ] in
    c.from_vec.ensures ∙ c.truncate.ensures.items ∙ finished c.args.cores said c.args.self c.match-cores.count k some
