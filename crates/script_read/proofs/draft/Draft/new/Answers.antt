use Rattle.std.proofs.Common.{refl}
use Rattle.script_read.proofs.Drafting.{keeps_nothing}
use Rattle.script_read.proofs.draft.Draft.new.Goals as goal

pub returns : goal.returns
returns c = keeps_nothing c.args.count _ c.requires refl refl refl c.in_ok-empty_lists.ensures
