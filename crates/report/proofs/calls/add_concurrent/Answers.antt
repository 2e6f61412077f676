use Rattle.std.proofs.Common.{codes}
use Rattle.report.specs.Objects.{object_text}
use Rattle.text_out.specs.Texts.{spaced}
use Rattle.report.specs.Calls.{concurrent_text}
use Rattle.report.proofs.Joined.{joined_four}
use Rattle.report.proofs.calls.add_concurrent.Goals as goal

pub returns-clause-text : goal.returns-clause-text
unfolding concurrent_text
returns-clause-text c =
    let e = joined_four c.args.line.now (codes "concurrent ") (object_text c.args.lock) (spaced c.args.holder) (spaced c.args.serial) in cc
