use Rattle.report_check.proofs.Judged.{file_answer}
use Rattle.report_check.proofs.file.check.Goals as goal

pub returns-in-Ok-clause-verdict : goal.returns-in-Ok-clause-verdict
returns-in-Ok-clause-verdict g c =
    file_answer (g.D.Depot.contents c.args.depot.now c.args.name.now) c.in-Ok.bytes.items _ c.in-Ok.ensures.bytes (rw (← c.deref.ensures.value) c.judge.ensures.verdict)

pub returns-in-Ok-clause-read : goal.returns-in-Ok-clause-read
returns-in-Ok-clause-read g c = λ failed is. absurd (c.judge.ensures.read failed is)
