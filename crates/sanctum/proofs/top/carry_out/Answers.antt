use Rattle.sanctum.specs.Outputs.{text_of}
use Rattle.sanctum.specs.Faults.{fault_line}
use Rattle.sanctum.specs.declared.status.Status.TheVariants as answers
use Rattle.sanctum.proofs.top.carry_out.Goals as goal

pub returns-in-Ok-clause-ends : goal.returns-in-Ok-clause-ends
returns-in-Ok-clause-ends g c = record { intended = answers.Ok; text = text_of c.in-Ok.output; may = c.in-Ok.ensures.answers; printed = c.print.ensures.prints }

pub returns-in-Err-clause-ends : goal.returns-in-Err-clause-ends
returns-in-Err-clause-ends g c = record { intended = c.in-Err.refusal; text = fault_line c.in-Err.refusal; may = c.in-Err.ensures.answers.1; printed = c.refuse.ensures.prints }
