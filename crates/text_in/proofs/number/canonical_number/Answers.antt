use Rattle.std.proofs.Common.{arith}
use Rattle.text_in.proofs.Numbers.{canonical_found, canonical_only}
use Rattle.text_in.proofs.number.canonical_number.Goals as goal

pub returns-clause-found : goal.returns-clause-found
returns-clause-found c = canonical_found c.args.most c.args.word.now c.without_leading_zero.result (omega arith) c.without_leading_zero.ensures.value

pub returns-clause-only : goal.returns-clause-only
returns-clause-only c = canonical_only c.args.most c.args.word.now c.without_leading_zero.result (omega arith) c.without_leading_zero.ensures.value
