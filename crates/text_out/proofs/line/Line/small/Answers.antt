use Rattle.std.proofs.Common.{◌≤◌, length, ap, arith}
use Rattle.std.specs.Fmt.{decimal}
use Rattle.std.proofs.lemmas.Fmt.{length-decimal-le}
use Rattle.text_out.proofs.line.Line.small.Goals as goal

pub text-requires : goal.text-requires
text-requires c =
    let short : length (decimal c.args.n) ≤ 2 = length-decimal-le 2 c.args.n (omega arith) c.requires.small (omega arith) in
    omega (arith, ap length c.format.ensures.text)

pub returns-clause-len : goal.returns-clause-len
returns-clause-len c =
    let short : length (decimal c.args.n) ≤ 2 = length-decimal-le 2 c.args.n (omega arith) c.requires.small (omega arith) in
    omega (arith, ap length c.format.ensures.text)
