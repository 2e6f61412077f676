use Rattle.std.proofs.Common.{sym, ◌∙◌, arith}
use Rattle.std.proofs.lemmas.Result.{err_from_is_err_and}
use Rattle.image_read.specs.Reading.{starts_from}
use Rattle.image_read.proofs.ReadLoops.{start_read, start_fails, starts_read}
use Rattle.image_read.proofs.parts.starts_of.Goals as goal

pub returns-in_err-start_at-clause-starts : goal.returns-in_err-start_at-clause-starts
returns-in_err-start_at-clause-starts c =
    let p = err_from_is_err_and c.from_residual.result c.from_residual.ensures.1 in
    rw (p.1, p.2) (start_fails c.loop.starts c.args.bytes.now c.loop.at c.args.cores c.loop.counter c.in_err-start_at.field-0.0 (starts_from c.args.bytes.now 16 c.args.cores) c.loop-test.true (sym c.start_at.ensures.start ∙ c.in_err-start_at.was) c.loop.invariant.read)

pub loop-preserved : goal.loop-preserved
loop-preserved c = record {
  read = start_read c.loop.starts c.push.new.self c.args.bytes.now c.loop.at c.args.cores c.loop.counter c.in_ok-start_at.field-0 (starts_from c.args.bytes.now 16 c.args.cores) c.loop-test.true (sym c.start_at.ensures.start ∙ c.in_ok-start_at.was) c.in_ok-push.ensures.ok c.loop.invariant.read;
  place = omega (arith, c.loop.invariant.place);
  within = omega (arith, c.in_ok-start_at.ensures.within);
}

pub returns-clause-starts : goal.returns-clause-starts
returns-clause-starts c = starts_read c.loop.starts c.args.bytes.now c.loop.at c.args.cores c.loop.counter (starts_from c.args.bytes.now 16 c.args.cores) c.loop-test.false c.loop.invariant.read
