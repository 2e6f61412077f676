use Rattle.std.proofs.Common.{length, arith}
use Rattle.text_in.specs.Words.{words_of}
use Rattle.report_lines.proofs.Numbers.{one_more_read, zeros_fewer, stopped, full}
use Rattle.report_lines.proofs.words.numbers_at.Goals as goal

pub returns-in_default-clause-numbers : goal.returns-in_default-clause-numbers
returns-in_default-clause-numbers c =
    (stopped (length c.args.numbers.now) c.loop-place.place c.loop-place.numbers (words_of c.loop-place.rest.now) (words_of c.args.text.now) (omega arith) (omega arith)
    c.in_default.ensures.read c.loop-place.invariant.zeros c.loop-place.invariant.read).numbers_are

pub returns-in_default-clause-count : goal.returns-in_default-clause-count
returns-in_default-clause-count c =
    (stopped (length c.args.numbers.now) c.loop-place.place c.loop-place.numbers (words_of c.loop-place.rest.now) (words_of c.args.text.now) (omega arith) (omega arith)
    c.in_default.ensures.read c.loop-place.invariant.zeros c.loop-place.invariant.read).count

pub returns-in_default-clause-rest : goal.returns-in_default-clause-rest
returns-in_default-clause-rest c =
    (stopped (length c.args.numbers.now) c.loop-place.place c.loop-place.numbers (words_of c.loop-place.rest.now) (words_of c.args.text.now) (omega arith) (omega arith)
    c.in_default.ensures.read c.loop-place.invariant.zeros c.loop-place.invariant.read).rest

pub loop-place-preserved : goal.loop-place-preserved
loop-place-preserved c = record {
  read =
      one_more_read c.loop-place.place c.in-Some.found c.loop-place.numbers (words_of c.in-Some.behind.now) (words_of c.loop-place.rest.now) (words_of c.args.text.now) (omega arith)
      c.in-Some.ensures.read c.loop-place.invariant.read;
  zeros = zeros_fewer c.loop-place.place c.in-Some.found c.loop-place.numbers (omega arith) c.loop-place.invariant.zeros;
}

pub returns-clause-numbers : goal.returns-clause-numbers
returns-clause-numbers c =
    (full (length c.args.numbers.now) c.loop-place.place c.loop-place.numbers (words_of c.loop-place.rest.now) (words_of c.args.text.now) (omega arith) (omega arith)
    c.loop-place.invariant.zeros c.loop-place.invariant.read).numbers_are

pub returns-clause-count : goal.returns-clause-count
returns-clause-count c =
    let read = full (length c.args.numbers.now) c.loop-place.place c.loop-place.numbers (words_of c.loop-place.rest.now) (words_of c.args.text.now) (omega arith) (omega arith) c.loop-place.invariant.zeros c.loop-place.invariant.read in
    omega (arith, read.count)

pub returns-clause-rest : goal.returns-clause-rest
returns-clause-rest c =
    (full (length c.args.numbers.now) c.loop-place.place c.loop-place.numbers (words_of c.loop-place.rest.now) (words_of c.args.text.now) (omega arith) (omega arith)
    c.loop-place.invariant.zeros c.loop-place.invariant.read).rest
