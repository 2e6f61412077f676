use Rattle.std.proofs.Common.{ℕ, List, Option, sym, ap, length, arith, ◌∙◌, ◌<◌}
use Rattle.std.specs.Option.{option_map}
use Rattle.std.proofs.lemmas.List.{length-set}
use Rattle.script_read.specs.Reading.{with_zeros}
use Rattle.script_read.proofs.Arguments.{argument_read, argument_fails, zeros_fewer, all_arguments_read}
use Rattle.script_read.proofs.line.read_arguments.Goals as goal

pub returns-in_err-args : goal.returns-in_err-args
returns-in_err-args c = rw c.from_residual.ensures (ap (λ (o : Option (List ℕ)). option_map (with_zeros 7) o)
    (argument_fails c.args.form c.loop-word.place _ c.in-Some.word.now _ _ _ c.in-Some.ensures.0 (sym c.read_argument.ensures ∙ c.in_err-args.was) c.loop-word.invariant.read))

pub loop-word-preserved : goal.loop-word-preserved
loop-word-preserved c =
    let there : c.loop-word.place < length c.loop-word.args = omega (arith, c.requires, c.loop-word.invariant.words, c.loop-word.invariant.size, ap length c.in-Some.ensures.0) in record {
      read = argument_read c.args.form c.loop-word.place c.in_ok-args.field-0 c.loop-word.args c.in-Some.word.now _ _ _ there c.in-Some.ensures.0 (sym c.read_argument.ensures ∙ c.in_ok-args.was) c.loop-word.invariant.read;
      words = omega (arith, c.loop-word.invariant.words, ap length c.in-Some.ensures.0);
      zeros = zeros_fewer c.loop-word.place c.in_ok-args.field-0 c.loop-word.args there c.loop-word.invariant.size c.loop-word.invariant.zeros;
      size = length-set c.loop-word.args c.loop-word.place c.in_ok-args.field-0 ∙ c.loop-word.invariant.size;
    }

pub returns : goal.returns
returns c = all_arguments_read c.args.form c.loop-word.place _ c.loop-word.args _ _ c.in_default.ensures c.loop-word.invariant.words c.requires c.loop-word.invariant.size c.loop-word.invariant.zeros c.loop-word.invariant.read
