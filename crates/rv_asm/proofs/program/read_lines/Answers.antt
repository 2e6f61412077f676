use Rattle.std.proofs.Common.{◌≡◌, ◌+◌, length, sym, ◌∙◌, arith, rules}
use Rattle.std.proofs.lemmas.Bool.{eqb-true}
use Rattle.rv_asm.specs.Parts.{spots_in}
use Rattle.rv_asm.proofs.Words.{line_without, line_with, line_fails, all_read, as_many_pushed}
use Rattle.rv_asm.proofs.program.read_lines.Goals as goal

pub returns-in-Err-clause-exact : goal.returns-in-Err-clause-exact
returns-in-Err-clause-exact c =
    let n : c.len.result ≡ length c.loop-rest.words.items = search rules in
    line_fails c.args.limit (spots_in c.args.labels.now) (c.loop-rest.number + 1) c.loop-rest.words.items c.loop-rest.rest.now c.next_line.result.0.now c.next_line.result.1.now c.in-Err.kind _ c.next_line.ensures.lines (cc) c.loop-rest.invariant.so_far

pub loop-rest-preserved-in-Ok-None : goal.loop-rest-preserved-in-Ok-None
loop-rest-preserved-in-Ok-None c =
    let n : c.len.result ≡ length c.loop-rest.words.items = search rules in
    record {
      so_far = line_without c.args.limit (spots_in c.args.labels.now) (c.loop-rest.number + 1) c.loop-rest.words.items c.loop-rest.rest.now c.next_line.result.0.now c.next_line.result.1.now _ c.next_line.ensures.lines (cc) c.loop-rest.invariant.so_far;
      few = c.loop-rest.invariant.few;
      lines = omega arith;
    }

pub loop-rest-preserved : goal.loop-rest-preserved
loop-rest-preserved c =
    let n : c.len.result ≡ length c.loop-rest.words.items = search rules in
    let more = as_many_pushed c.in-Ok-Some.statement c.loop-rest.words.items c.push_words.new.words.items c.in_ok-push_words-in-Ok-Some.ensures in
    let fits = rw c.in-Ok-Some.field-0-is at c.in-Ok-Some.ensures.fits in
    record {
      so_far = line_with c.args.limit (spots_in c.args.labels.now) (c.loop-rest.number + 1) c.loop-rest.words.items c.push_words.new.words.items c.loop-rest.rest.now c.next_line.result.0.now c.next_line.result.1.now c.in-Ok-Some.statement _ c.next_line.ensures.lines (cc) c.in_ok-push_words-in-Ok-Some.ensures c.loop-rest.invariant.so_far;
      few = omega (arith, more, fits.1);
      lines = omega arith;
    }

pub returns-clause-exact : goal.returns-clause-exact
returns-clause-exact c = all_read c.args.limit (spots_in c.args.labels.now) (c.loop-rest.number + 1) c.loop-rest.words.items c.loop-rest.rest.now _ (eqb-true _ _ (sym c.is_empty.ensures ∙ c.loop-rest-test.false)) c.loop-rest.invariant.so_far
