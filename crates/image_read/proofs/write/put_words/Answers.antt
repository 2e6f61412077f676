use Rattle.std.proofs.Common.{ap, ◌∙◌, arith, rules}
use Rattle.std.proofs.lemmas.Grind.{flat_map-append}
use Rattle.std.proofs.lemmas.List.{nil_from_length}
use Rattle.std.specs.Slice.Iter.{chunks_rest}
use Rattle.std.specs.Int.{w64, to_le_bytes}
use Rattle.text_out.proofs.Pieces.{begun, begun_by, goes_on, goes_on_by, cut_off, ended, ended_by}
use Rattle.image_read.specs.Image.{words_text}
use Rattle.image_read.specs.Told.{Covers}
use Rattle.image_read.proofs.Tallies.{covers_nothing, covers_then}
use Rattle.image_read.proofs.write.put_words.Goals as goal

pub loop-block-init : goal.loop-block-init
loop-block-init g c =
    let told = g.T.Tally.told c.args.tally.now in
    let whole = words_text c.args.words.now in
    record {
      can = search rules;
      finite = tt;
      size = search rules;
      text = rw (c.into_iter-block-iterator.ensures.into_iter_gives, c.chunks-block-items.ensures.rest) (begun (g.K.Sink.taken c.args.out.now) whole);
      tally = rw (c.into_iter-block-iterator.ensures.into_iter_gives, c.chunks-block-items.ensures.rest) (begun_by (Covers told told) whole (covers_nothing told));
      later = omega arith;
    }

pub loop-block-preserved : goal.loop-block-preserved
loop-block-preserved g c =
    let taken = g.K.Sink.taken in
    let told = g.T.Tally.told in
    let rest = chunks_rest c.loop-block.block-iterator in
    let block = c.in-Some.block.now in
    let others = chunks_rest c.next.new.self in
    let whole = words_text c.args.words.now in
    let parts = ap words_text c.in-Some.ensures.steps.1.0 ∙ flat_map-append (to_le_bytes w64) block others in
    let before = told c.args.tally.now in
    let now = told c.loop-block.tally in
    let after = told c.put_block.new.tally in
    record {
      can = search rules;
      finite = tt;
      size = c.in-Some.ensures.steps.0 ∙ c.loop-block.invariant.size;
      text = goes_on (taken c.args.out.now) (taken c.loop-block.out) (taken c.put_block.new.out) (words_text rest) (words_text block) (words_text others) whole parts c.loop-block.invariant.text c.in_ok-put_block.ensures.text.ok;
      tally = goes_on_by (Covers before now) (Covers before after) (words_text rest) (words_text block) (words_text others) whole parts c.loop-block.invariant.tally
          (λ prefix so_far. covers_then before now after prefix (words_text block) so_far c.in_ok-put_block.ensures.tally);
      later = omega (arith, c.loop-block.invariant.later, c.in_ok-put_block.ensures.cause.later);
    }

pub returns-in_err-put_block-clause-text : goal.returns-in_err-put_block-clause-text
returns-in_err-put_block-clause-text g c =
    let taken = g.K.Sink.taken in
    let rest = chunks_rest c.loop-block.block-iterator in
    let block = c.in-Some.block.now in
    let others = chunks_rest c.next.new.self in
    let parts = ap words_text c.in-Some.ensures.steps.1.0 ∙ flat_map-append (to_le_bytes w64) block others in
    cut_off (taken c.args.out.now) (taken c.loop-block.out) (taken c.put_block.new.out) c.from_residual.result (words_text rest) (words_text block) (words_text others) (words_text c.args.words.now)
    parts c.loop-block.invariant.text c.from_residual.ensures.0 c.in_err-put_block.ensures.text.err

pub returns-clause-text : goal.returns-clause-text
returns-clause-text g c =
    let taken = g.K.Sink.taken in
    let left = chunks_rest c.loop-block.block-iterator in
    record {
      ok = ended (taken c.args.out.now) (taken c.loop-block.out) (words_text left) (words_text c.args.words.now) (ap words_text (nil_from_length left c.in-None.ensures.steps.1.0)) c.loop-block.invariant.text;
      err = tt;
    }

pub returns-clause-tally : goal.returns-clause-tally
returns-clause-tally g c =
    let told = g.T.Tally.told in
    let left = chunks_rest c.loop-block.block-iterator in
    ended_by (Covers (told c.args.tally.now) (told c.loop-block.tally)) (words_text left) (words_text c.args.words.now) (ap words_text (nil_from_length left c.in-None.ensures.steps.1.0)) c.loop-block.invariant.tally
