use Rattle.text_out.proofs.Pieces.{stopped, writes_then}
use Rattle.image_read.specs.Image.{segment_head, words_text}
use Rattle.image_read.proofs.Tallies.{told_then}
use Rattle.image_read.proofs.write.put_segment.Goals as goal

pub returns-in_err-put_and_tell-clause-text : goal.returns-in_err-put_and_tell-clause-text
returns-in_err-put_and_tell-clause-text g c =
    let taken = g.K.Sink.taken in
    let s = c.args.segment.now in
    stopped (taken c.args.out.now) (taken c.put_and_tell.new.out) c.from_residual.result (segment_head s) (words_text s.words)
    c.from_residual.ensures.0 (rw c.head_of_segment.ensures at c.in_err-put_and_tell.ensures.text.err)

pub returns-clause-text : goal.returns-clause-text
returns-clause-text g c =
    let taken = g.K.Sink.taken in
    let s = c.args.segment.now in
    writes_then (taken c.args.out.now) (taken c.put_and_tell.new.out) (taken c.put_words.new.out) c.put_words.result (segment_head s) (words_text s.words)
    (rw c.head_of_segment.ensures at c.in_ok-put_and_tell.ensures.text.ok) (rw c.as_slice.ensures at c.put_words.ensures.text)

pub returns-clause-tally : goal.returns-clause-tally
returns-clause-tally g c =
    let told = g.T.Tally.told in
    let s = c.args.segment.now in
    told_then (told c.args.tally.now) (told c.put_and_tell.new.tally) (told c.put_words.new.tally) c.put_words.result (segment_head s) (words_text s.words)
    (rw c.head_of_segment.ensures at c.in_ok-put_and_tell.ensures.tally) (rw c.as_slice.ensures at c.put_words.ensures.tally)
