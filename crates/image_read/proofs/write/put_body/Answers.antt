use Rattle.std.proofs.Common.{◌++◌, length, arith}
use Rattle.std.specs.List.{flat_map}
use Rattle.dram_map.specs.Addresses.{dram_start}
use Rattle.text_out.proofs.Pieces.{stopped_first, stopped_second, writes_third}
use Rattle.image_read.specs.Image.{head_text, start_text, segment_text}
use Rattle.image_read.proofs.Short.{most_in_all, all_short}
use Rattle.image_read.proofs.Tallies.{covers_then, told_then}
use Rattle.image_read.proofs.write.put_body.Goals as goal

pub put_segments-requires : goal.put_segments-requires
put_segments-requires g c =
    let image = c.args.image.now in
    rw c.as_slice-2.ensures (all_short image.config image.segments dram_start (most_in_all image.config c.requires.shape) (omega arith) c.requires.segments)

pub returns-in_err-put_and_tell-clause-text : goal.returns-in_err-put_and_tell-clause-text
returns-in_err-put_and_tell-clause-text g c =
    let taken = g.K.Sink.taken in
    let image = c.args.image.now in
    stopped_first (taken c.args.out.now) (taken c.put_and_tell.new.out) c.from_residual.result (head_text c.args.version image.config (length image.segments)) (flat_map start_text image.starts) (flat_map segment_text image.segments)
    c.from_residual.ensures.0 (rw (c.head_of-head.ensures, c.len.ensures) at c.in_err-put_and_tell.ensures.text.err)

pub returns-in_err-put_starts-clause-text : goal.returns-in_err-put_starts-clause-text
returns-in_err-put_starts-clause-text g c =
    let taken = g.K.Sink.taken in
    let image = c.args.image.now in
    stopped_second (taken c.args.out.now) (taken c.put_and_tell.new.out) (taken c.put_starts.new.out) c.from_residual-in_err-put_starts.result (head_text c.args.version image.config (length image.segments)) (flat_map start_text image.starts) (flat_map segment_text image.segments)
    c.from_residual-in_err-put_starts.ensures.0 (rw (c.head_of-head.ensures, c.len.ensures) at c.in_ok-put_and_tell.ensures.text.ok) (rw c.as_slice.ensures at c.in_err-put_starts.ensures.text.err)

pub returns-clause-text : goal.returns-clause-text
returns-clause-text g c =
    let taken = g.K.Sink.taken in
    let image = c.args.image.now in
    writes_third (taken c.args.out.now) (taken c.put_and_tell.new.out) (taken c.put_starts.new.out) (taken c.put_segments.new.out) c.put_segments.result (head_text c.args.version image.config (length image.segments)) (flat_map start_text image.starts) (flat_map segment_text image.segments)
    (rw (c.head_of-head.ensures, c.len.ensures) at c.in_ok-put_and_tell.ensures.text.ok) (rw c.as_slice.ensures at c.in_ok-put_starts.ensures.text.ok) (rw c.as_slice-2.ensures at c.put_segments.ensures.text)

pub returns-clause-tally : goal.returns-clause-tally
returns-clause-tally g c =
    let told = g.T.Tally.told in
    let image = c.args.image.now in
    let head = head_text c.args.version image.config (length image.segments) in
    let starts = flat_map start_text image.starts in
    let first = covers_then (told c.args.tally.now) (told c.put_and_tell.new.tally) (told c.put_starts.new.tally) head starts (rw (c.head_of-head.ensures, c.len.ensures) at c.in_ok-put_and_tell.ensures.tally) (rw c.as_slice.ensures at c.in_ok-put_starts.ensures.tally) in
    told_then (told c.args.tally.now) (told c.put_starts.new.tally) (told c.put_segments.new.tally) c.put_segments.result (head ++ starts) (flat_map segment_text image.segments) first (rw c.as_slice-2.ensures at c.put_segments.ensures.tally)
