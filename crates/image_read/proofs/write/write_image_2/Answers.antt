use Rattle.std.proofs.Common.{[]}
use Rattle.sha2.specs.Sha256.{sha256}
use Rattle.text_out.proofs.Pieces.{stopped, writes_then}
use Rattle.image_read.specs.Image.{body_text}
use Rattle.image_read.proofs.write.write_image_2.Goals as goal

pub returns-clause-ok : goal.returns-clause-ok
returns-clause-ok g c =
    let taken = g.K.Sink.taken in
    let body = body_text 2 c.args.image.now in
    let digest = c.finalize.ensures body (c.in_ok-put_body.ensures.tally [] c.new-hasher.ensures) in
    (writes_then (taken c.args.out.now) (taken c.put_body.new.out) (taken c.put_piece.new.out) c.put_piece.result body (sha256 body) c.in_ok-put_body.ensures.text.ok (rw digest at c.put_piece.ensures.text)).ok

pub returns-clause-err : goal.returns-clause-err
returns-clause-err g c =
    let taken = g.K.Sink.taken in
    let body = body_text 2 c.args.image.now in
    let digest = c.finalize.ensures body (c.in_ok-put_body.ensures.tally [] c.new-hasher.ensures) in
    (writes_then (taken c.args.out.now) (taken c.put_body.new.out) (taken c.put_piece.new.out) c.put_piece.result body (sha256 body) c.in_ok-put_body.ensures.text.ok (rw digest at c.put_piece.ensures.text)).err

pub returns-in_err-put_body-clause-err : goal.returns-in_err-put_body-clause-err
returns-in_err-put_body-clause-err g c =
    let body = body_text 2 c.args.image.now in
    (stopped (g.K.Sink.taken c.args.out.now) (g.K.Sink.taken c.put_body.new.out) c.from_residual.result body (sha256 body) c.from_residual.ensures.0 c.in_err-put_body.ensures.text.err).err
