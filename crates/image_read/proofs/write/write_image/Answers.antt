use Rattle.std.proofs.Common.{sym, append-nil}
use Rattle.text_out.proofs.Pieces.{writes_as}
use Rattle.image_read.specs.Image.{body_text}
use Rattle.image_read.proofs.write.write_image.Goals as goal

pub returns-clause-ok : goal.returns-clause-ok
returns-clause-ok g c =
    let body = body_text 1 c.args.image.now in
    (writes_as (g.K.Sink.taken c.args.out.now) (g.K.Sink.taken c.put_body.new.out) c.put_body.result body _ (sym (append-nil body)) c.put_body.ensures.text).ok

pub returns-clause-err : goal.returns-clause-err
returns-clause-err g c =
    let body = body_text 1 c.args.image.now in
    (writes_as (g.K.Sink.taken c.args.out.now) (g.K.Sink.taken c.put_body.new.out) c.put_body.result body _ (sym (append-nil body)) c.put_body.ensures.text).err
