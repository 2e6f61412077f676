use Rattle.report.specs.Objects.{numbered}
use Rattle.report.specs.Tables.{enclave_line, mailbox_line}
use Rattle.text_out.proofs.Pieces.{writes_then}
use Rattle.report.proofs.print.put_enclave.Goals as goal

pub returns-clause-lines : goal.returns-clause-lines
returns-clause-lines g c =
    let taken = g.K.Sink.taken in
    writes_then (taken c.args.out.now) (taken c.put_line.new.out) (taken c.put_mail.new.out) c.put_mail.result (enclave_line c.args.e c.args.enclave.now) (numbered (mailbox_line c.args.e) 0 c.args.enclave.now.mail)
    (rw c.line_of_enclave.ensures at c.in_ok-put_line.ensures.text.ok) c.put_mail.ensures.lines
