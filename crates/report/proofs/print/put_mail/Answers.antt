use Rattle.std.proofs.Common.{ℕ, List, get_or, sym, subst, arith}
use Rattle.mon_types.specs.declared.enclave.Mailbox.TheVariants as mailboxes
use Rattle.report.specs.Tables.{mailbox_line}
use Rattle.text_out.specs.Written.{Writes}
use Rattle.text_out.proofs.Pieces.{writes_then}
use Rattle.report.proofs.Pieces.{numbered_two}
use Rattle.report.proofs.print.put_mail.Goals as goal

pub returns-clause-lines : goal.returns-clause-lines
returns-clause-lines g c =
    let taken = g.K.Sink.taken in
    let line = mailbox_line c.args.e in
    let mail = c.args.mail.now in
    subst (λ (t : List ℕ). Writes (taken c.args.out.now) (taken c.put_line-2.new.out) c.put_line-2.result t) (sym (numbered_two line mail mailboxes.Closed mailboxes.Closed (omega arith)))
    (writes_then (taken c.args.out.now) (taken c.put_line.new.out) (taken c.put_line-2.new.out) c.put_line-2.result (line 0 (get_or mail 0 mailboxes.Closed)) (line 1 (get_or mail 1 mailboxes.Closed))
    (rw c.line_of_mailbox.ensures at c.in_ok-put_line.ensures.text.ok) (rw c.line_of_mailbox-2.ensures at c.put_line-2.ensures.text))
