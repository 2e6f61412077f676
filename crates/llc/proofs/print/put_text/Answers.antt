use Rattle.std.specs.List.{flat_map}
use Rattle.text_out.specs.Written.{Writes}
use Rattle.text_out.proofs.Pieces.{writes_then, stopped}
use Rattle.llc.specs.Tallies.{tally_line, end_line}
use Rattle.llc.proofs.print.put_text.Goals as goal

pub returns-in_err-put_tallies-clause-lines : goal.returns-in_err-put_tallies-clause-lines
returns-in_err-put_tallies-clause-lines g c =
    let taken = g.K.Sink.taken in
    stopped (taken c.args.out.now) (taken c.put_tallies.new.out) c.from_residual.result (flat_map tally_line c.args.tallies.now) end_line c.from_residual.ensures.0 c.in_err-put_tallies.ensures.lines.err

pub returns-clause-lines : goal.returns-clause-lines
returns-clause-lines g c =
    let taken = g.K.Sink.taken in
    let last : Writes (taken c.put_tallies.new.out) (taken c.put_piece.new.out) c.put_piece.result end_line = rw c.end.ensures at c.put_piece.ensures.text in
    writes_then (taken c.args.out.now) (taken c.put_tallies.new.out) (taken c.put_piece.new.out) c.put_piece.result (flat_map tally_line c.args.tallies.now) end_line c.in_ok-put_tallies.ensures.lines.ok last
