use Rattle.std.proofs.Common.{◌≤◌, drop}
use Rattle.report.specs.Tables.{core_lines}
use Rattle.std.specs.Io.KnownBytes.{Appends}
use Rattle.text_out.proofs.Pieces.{Begun}
use Rattle.report.proofs.whole.put_cores.Given as goal

abbrev pub invariant-loop-c : goal.invariant-loop-c
invariant-loop-c g l = record {
  lines : Begun (Appends (g.K.Sink.taken l.fn.out) (g.K.Sink.taken l.out)) (core_lines l.c (drop l.c l.modes) (drop l.c l.flushed)) (core_lines 0 l.modes l.flushed);
  later : g.K.Sink.faults l.fn.out ≤ g.K.Sink.faults l.out;
}
