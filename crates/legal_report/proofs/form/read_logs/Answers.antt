use Rattle.std.proofs.Common.{arith}
use Rattle.report_lines.specs.Lines.{ended_lines}
use Rattle.legal_report.specs.Laid.{logs_at}
use Rattle.legal_report.proofs.Walk.{no_log_met, log_added, logs_done, one_more_laid}
use Rattle.legal_report.proofs.form.read_logs.Goals as goal

pub returns-in_default-clause-fails : goal.returns-in_default-clause-fails
returns-in_default-clause-fails c =
    no_log_met c.args.config.now c.args.config.now.cores c.loop-core.core c.loop-core.line (logs_at c.args.config.now c.loop-core.logs.items) (ended_lines c.loop-core.rest.now) _ (omega arith) c.in_default.ensures.none c.loop-core.invariant.read

pub loop-core-preserved : goal.loop-core-preserved
loop-core-preserved c = record {
  read =
      log_added c.args.config.now c.args.config.now.cores c.loop-core.core c.loop-core.line c.skip_events-count.result.0 c.loop-core.logs.items c.push.new.self.items c.in-Some.behind (ended_lines c.loop-core.rest.now) (ended_lines c.skip_events-count.result.1.now) _ (omega arith)
      c.in_ok-push.ensures.items c.in-Some.ensures.begun c.skip_events-count.ensures.count c.skip_events-count.ensures.rest c.loop-core.invariant.read;
  size = omega (arith, c.loop-core.invariant.size, c.skip_events-count.ensures.size, c.in-Some.ensures.shorter);
  laid = one_more_laid c.loop-core.core c.loop-core.logs.items c.push.new.self.items c.in-Some.behind c.in_ok-push.ensures.items (omega (arith, c.loop-core.invariant.fewer, c.in-Some.ensures.shorter, c.requires.size)) c.loop-core.invariant.laid;
  fewer = omega (arith, c.loop-core.invariant.fewer, c.skip_events-count.ensures.size, c.in-Some.ensures.shorter);
}

pub returns-clause-logs : goal.returns-clause-logs
returns-clause-logs c =
    logs_done c.args.config.now c.args.config.now.cores c.loop-core.core c.loop-core.line (logs_at c.args.config.now c.loop-core.logs.items) (ended_lines c.loop-core.rest.now) _ (omega arith) c.loop-core.invariant.read
