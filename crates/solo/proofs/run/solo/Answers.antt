use Rattle.solo.specs.Given.{lines_of_core_0}
use Rattle.solo.proofs.Whole.{WholeRun, whole_run}
use Rattle.solo.proofs.run.solo.Goals as goal

pub returns : goal.returns
returns c =
    let image = c.args.image.now in
    let cores = c.args.script.cores in
    let whole : WholeRun image (lines_of_core_0 cores) c.finish.result =
    whole_run image (lines_of_core_0 cores) c.lines_of.result.now c.in_ok-machine.machine c.run.new.self c.finish.result c.requires.image.one
    c.lines_of.ensures c.in_ok-machine.ensures c.run.ensures c.finish.ensures.left c.finish.ensures.sound in
    record {
      run = whole.run;
      legal = whole.legal;
      tables = whole.tables;
      cores = whole.cores;
    }
