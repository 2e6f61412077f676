use Rattle.std.proofs.Common.{arith}
use Rattle.core_machine.proofs.Adding.{few_words, count_drawn, count_loaded, count_none}
use Rattle.core_machine.proofs.own.Own.count.Goals as goal

pub overflow_add-self-in-Load : goal.overflow_add-self-in-Load
overflow_add-self-in-Load c = omega (arith, c.requires.answers, c.words_in.ensures, few_words c.args.outcome.now)

pub returns-in-Draw : goal.returns-in-Draw
returns-in-Draw c = count_drawn c.args.self.now c.args.action.now c.args.outcome.now c.in-Draw.draft _ c.in-Draw.is c.mode_with-self.ensures

pub returns-in-Load : goal.returns-in-Load
returns-in-Load c = count_loaded c.args.self.now c.args.action.now c.args.outcome.now _ _ c.in-Load.is c.words_in.ensures

pub returns-in_default : goal.returns-in_default
returns-in_default c = count_none c.args.self.now c.args.action.now c.args.outcome.now c.in_default.not-Draw c.in_default.not-Load
