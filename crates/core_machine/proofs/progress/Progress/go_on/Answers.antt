use Rattle.std.proofs.Common.{◌≡◌, ◌-◌, inl, ap, subst, arith, length, None}
use Rattle.core_machine.specs.Kept.{work_stands, weigh}
use Rattle.core_machine.specs.Meaning.{due_at}
use Rattle.core_machine.proofs.Taking.{none_due, over_of}
use Rattle.core_machine.proofs.Carrying.{line_is}
use Rattle.core_machine.proofs.progress.Progress.go_on.Goals as goal

pub carry_out-requires-clause-begun : goal.carry_out-requires-clause-begun
unfolding work_stands
carry_out-requires-clause-begun c = (subst (work_stands c.args.self.now) c.in-Line.is c.requires.sound.stands).0

pub carry_out-requires-clause-within : goal.carry_out-requires-clause-within
unfolding work_stands
carry_out-requires-clause-within c = (subst (work_stands c.args.self.now) c.in-Line.is c.requires.sound.stands).1

pub returns-in-Line-clause-goes : goal.returns-in-Line-clause-goes
returns-in-Line-clause-goes c = line_is c.args.self.now c.carry_out.new.self c.in-Line.is c.carry_out.ensures.leads

pub returns-in-Line-clause-low : goal.returns-in-Line-clause-low
returns-in-Line-clause-low c =
    let k = c.args.self.now in
    omega (arith, c.carry_out.ensures.low, ap (weigh (length k.lines - k.at)) c.in-Line.is)
