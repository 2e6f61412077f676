use Rattle.std.proofs.Common.{◌∙◌, unwrap_or, ap}
use Rattle.protocol.specs.Moves.{place_of, word_found}
use Rattle.protocol.specs.Runs.{moves_of, memory_after}
use Rattle.core_behaviour.specs.Runs.{course_of, start_words}
use Rattle.lab.proofs.Fair.{is_low, can_be_made}
use Rattle.lab.proofs.Growing.{events_fit, answers_fit}
use Rattle.lab.proofs.Making.{takes_move, move_goes}
use Rattle.lab.proofs.lab_core.LabCore.make.Goals as goal

pub perform-outcome-requires-clause-core : goal.perform-outcome-requires-clause-core
perform-outcome-requires-clause-core c =
    let can = c.requires.can in
    is_low can.image can.script c.args.number can.run _ _ can.goes c.args.action.now can.first

pub perform-outcome-requires-clause-possible : goal.perform-outcome-requires-clause-possible
perform-outcome-requires-clause-possible c =
    let can = c.requires.can in
    can_be_made can.image can.script c.args.number can.run _ _ can.goes c.args.action.now can.first

pub took-requires : goal.took-requires
took-requires c =
    let can = c.requires.can in
    let memory = memory_after can.image.config (start_words can.image) can.run in
    (c.args.action.now, word_found memory (place_of c.args.action.now), c.requires.due, c.perform-outcome.ensures.outcome memory can.goes.listed.holds)

pub add-requires-clause-outcome : goal.add-requires-clause-outcome
add-requires-clause-outcome c =
    let can = c.requires.can in
    let memory = memory_after can.image.config (start_words can.image) can.run in
    (word_found memory (place_of c.args.action.now), c.perform-outcome.ensures.outcome memory can.goes.listed.holds)

pub add-requires-clause-events : goal.add-requires-clause-events
add-requires-clause-events c =
    let can = c.requires.can in
    let f = takes_move _ _ (course_of can.image can.script c.args.number) (moves_of c.args.number can.run) c.args.action.now _ c.took.ensures.follows can.goes.own.follows can.first in
    events_fit can.image can.script c.args.number (moves_of c.args.number can.run) c.args.self.now _ c.args.action.now _ can.goes.own (c.took.ensures.number ∙ can.goes.own.number) f c.took.ensures.budget

pub add-requires-clause-answers : goal.add-requires-clause-answers
add-requires-clause-answers c =
    let can = c.requires.can in
    let f = takes_move _ _ (course_of can.image can.script c.args.number) (moves_of c.args.number can.run) c.args.action.now _ c.took.ensures.follows can.goes.own.follows can.first in
    answers_fit can.image can.script c.args.number (moves_of c.args.number can.run) c.args.self.now _ c.args.action.now _ can.goes.own (c.took.ensures.number ∙ can.goes.own.number) f c.took.ensures.budget

pub returns-clause-makes : goal.returns-clause-makes
returns-clause-makes c = λ image script run g first.
    move_goes image script c.args.number run c.args.self.now _ _ _ _ _ c.args.action.now _ g first
    c.requires.due c.requires.fresh c.requires.goes (c.unwrap_or-serial.ensures ∙ ap (λ n. unwrap_or n 0) c.calling.ensures) c.perform-outcome.ensures.outcome c.perform-outcome.ensures.words c.perform-outcome.ensures.machine
    c.took.ensures.number c.took.ensures.follows c.add.ensures
