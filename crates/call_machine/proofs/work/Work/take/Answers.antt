use Rattle.std.proofs.Common.{subst}
use Rattle.call_machine.specs.Meaning.{phase_tree, IsOutcome}
use Rattle.call_machine.specs.Stands.{phase_stands}
use Rattle.call_machine.proofs.work.Work.take.Goals as goal

pub lock_tried-requires-clause-trying : goal.lock_tried-requires-clause-trying
unfolding phase_stands
lock_tried-requires-clause-trying c = subst (phase_stands c.args.self.now) c.in-Tries.is c.requires.stands

pub word_read-requires : goal.word_read-requires
unfolding phase_stands
word_read-requires c = subst (phase_stands c.args.self.now) c.in-Reads.is c.requires.stands

pub pte_loaded-requires : goal.pte_loaded-requires
unfolding phase_stands
pte_loaded-requires c = subst (phase_stands c.args.self.now) c.in-Walks.is c.requires.stands

pub word_loaded-requires-clause-copying : goal.word_loaded-requires-clause-copying
unfolding phase_stands
word_loaded-requires-clause-copying c = (subst (phase_stands c.args.self.now) c.in-Loads.is c.requires.stands).0

pub word_loaded-requires-clause-at : goal.word_loaded-requires-clause-at
unfolding phase_stands
word_loaded-requires-clause-at c = (subst (phase_stands c.args.self.now) c.in-Loads.is c.requires.stands).1

pub word_stored-requires-clause-copying : goal.word_stored-requires-clause-copying
unfolding phase_stands
word_stored-requires-clause-copying c = (subst (phase_stands c.args.self.now) c.in-Stores.is c.requires.stands).0

pub word_stored-requires-clause-at : goal.word_stored-requires-clause-at
unfolding phase_stands
word_stored-requires-clause-at c = (subst (phase_stands c.args.self.now) c.in-Stores.is c.requires.stands).1

pub pte_put-requires : goal.pte_put-requires
unfolding phase_stands
pte_put-requires c = subst (phase_stands c.args.self.now) c.in-Puts.is c.requires.stands

pub refused-requires-clause-refused : goal.refused-requires-clause-refused
unfolding phase_stands
refused-requires-clause-refused c = subst (phase_stands c.args.self.now) c.in-Refuses.is c.requires.stands

pub drawn-requires-clause-decided : goal.drawn-requires-clause-decided
unfolding phase_stands
drawn-requires-clause-decided c = subst (phase_stands c.args.self.now) c.in-Draws.is c.requires.stands

pub unreachable-requires : goal.unreachable-requires
unfolding phase_tree
unreachable-requires c = subst (λ p. IsOutcome (phase_tree c.args.self.now p) c.args.outcome.now) c.in-Over.is c.requires.outcome
