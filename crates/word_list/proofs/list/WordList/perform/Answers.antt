use Rattle.std.proofs.Common.{◌∙◌, ◌<◌, ◌^◌, sym, ap, subst, arith}
use Rattle.mon_types.specs.Locks.{lock_word}
use Rattle.protocol.specs.Moves.{outcome_of, memory_after_move}
use Rattle.word_list.specs.Listed.{Listed, StandsFor, CanBeMade}
use Rattle.word_list.specs.Finds.{Finds}
use Rattle.word_list.specs.Pieces.{joined}
use Rattle.word_list.proofs.Made.{whole_list, low_there, may_find, own_word_is, list_made, memory_finds, memory_made, kept_made, leaves_all, done_there}
use Rattle.word_list.proofs.list.WordList.perform.Goals as goal

pub word-found-requires : goal.word-found-requires
word-found-requires c =
    let can = subst (λ (l : Listed). CanBeMade l c.args.action.now) (sym c.self.view_is) c.requires.possible in
    let low = low_there c.self.inside.config c.args.action.now c.in-Some.at (sym c.in-Some.ensures) can.placed in
    let whole = whole_list c.self.inside.config c.self.inside.words c.self.inside.room c.self.invariant in
    omega (arith, low, whole)

pub leaves-requires : goal.leaves-requires
leaves-requires c =
    let can = subst (λ (l : Listed). CanBeMade l c.args.action.now) (sym c.self.view_is) c.requires.possible in
    subst (Finds c.args.action.now) (sym c.word-found.ensures)
    (may_find (record { shape = c.self.inside.config; words = joined c.self.inside.words }) c.args.action.now c.in-Some.at c.self.invariant.locks can (sym c.in-Some.ensures))

pub put-requires : goal.put-requires
put-requires c =
    let can = subst (λ (l : Listed). CanBeMade l c.args.action.now) (sym c.self.view_is) c.requires.possible in
    let low = low_there c.self.inside.config c.args.action.now c.in-Some.at (sym c.in-Some.ensures) can.placed in
    let whole = whole_list c.self.inside.config c.self.inside.words c.self.inside.room c.self.invariant in
    omega (arith, low, whole)

pub outcome_of-requires : goal.outcome_of-requires
outcome_of-requires c =
    let can = subst (λ (l : Listed). CanBeMade l c.args.action.now) (sym c.self.view_is) c.requires.possible in
    subst (Finds c.args.action.now) (sym c.word-found.ensures)
    (may_find (record { shape = c.self.inside.config; words = joined c.self.inside.words }) c.args.action.now c.in-Some.at c.self.invariant.locks can (sym c.in-Some.ensures))

pub invariant_of-self : goal.invariant_of-self
invariant_of-self c =
    let can = subst (λ (l : Listed). CanBeMade l c.args.action.now) (sym c.self.view_is) c.requires.possible in
    let mine = lock_word c.args.core c.args.serial in
    let small : c.args.serial < 2 ^ 32 = omega arith in
    let made = list_made c.self.inside.config mine (joined c.self.inside.words) (joined c.put.new.self) c.args.action.now c.in-Some.at _ _ _ (sym c.in-Some.ensures) c.word-found.ensures c.pack_lock.ensures c.leaves.ensures c.put.ensures.list in
    kept_made c.self.inside.config mine c.self.inside.words c.put.new.self c.self.inside.room c.args.action.now c.self.invariant (own_word_is c.args.core c.args.serial c.requires.core small) can.placed made c.put.ensures.table c.put.ensures.dram

pub returns-in-Some-clause-outcome : goal.returns-in-Some-clause-outcome
returns-in-Some-clause-outcome c = λ memory stands.
    let can = subst (λ (l : Listed). CanBeMade l c.args.action.now) (sym c.self.view_is) c.requires.possible in
    let holds = subst (λ (l : Listed). StandsFor l memory) (sym c.self.view_is) stands in
    c.outcome_of.ensures
    ∙ ap (outcome_of c.args.action.now) (memory_finds c.self.inside.config (joined c.self.inside.words) memory c.args.action.now c.in-Some.at _ holds can.placed (sym c.in-Some.ensures) c.word-found.ensures)

pub returns-in-Some-clause-words : goal.returns-in-Some-clause-words
returns-in-Some-clause-words c = λ memory stands.
    let can = subst (λ (l : Listed). CanBeMade l c.args.action.now) (sym c.self.view_is) c.requires.possible in
    let holds = subst (λ (l : Listed). StandsFor l memory) (sym c.self.view_is) stands in
    let mine = lock_word c.args.core c.args.serial in
    let made = list_made c.self.inside.config mine (joined c.self.inside.words) (joined c.put.new.self) c.args.action.now c.in-Some.at _ _ _ (sym c.in-Some.ensures) c.word-found.ensures c.pack_lock.ensures c.leaves.ensures c.put.ensures.list in
    memory_made c.self.inside.config mine (joined c.self.inside.words) (joined c.put.new.self) memory c.args.action.now holds can.placed made

pub returns-in-None-clause-outcome : goal.returns-in-None-clause-outcome
returns-in-None-clause-outcome c = λ memory stands. done_there c.self.inside.config c.args.action.now _ (sym c.in-None.ensures)

pub returns-in-None-clause-words : goal.returns-in-None-clause-words
returns-in-None-clause-words c = λ memory stands.
    let can = subst (λ (l : Listed). CanBeMade l c.args.action.now) (sym c.self.view_is) c.requires.possible in
    let holds = subst (λ (l : Listed). StandsFor l memory) (sym c.self.view_is) stands in
    let mine = lock_word c.args.core c.args.serial in
    subst (λ (l : Listed). StandsFor l (memory_after_move mine memory c.args.action.now)) c.self.view_is
    (memory_made c.self.inside.config mine (joined c.self.inside.words) (joined c.self.inside.words) memory c.args.action.now holds can.placed
    (leaves_all c.self.inside.config mine (joined c.self.inside.words) c.args.action.now (sym c.in-None.ensures)))
