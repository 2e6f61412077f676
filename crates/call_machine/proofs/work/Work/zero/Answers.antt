use Rattle.std.proofs.Common.{◌∙◌, ◌≡◌, [], length, refl, sym, ap, arith}
use Rattle.mon_model.specs.Tries.{freed_by}
use Rattle.protocol.specs.CallTree.{zeros}
use Rattle.call_machine.specs.declared.phase.Phase.TheVariants as phases
use Rattle.call_machine.specs.Meaning.{phase_tree, objects_in}
use Rattle.call_machine.specs.Rest.{places, writes_from, region_words_from, unlocks_of}
use Rattle.call_machine.specs.Count.{phase_left}
use Rattle.call_machine.specs.Stands.{phase_stands}
use Rattle.call_machine.proofs.At.{at_phase, at_from, drawn_phase, if_some}
use Rattle.call_machine.proofs.work.Work.zero.Goals as goal

pub returns-in-Some : goal.returns-in-Some
unfolding phase_tree phase_left phase_stands
returns-in-Some c =
    let w = c.args.self.now in
    let word = c.in-Some.word in
    let r = c.freed_by.result in
    let is : r ≡ freed_by w.call = c.freed_by.ensures in
    let same : region_words_from w.config (freed_by w.call) word ≡ region_words_from w.config (freed_by w.call) c.args.from =
    ap (λ q. region_words_from w.config q word) (sym is) ∙ sym (if_some _ _ word c.next_word.ensures.skips c.in-Some.is) ∙ ap (λ q. region_words_from w.config q c.args.from) is in
    at_phase w (phases.Zeros word) _ _ c.requires.based
    (drawn_phase w (phases.Zeros word) c.requires.drawn, if_some _ _ word c.next_word.ensures.within c.in-Some.is, if_some _ _ word c.next_word.ensures.region c.in-Some.is ∙ is)
    (ap (λ l. zeros l (writes_from (places (objects_in w)) w.stood.items w.wanted.items 0 (unlocks_of (objects_in w)))) same)
    (omega (arith, ap (λ l. length l) same))

pub returns-in-None : goal.returns-in-None
unfolding zeros
returns-in-None c =
    let w = c.args.self.now in
    let none : region_words_from w.config (freed_by w.call) c.args.from ≡ [] =
    ap (λ q. region_words_from w.config q c.args.from) (sym c.freed_by.ensures) ∙ c.next_word.ensures.none c.in-None.is in
    at_from _ _ _ _ _ _ _ _ _ c.write.ensures
    (ap (λ l. zeros l (writes_from (places (objects_in w)) w.stood.items w.wanted.items 0 (unlocks_of (objects_in w)))) (sym none))
    (omega arith) refl refl refl refl refl
