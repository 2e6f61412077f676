use Rattle.std.proofs.Common.{◌∙◌, ◌+◌, ◌++◌, sym, ap, refl, subst, arith, append-nil}
use Rattle.mon_types.specs.Sizes.{page_words}
use Rattle.mon_enclaves.specs.LoadReply.{source_of}
use Rattle.call_machine.specs.declared.phase.Phase.TheVariants as phases
use Rattle.call_machine.specs.Meaning.{phase_tree, draws, drawn, copied, copies, target_of, ends_after}
use Rattle.call_machine.specs.Count.{phase_left}
use Rattle.call_machine.specs.Stands.{phase_stands, IsCopying}
use Rattle.call_machine.proofs.At.{at_phase, at_from, decided_other}
use Rattle.call_machine.proofs.Heads.{copy_end}
use Rattle.call_machine.proofs.work.Work.word_stored.Goals as goal

pub returns-then-from-lt-PAGE_WORDS-clause-at : goal.returns-then-from-lt-PAGE_WORDS-clause-at
unfolding phase_tree phase_stands phase_left draws drawn copied copies ends_after
returns-then-from-lt-PAGE_WORDS-clause-at c =
    let w = c.args.self.now in
    let at = c.args.at in
    let k = c.requires.copying in
    at_phase w (phases.Loads (at + 1)) _ _ k.decided.holding.based
    (record { decided = decided_other w w.input w.page (phases.Loads (at + 1)) k.decided; copies = k.copies; many = k.many; few = k.few; same = k.same }, omega (arith, c.if-from-lt-PAGE_WORDS.true, c.from.ensures))
    refl (omega arith)

pub page_copied-requires : goal.page_copied-requires
page_copied-requires c =
    subst (IsCopying c.args.self.now) {x = c.args.at + 1} {y = page_words} (omega (arith, c.requires.at, c.if-from-lt-PAGE_WORDS.false, c.from.ensures)) c.requires.copying

pub returns-else-from-lt-PAGE_WORDS-clause-at : goal.returns-else-from-lt-PAGE_WORDS-clause-at
unfolding phase_tree phase_left copies ends_after
returns-else-from-lt-PAGE_WORDS-clause-at c =
    let w = c.args.self.now in
    let at = c.args.at in
    at_from _ _ _ _ _ _ _ _ _ c.page_copied.ensures.at
    (ap (copied w) (sym (append-nil w.page.items))
    ∙ sym (copy_end page_words (at + 1) (source_of w.call) (target_of w.call) (λ words. copied w (w.page.items ++ words)) (omega (arith, c.if-from-lt-PAGE_WORDS.false, c.from.ensures))))
    (omega arith) refl refl refl refl refl
