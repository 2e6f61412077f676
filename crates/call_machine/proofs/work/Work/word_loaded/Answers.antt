use Rattle.std.proofs.Common.{◌≡◌, ◌∙◌, ◌+◌, ◌-◌, ◌∷◌, [], ◌++◌, ℕ, List, length, sym, ap, refl, arith, append_assoc, length-append}
use Rattle.std.proofs.Math.Path.{fun_ext}
use Rattle.mon_types.specs.Sizes.{page_words}
use Rattle.dram_map.specs.Addresses.{first_word}
use Rattle.mon_enclaves.specs.LoadReply.{source_of}
use Rattle.protocol.specs.declared.action.Action.TheVariants as actions
use Rattle.protocol.specs.CallTree.{then_, copy_words, number_in}
use Rattle.call_machine.specs.declared.phase.Phase.TheVariants as phases
use Rattle.call_machine.specs.Meaning.{phase_tree, draws, drawn, copied, copies, target_of, after, ends_after}
use Rattle.call_machine.specs.Count.{phase_left}
use Rattle.call_machine.specs.Stands.{phase_stands}
use Rattle.call_machine.proofs.At.{decided_other}
use Rattle.call_machine.proofs.Heads.{copy_step}
use Rattle.call_machine.proofs.work.Work.word_loaded.Goals as goal

pub returns-clause-at : goal.returns-clause-at
unfolding phase_tree phase_stands phase_left draws drawn copied copies ends_after
returns-clause-at c =
    let w = c.args.self.now in
    let at = c.args.at in
    let word = c.word_of-word.result in
    let k = c.requires.copying in
    let b = k.decided.holding.based in
    let next = λ (words : List ℕ). copied w (w.page.items ++ words) in
    let step = copy_step page_words at (source_of w.call) (target_of w.call) next c.requires.at in
    let more : (words : List ℕ) → copied w (c.push.new.self.items ++ words) ≡ next (number_in c.args.outcome.now ∷ words) = λ words.
    ap (λ l. copied w (l ++ words)) c.push.ensures.items ∙ ap (copied w) (append_assoc w.page.items (word ∷ []) words) ∙ ap (λ x. copied w (w.page.items ++ x ∷ words)) c.word_of-word.ensures in
    record {
      based = record { valid = b.valid; caller = b.caller; is_call = b.is_call; few = b.few };
      stands = (
        record {
          decided = decided_other w w.input c.push.new.self (phases.Stores at word) k.decided;
          copies = k.copies;
          many = omega (arith, ap (λ l. length l) c.push.ensures.items, length-append w.page.items (word ∷ []), k.many);
          few = k.few;
          same = k.same;
        },
        c.requires.at,
      );
      meaning =
          ap (λ x. then_ (actions.Store (first_word (target_of w.call) + at) x) (copy_words (page_words - (at + 1)) (at + 1) (source_of w.call) (target_of w.call) (λ words. copied w (c.push.new.self.items ++ words)))) c.word_of-word.ensures
          ∙ ap (λ f. then_ (actions.Store (first_word (target_of w.call) + at) (number_in c.args.outcome.now)) (copy_words (page_words - (at + 1)) (at + 1) (source_of w.call) (target_of w.call) f)) (fun_ext more)
          ∙ sym (ap (λ t. after t c.args.outcome.now) step);
      count = omega (arith, c.requires.at);
      end = sym (ap (ends_after w) step);
      config = refl;
      call = refl;
      core = refl;
      mode = refl;
    }
