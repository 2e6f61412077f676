use Rattle.std.proofs.Common.{◌≡◌, ℕ, ◌+◌, Bool, true, false, cond, List, ◌++◌, length, map, Option, None, refl, sym, ap, subst, ◌∙◌, arith}
use Rattle.mon_types.specs.Shape.{Shape}
use Rattle.mon_types.specs.Replies.{is_done}
use Rattle.mon_model.specs.State.{State}
use Rattle.mon_model.specs.InRange.{IsInRange}
use Rattle.mon_model.specs.Step.{reply_of, after}
use Rattle.mon_model.proofs.Carried.{Carried, carried}
use Rattle.core_context.specs.declared.after.After.TheVariants as afters
use Rattle.core_context.specs.Changes.{ok_change}
use Rattle.dram_map.specs.Words.{word_at}
use Rattle.hist.specs.declared.event.PageInput.{PageInput}
use Rattle.mon_seq.specs.Sequential.{Sequential}
use Rattle.mon_seq.specs.declared.begun.Begun.{Begun}
use Rattle.solo.specs.Core.{Core}
use Rattle.solo.specs.Calls.{source_words, page_input, stored, called}
use Rattle.core_context.specs.Origins.{contexts_by}
use Rattle.solo.proofs.Done.{done_in_range, few_answers}
use Rattle.solo.proofs.Made.{made_so, refused_so}
use Rattle.solo.proofs.Places.{places_are}
use Rattle.solo.proofs.one_core.OneCore.make.Goals as goal

pub input_of-input-requires-clause-range : goal.input_of-input-requires-clause-range
input_of-input-requires-clause-range c = λ is_ok.
    let done : is_done (reply_of c.self.inside.monitor.state 0 c.args.call.now) ≡ true = sym (ap (λ (b : Begun). is_done b.reply) c.begin.ensures.begun) ∙ sym c.is_ok-done.ensures ∙ is_ok in
    subst (λ (shape : Shape). IsInRange shape c.args.call.now) c.self.invariant.machine (done_in_range c.self.inside.monitor.state 0 c.args.call.now done)

pub give_source-requires-clause-range : goal.give_source-requires-clause-range
give_source-requires-clause-range c =
    let done : is_done (reply_of c.self.inside.monitor.state 0 c.args.call.now) ≡ true = sym (ap (λ (b : Begun). is_done b.reply) c.begin.ensures.begun) ∙ sym c.is_ok-done.ensures ∙ c.if-done.true in
    subst (λ (shape : Shape). IsInRange shape c.args.call.now) c.self.invariant.machine (done_in_range c.self.inside.monitor.state 0 c.args.call.now done)

pub store-requires-clause-range : goal.store-requires-clause-range
store-requires-clause-range c =
    let done : is_done (reply_of c.self.inside.monitor.state 0 c.args.call.now) ≡ true = sym (ap (λ (b : Begun). is_done b.reply) c.begin.ensures.begun) ∙ sym c.is_ok-done.ensures ∙ c.if-done.true in
    subst (λ (shape : Shape). IsInRange shape c.args.call.now) c.self.invariant.machine (done_in_range c.self.inside.monitor.state 0 c.args.call.now done)

pub returns-then-done-clause-core : goal.returns-then-done-clause-core
returns-then-done-clause-core c =
    let i = c.self.inside in
    let s : State = i.monitor.state in
    let call = c.args.call.now in
    let begun : Begun = c.begin.new.begun in
    let places : List ℕ = c.places_read-places.result.items in
    let page : Option PageInput = c.input_of-input.result in
    let core : Core = record { state = s; made = i.made; contexts = i.contexts; guest = i.guest; words = i.memory; answers = i.answers; log = i.log.events } in
    let done : is_done (reply_of s 0 call) ≡ true = sym (ap (λ (b : Begun). is_done b.reply) c.begin.ensures.begun) ∙ sym c.is_ok-done.ensures ∙ c.if-done.true in
    let ok : Carried s 0 call = carried s 0 call done in
    let at : c.len.result + c.len-2.result ≡ length i.answers + length places = omega (arith, c.len.ensures, c.len-2.ensures.value) in
    let reply : begun.reply ≡ reply_of s 0 call = ap (λ (b : Begun). b.reply) c.begin.ensures.begun in
    let change : c.change_of-change.result ≡ ok_change s 0 call = c.change_of-change.ensures.done c.if-done.true s 0 ok.none (ap (λ (b : Begun). b.held) c.begin.ensures.begun) in
    made_so c.args.origin core call places page begun.reply begun.tried _ record {
      ok = done;
      path = places_are core i.config call begun places c.self.invariant.machine c.begin.ensures.begun c.places_read-places.ensures;
      told = c.input_of-input.ensures ∙ ap (λ (b : Bool). cond b (page_input i.memory call (c.len.result + c.len-2.result)) None) c.if-done.true ∙ ap (page_input i.memory call) at;
      answers_so = reply;
      objects = ap (λ (b : Begun). b.tried) c.begin.ensures.begun;
      state = ap (λ (m : Sequential). m.state) c.finish.ensures.after
          ∙ ap (λ (ticket : ℕ). after s 0 call c.digest_in.result (ticket + 1)) c.self.invariant.tickets
          ∙ ap (λ (digest : List ℕ). after s 0 call digest (i.made + 1)) c.digest_in.ensures;
      made = refl;
      contexts = c.change_contexts.ensures ∙ (λ j. contexts_by c.args.origin call (change j) (reply j) i.contexts);
      guest = c.take_in.ensures.guest;
      words = c.store.ensures.stored ∙ ap (λ (l : List ℕ). stored i.config call l i.memory) c.deref-then-done.ensures.0
          ∙ ap (λ (shape : Shape). stored shape call places i.memory) (sym c.self.invariant.machine);
      answers = c.give_source.ensures
          ∙ ap (λ (l : List ℕ). l ++ source_words i.memory call) (c.give_ptes.ensures ∙ ap (λ (l : List ℕ). i.answers ++ map (word_at i.memory) l) c.deref.ensures.0);
      log = c.add.ensures.events;
    } ∙ ap (λ (x : Core). called c.args.origin x call) c.self.view_is

pub returns-else-done-clause-core : goal.returns-else-done-clause-core
returns-else-done-clause-core c =
    let i = c.self.inside in
    let s : State = i.monitor.state in
    let call = c.args.call.now in
    let begun : Begun = c.begin.new.begun in
    let places : List ℕ = c.places_read-places.result.items in
    let page : Option PageInput = c.input_of-input.result in
    let core : Core = record { state = s; made = i.made; contexts = i.contexts; guest = i.guest; words = i.memory; answers = i.answers; log = i.log.events } in
    let refused : is_done (reply_of s 0 call) ≡ false = sym (ap (λ (b : Begun). is_done b.reply) c.begin.ensures.begun) ∙ sym c.is_ok-done.ensures ∙ c.if-done.false in
    let reply : begun.reply ≡ reply_of s 0 call = ap (λ (b : Begun). b.reply) c.begin.ensures.begun in
    let change : c.change_of-change.result ≡ afters.Nothing = c.change_of-change.ensures.refused c.if-done.false in
    refused_so c.args.origin core call places page begun.reply begun.tried _ record {
      refused = refused;
      path = places_are core i.config call begun places c.self.invariant.machine c.begin.ensures.begun c.places_read-places.ensures;
      told = c.input_of-input.ensures ∙ ap (λ (b : Bool). cond b (page_input i.memory call (c.len.result + c.len-2.result)) None) c.if-done.false;
      answers_so = reply;
      objects = ap (λ (b : Begun). b.tried) c.begin.ensures.begun;
      state = ap (λ (m : Sequential). m.state) c.finish.ensures.after
          ∙ ap (λ (ticket : ℕ). after s 0 call c.digest_in.result (ticket + 1)) c.self.invariant.tickets
          ∙ ap (λ (digest : List ℕ). after s 0 call digest (i.made + 1)) c.digest_in.ensures;
      made = refl;
      contexts = c.change_contexts.ensures ∙ (λ j. contexts_by c.args.origin call (change j) (reply j) i.contexts);
      guest = refl;
      words = refl;
      answers = c.give_ptes.ensures ∙ ap (λ (l : List ℕ). i.answers ++ map (word_at i.memory) l) c.deref.ensures.0;
      log = c.add.ensures.events;
    } ∙ ap (λ (x : Core). called c.args.origin x call) c.self.view_is

pub returns-then-done-clause-answers : goal.returns-then-done-clause-answers
returns-then-done-clause-answers c =
    let few = few_answers c.self.inside.answers c.give_ptes.new.answers c.give_source.new.answers c.self.inside.memory c.deref.result.now c.args.call.now
    (omega (arith, ap length c.deref.ensures.0, c.len-2.ensures.value, c.len-2.ensures.fits)) c.give_ptes.ensures c.give_source.ensures in
    omega (arith, few, ap (λ (x : Core). length x.answers) c.self.view_is)
