use Rattle.std.proofs.Common.{sym, ap, ◌∙◌, arith}
use Rattle.solo.specs.Solo.{Lined}
use Rattle.solo.proofs.Loop.{turns_stop, turns_end, turns_go_on, turns_done, event_room}
use Rattle.solo.proofs.one_core.OneCore.take_turns.Goals as goal

pub returns-then-is_spent-clause-core : goal.returns-then-is_spent-clause-core
returns-then-is_spent-clause-core c =
    c.limit.ensures.core
    ∙ ap (λ (x : Lined). x.core) (sym (turns_stop c.args.line c.args.count c.loop-turn.turn c.loop-turn.self c.loop-turn-test.true (sym c.is_spent.ensures ∙ c.if-is_spent.true)) ∙ c.loop-turn.invariant.left)

pub returns-then-is_spent-clause-over : goal.returns-then-is_spent-clause-over
returns-then-is_spent-clause-over c =
    ap (λ (x : Lined). x.over) (sym (turns_stop c.args.line c.args.count c.loop-turn.turn c.loop-turn.self c.loop-turn-test.true (sym c.is_spent.ensures ∙ c.if-is_spent.true)) ∙ c.loop-turn.invariant.left)

pub returns-then-turn-clause-core : goal.returns-then-turn-clause-core
returns-then-turn-clause-core c =
    ap (λ (x : Lined). x.core) (sym (turns_end c.args.line c.args.count c.loop-turn.turn c.loop-turn.self c.turn.new.self c.loop-turn-test.true (sym c.is_spent.ensures ∙ c.if-is_spent.false) (sym c.turn.ensures.ends ∙ c.if-turn.true) c.turn.ensures.core) ∙ c.loop-turn.invariant.left)

pub returns-then-turn-clause-over : goal.returns-then-turn-clause-over
returns-then-turn-clause-over c =
    ap (λ (x : Lined). x.over) (sym (turns_end c.args.line c.args.count c.loop-turn.turn c.loop-turn.self c.turn.new.self c.loop-turn-test.true (sym c.is_spent.ensures ∙ c.if-is_spent.false) (sym c.turn.ensures.ends ∙ c.if-turn.true) c.turn.ensures.core) ∙ c.loop-turn.invariant.left)

pub loop-turn-preserved : goal.loop-turn-preserved
loop-turn-preserved c = record {
  left = sym (turns_go_on c.args.line c.args.count c.loop-turn.turn c.loop-turn.self c.turn.new.self c.loop-turn-test.true (sym c.is_spent.ensures ∙ c.if-is_spent.false) (sym c.turn.ensures.ends ∙ c.if-turn.false) c.turn.ensures.core)
      ∙ c.loop-turn.invariant.left;
  room = omega (arith, c.turn.ensures.events, event_room c.loop-turn.self (sym c.is_spent.ensures ∙ c.if-is_spent.false));
}

pub returns-clause-core : goal.returns-clause-core
returns-clause-core c =
    ap (λ (x : Lined). x.core) (sym (turns_done c.args.line c.args.count c.loop-turn.turn c.loop-turn.self c.loop-turn-test.false) ∙ c.loop-turn.invariant.left)

pub returns-clause-over : goal.returns-clause-over
returns-clause-over c =
    ap (λ (x : Lined). x.over) (sym (turns_done c.args.line c.args.count c.loop-turn.turn c.loop-turn.self c.loop-turn-test.false) ∙ c.loop-turn.invariant.left)
