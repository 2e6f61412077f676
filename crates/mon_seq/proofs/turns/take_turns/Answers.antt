use Rattle.std.proofs.Common.{◌≡◌, drop, List, [], sym, ap, subst, ◌∙◌, arith}
use Rattle.std.proofs.lemmas.List.{drop_all}
use Rattle.mon_model.specs.Measured.{IsMeasured}
use Rattle.mon_seq.specs.Sequential.{Sequential}
use Rattle.mon_seq.specs.declared.turns.Turn.{Turn}
use Rattle.mon_seq.specs.Turns.{then_turns, answers}
use Rattle.mon_seq.proofs.Measured.{measured_from_start}
use Rattle.mon_seq.proofs.turns.take_turns.Goals as goal

pub returns-clause-measured : goal.returns-clause-measured
returns-clause-measured c = λ shape at_start.
    let turns : List Turn = c.args.turns.now in
    let none_left : drop c.loop-turn.turn-index turns ≡ [] = drop_all c.loop-turn.turn-index turns (omega (arith, c.loop-turn-test.false)) in
    let last : c.loop-turn.monitor ≡ then_turns c.args.monitor.now turns = ap (λ (left : List Turn). then_turns c.loop-turn.monitor left) (sym none_left) ∙ c.loop-turn.invariant.left in
    subst (λ (m : Sequential). IsMeasured (answers c.args.monitor.now turns) m.state) (sym last) (measured_from_start shape c.args.monitor.now turns at_start)
