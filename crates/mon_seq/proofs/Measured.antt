-- The measurements after a list of turns.
use Rattle.std.proofs.Common.{◌≡◌, ◌+◌, List, [], ◌∷◌, ◌++◌, sym, subst, append-nil, append_assoc}
use Rattle.mon_types.specs.Shape.{Shape}
use Rattle.mon_model.specs.State.{State, start}
use Rattle.mon_model.specs.Measured.{Answered, answered_in, IsMeasured}
use Rattle.mon_model.specs.EveryMeasure.{start_measured, after_measured}
use Rattle.mon_seq.specs.Sequential.{Sequential, then_call, then_skip}
use Rattle.mon_seq.specs.declared.turns.Turn.{Turn}
use Rattle.mon_seq.specs.declared.turns.Turn.TheVariants as kinds
use Rattle.mon_seq.specs.Turns.{then_turns, answers}

measured_on : (h : List Answered) (m : Sequential) (turns : List Turn) → IsMeasured h m.state → IsMeasured (h ++ answers m turns) (then_turns m turns).state
measured_on h m [] before = subst (λ (xs : List Answered). IsMeasured xs m.state) (sym (append-nil h)) before
measured_on h m (kinds.Call core call digest ∷ turns) before =
    let now : Answered = answered_in m.state core call digest in
    let then : Sequential = then_call m core call digest in
    subst (λ (xs : List Answered). IsMeasured xs (then_turns then turns).state) (append_assoc h (now ∷ []) (answers then turns))
    (measured_on (h ++ now ∷ []) then turns (after_measured h m.state core call digest (m.ticket + 1) before))
measured_on h m (kinds.Skip ∷ turns) before = measured_on h (then_skip m) turns before

pub measured_from_start : (shape : Shape) (m : Sequential) (turns : List Turn) → m.state ≡ start shape → IsMeasured (answers m turns) (then_turns m turns).state
measured_from_start shape m turns at_start =
    measured_on [] m turns (subst (λ (s : State). IsMeasured [] s) (sym at_start) (start_measured shape))
