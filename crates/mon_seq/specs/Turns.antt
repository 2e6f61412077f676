-- Lists of calls and skipped tickets, and what the monitor is after them. This project's own.
use Rattle.std.specs.Prelude.{◌<◌, ⊤, List, [], ◌∷◌}
use Rattle.std.specs.List.{fold}
use Rattle.mon_types.specs.Shape.{Shape}
use Rattle.mon_model.specs.Measured.{Answered, answered_in}
use Rattle.mon_seq.specs.Sequential.{Sequential, then_call, then_skip}
use Rattle.mon_seq.specs.declared.turns.Turn.{Turn}
use Rattle.mon_seq.specs.declared.turns.Turn.TheVariants as kinds

-- a call by a core of this machine, or a skipped ticket
abbrev pub IsTurn : Shape → Turn → Type 0
IsTurn shape (kinds.Call core call digest) = core < shape.cores
IsTurn shape kinds.Skip = ⊤

-- the monitor after one turn
abbrev pub then_turn : Sequential → Turn → Sequential
then_turn m (kinds.Call core call digest) = then_call m core call digest
then_turn m kinds.Skip = then_skip m

-- the monitor after these turns in order
abbrev pub then_turns : Sequential → List Turn → Sequential
then_turns m turns = fold then_turn m turns

-- the calls among these turns in order, as the monitor answers them
abbrev pub answers : Sequential → List Turn → List Answered
answers m [] = []
answers m (kinds.Call core call digest ∷ turns) =
    answered_in m.state core call digest ∷ answers (then_call m core call digest) turns
answers m (kinds.Skip ∷ turns) = answers (then_skip m) turns
