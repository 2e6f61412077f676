-- All words that cores share, as one list: for which memory it stands, and which moves can be made on it. This
-- project's own.
use Rattle.std.specs.Prelude.{ℕ, ◌-◌, ◌^◌, ◌<◌, ⊤, List, slice_index}
use Rattle.mon_types.specs.Shape.{Shape}
use Rattle.protocol.specs.declared.action.Action.TheVariants as actions
use Rattle.protocol.specs.declared.action.Move.{Move}
use Rattle.protocol.specs.declared.action.Move.TheVariants as moves
use Rattle.protocol.specs.Places.{Memory}
use Rattle.protocol.specs.Moves.{place_of}
use Rattle.protocol.specs.Layout.{Holds}
use Rattle.protocol.specs.Words.{IsPlaced}

-- the shape of a machine, and its words in the order of the layout
pub record Listed : Type 0 where
  pub shape : Shape
  pub words : List ℕ

-- the list has the word of this memory for each place of the machine
abbrev pub StandsFor : Listed → Memory → Type 0
StandsFor l memory = Holds l.shape l.words memory

-- how many tickets were drawn: the ticket counter is the first word
abbrev pub tickets_in : Listed → ℕ
tickets_in l = slice_index l.words 0

-- where a move is a Draw, its ticket is a number of 32 bits
abbrev pub HasTicket : Move → ℕ → Type 0
HasTicket (moves.InCall (actions.Draw draft)) drawn = drawn < 2 ^ 32 - 1
HasTicket _ drawn = ⊤

-- a move that acts on a word acts on one of the machine, and a Draw has a ticket
pub record CanBeMade (l : Listed) (move : Move) : Type 0 where
  pub placed : IsPlaced l.shape (place_of move)
  pub ticket : HasTicket move (tickets_in l)
