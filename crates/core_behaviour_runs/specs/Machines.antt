-- Small machines, and moves as they are written down here. This project's own.
use Rattle.std.specs.Prelude.{ℕ, List, replicate, reverse, None}
use Rattle.mon_types.specs.Shape.{shape_of}
use Rattle.mon_types.specs.declared.image.Image.{Image}
use Rattle.mon_types.specs.declared.image.Segment.{Segment}
use Rattle.mon_types.specs.declared.call.Call.{Call}
use Rattle.mon_types.specs.declared.reply.Reply.{Reply}
use Rattle.mon_types.specs.declared.object.ObjectId.{ObjectId}
use Rattle.mon_types.specs.declared.object.ObjectId.TheVariants as objects
use Rattle.mon_model.specs.Tries.{tried_set}
use Rattle.protocol.specs.declared.action.Action.{Action}
use Rattle.protocol.specs.declared.action.Draft.{Draft}
use Rattle.protocol.specs.declared.action.Move.{Move}
use Rattle.protocol.specs.declared.action.Move.TheVariants as moves
use Rattle.protocol.specs.declared.action.Outcome.{Outcome}
use Rattle.protocol.specs.Runs.{Made, moves_of}

-- a machine of so many cores with two regions of one page, which start at the start of DRAM
abbrev pub small : ℕ → List Segment → Image
small cores segments = record {
  config = shape_of cores 2 1 0;
  starts = replicate cores (record { pc = 0x8000_0000; sp = 0 });
  segments = segments;
}

-- the moves of a core, the first one first
abbrev pub in_order : ℕ → List Made → List (Move × Outcome)
in_order core run = reverse (moves_of core run)

-- a move of a call, and its outcome
abbrev pub in_call_with : Action → Outcome → Move × Outcome
in_call_with action outcome = (moves.InCall action, outcome)

-- the draft of a call that has read no page
abbrev pub draft : ℕ → Call → Reply → List ObjectId → Draft
draft serial call reply tried =
    record { serial = serial; call = call; page = None; reply = reply; tried = tried_set tried }

-- region 1
abbrev pub r1 : ObjectId
r1 = objects.Region 1

-- the cell of core 0
abbrev pub c0 : ObjectId
c0 = objects.Cell 0

-- enclave slot 0
abbrev pub e0 : ObjectId
e0 = objects.Enclave 0

-- thread slot 0
abbrev pub t0 : ObjectId
t0 = objects.Thread 0
