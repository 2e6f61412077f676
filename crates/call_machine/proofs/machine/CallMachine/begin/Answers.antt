use Rattle.std.proofs.Common.{refl}
use Rattle.call_machine.proofs.machine.CallMachine.begin.Goals as goal

pub start-requires : goal.start-requires
start-requires c = record {
  based = record {
    valid = c.cores-cores.ensures.valid;
    caller = record { there = c.requires.core; slot = c.requires.slot; thread = c.requires.thread };
    is_call = c.has_words.ensures;
    few = c.requires.answers;
  };
  locks = c.new.ensures;
  stood = c.new-2.ensures;
  held = c.new-3.ensures;
  tried = refl;
  input = refl;
  ends = refl;
  places = c.new-4.ensures;
  ptes = c.new-5.ensures;
  page = c.new-6.ensures;
}
