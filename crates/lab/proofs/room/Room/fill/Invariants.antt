use Rattle.std.proofs.Common.{◌≡◌, map, vec_capacity}
use Rattle.lab.proofs.room.Room.fill.Given as goal

abbrev pub invariant-loop-core : goal.invariant-loop-core
invariant-loop-core l = record {
  logs : l.logs.items ≡ map (λ k. k.log) l.yielded;
  answers : l.answers.items ≡ map (λ k. k.answers) l.yielded;
  modes : l.modes.items ≡ map (λ k. k.machine.own.mode) l.yielded;
  log_room : vec_capacity l.logs ≡ vec_capacity l.initial.logs;
  answer_room : vec_capacity l.answers ≡ vec_capacity l.initial.answers;
  mode_room : vec_capacity l.modes ≡ vec_capacity l.initial.modes;
}
