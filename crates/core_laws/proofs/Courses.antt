-- All that a core does by its lines is permitted.
use Rattle.std.proofs.Common.{◌<◌, ℕ, List, [], refl, arith}
use Rattle.std.specs.List.{AllByRecursion}
use Rattle.mon_types.specs.LimitLaws.{few_cores}
use Rattle.mon_types.specs.declared.image.Image.{Image}
use Rattle.mon_types.specs.declared.script.Line.{Line}
use Rattle.protocol.specs.Views.{core_log, answers_of, call_moves}
use Rattle.image_read.specs.Grammar.{IsWideStart}
use Rattle.core_behaviour.specs.Core.{core_start, start_at}
use Rattle.core_behaviour.specs.Runs.{lines_of, course_of}
use Rattle.core_laws.specs.Given.{IsMachine, IsWide}
use Rattle.core_laws.specs.Laws.{IsSaid, NextIsPermitted, EndIsAtRest}
use Rattle.core_laws.proofs.CallWords.{all_get}
use Rattle.core_laws.proofs.Permits.{IsPermitted, Agrees, left_permitted, next_permitted, end_rests}
use Rattle.core_laws.proofs.Contexts.{begun_contexts_fit}
use Rattle.core_laws.proofs.Lines.{all_lines}

start_agrees : (image : Image) (core : ℕ) → IsMachine image → core < image.config.cores → Agrees image.config core 0 [] (core_start image core)
unfolding core_log answers_of call_moves
start_agrees image core machine lt =
    let few = few_cores image.config machine.shape in
    record {
      number = refl;
      log = refl;
      answers = refl;
      idle = refl;
      room = omega arith;
      caller = record { there = lt; slot = omega arith; thread = omega arith };
      contexts = begun_contexts_fit core (start_at image.starts core) (omega arith) (all_get IsWideStart image.starts core (record { pc = 0; sp = 0 }) machine.starts (omega arith, omega arith));
      pending = tt;
      cached = tt;
    }

pub course_permitted : (image : Image) (script : List (List Line)) (core : ℕ) → IsSaid image script → core < image.config.cores → IsPermitted image.config core [] (course_of image script core)
course_permitted image script core said lt =
    all_lines image.config said.machine.shape core 1 (lines_of script core)
    (all_get (AllByRecursion IsWide) script core [] said.wide tt)
    [] (core_start image core) (start_agrees image core said.machine lt)

pub next_is_permitted : NextIsPermitted
next_is_permitted = λ image script said core ms begun move e.
    (next_permitted image.config core ms _ move
    (left_permitted image.config core (course_of image script core) ms (course_permitted image script core said begun.there) begun.begun begun.answered) e).permitted

pub end_is_at_rest : EndIsAtRest
end_is_at_rest = λ image script said core ms begun e.
    end_rests image.config core ms _
    (left_permitted image.config core (course_of image script core) ms (course_permitted image script core said begun.there) begun.begun begun.answered) e
