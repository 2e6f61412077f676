use Rattle.std.proofs.Common.{◌<◌, ◌-◌, ◌^◌, sym, subst, arith}
use Rattle.mon_types.specs.Shape.{Shape}
use Rattle.protocol.specs.Moves.{place_of}
use Rattle.protocol.specs.Words.{IsPlaced}
use Rattle.word_list.specs.Listed.{tickets_in}
use Rattle.word_list.proofs.Made.{has_ticket}
use Rattle.word_list.proofs.tests.expect.Goals as goal

pub perform-answer-requires-clause-possible : goal.perform-answer-requires-clause-possible
perform-answer-requires-clause-possible g c =
    let left : tickets_in c.args.words.now < 2 ^ 32 - 1 = omega arith in
    record {
      placed = subst (λ (s : Shape). IsPlaced s (place_of c.args.action)) (sym c.requires.machine) c.requires.placed;
      ticket = has_ticket c.args.action _ left;
    }
