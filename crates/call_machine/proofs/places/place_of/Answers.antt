use Rattle.std.proofs.Common.{◌∙◌, ◌+◌, ◌-◌, ◌≤◌, sym, ap, arith}
use Rattle.std.specs.Prelude.{slice_get}
use Rattle.mon_types.specs.declared.object.ObjectId.TheVariants as objects
use Rattle.call_machine.specs.declared.phase.Lock.{Lock}
use Rattle.call_machine.specs.Rest.{places}
use Rattle.call_machine.proofs.LockLoops.{behind, place_here, place_behind, places_behind, no_places}
use Rattle.call_machine.proofs.places.place_of.Goals as goal

pub returns-then-rest-from : goal.returns-then-rest-from
returns-then-rest-from c =
    c.loop-lock.invariant.same ∙ place_here c.args.locks.now c.loop-lock.lock-index (record { object = objects.Enclave 0 }) c.loop-lock.rest c.loop-lock-test.true (omega (arith, c.if-rest-from.true, c.from.ensures, c.width_of-width.ensures))

pub loop-lock-preserved : goal.loop-lock-preserved
loop-lock-preserved c =
    let d : Lock = record { object = objects.Enclave 0 } in
    let low : _ ≤ c.loop-lock.rest = omega (arith, c.if-rest-from.false, c.from.ensures, c.width_of-width.ensures) in
    let many = places_behind c.args.locks.now c.loop-lock.lock-index d c.loop-lock-test.true in
    record {
      same = c.loop-lock.invariant.same ∙ place_behind c.args.locks.now c.loop-lock.lock-index d c.loop-lock.rest c.loop-lock-test.true low
          ∙ ap (λ n. slice_get (places (behind c.args.locks.now (c.loop-lock.lock-index + 1))) (c.loop-lock.rest - n)) (sym c.width_of-width.ensures ∙ sym c.from-rest.ensures);
      within = omega (arith, c.loop-lock.invariant.within, many, c.from-rest.ensures, c.width_of-width.ensures, c.if-rest-from.false, c.from.ensures);
    }

pub unreachable-requires : goal.unreachable-requires
unreachable-requires c = omega (arith, c.loop-lock.invariant.within, no_places c.args.locks.now c.loop-lock.lock-index c.loop-lock-test.false)
