use Rattle.std.proofs.Common.{◌∙◌, get_or, sym, arith}
use Rattle.mon_types.specs.declared.object.ObjectId.TheVariants as objects
use Rattle.call_machine.proofs.LockLoops.{start_here, start_next, start_end, small_width}
use Rattle.call_machine.proofs.places.row_start.Goals as goal

pub returns-then-is_same : goal.returns-then-is_same
returns-then-is_same c =
    omega (arith, c.loop-lock.invariant.rest, start_here c.args.locks.now c.loop-lock.lock-index (record { object = objects.Enclave 0 }) c.args.object c.loop-lock-test.true (sym c.is_same.ensures ∙ c.if-is_same.true))

pub overflow_add-start : goal.overflow_add-start
overflow_add-start c = omega (arith, c.loop-lock.invariant.small, c.loop-lock.auto.lock-index-end, c.from-start.ensures, c.width_of.ensures, c.requires, small_width (get_or c.args.locks.now c.loop-lock.lock-index (record { object = objects.Enclave 0 })).object)

pub loop-lock-preserved : goal.loop-lock-preserved
loop-lock-preserved c =
    let next = start_next c.args.locks.now c.loop-lock.lock-index (record { object = objects.Enclave 0 }) c.args.object c.loop-lock-test.true (sym c.is_same.ensures ∙ c.if-is_same.false) in
    record {
      rest = omega (arith, c.loop-lock.invariant.rest, next, c.from-start.ensures, c.width_of.ensures);
      small = omega (arith, c.loop-lock.invariant.small, c.from-start.ensures, c.width_of.ensures, small_width (get_or c.args.locks.now c.loop-lock.lock-index (record { object = objects.Enclave 0 })).object);
    }

pub returns : goal.returns
returns c = omega (arith, c.loop-lock.invariant.rest, start_end c.args.locks.now c.loop-lock.lock-index c.args.object c.loop-lock-test.false)
