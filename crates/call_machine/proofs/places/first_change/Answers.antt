use Rattle.std.proofs.Common.{◌∙◌, arith}
use Rattle.std.proofs.lemmas.Bool.{eq-eqb}
use Rattle.mon_types.specs.declared.object.ObjectId.TheVariants as objects
use Rattle.call_machine.proofs.Steps.{writes_skip}
use Rattle.call_machine.proofs.places.first_change.Goals as goal

pub loop-at-preserved : goal.loop-at-preserved
loop-at-preserved c = record {
  on = omega (arith, c.loop-at.invariant.on);
  end = omega (arith, c.loop-at-test.true);
  skips = λ ps next many. c.loop-at.invariant.skips ps next many ∙ writes_skip ps c.args.stood.now c.args.wanted.now c.loop-at.at (objects.Enclave 0, 0) next (omega (arith, many, c.loop-at-test.true)) (eq-eqb _ _ c.if-stood-at.true);
}
