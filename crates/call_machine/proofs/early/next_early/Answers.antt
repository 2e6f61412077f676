use Rattle.std.proofs.Common.{◌∙◌, ◌≡◌, false, Option, Some, None, sym, refl, arith}
use Rattle.std.specs.Option.{is_some}
use Rattle.mon_types.specs.declared.region.Region.TheVariants as regions
use Rattle.call_machine.proofs.Steps.{early_skip}
use Rattle.call_machine.proofs.early.next_early.Goals as goal

none_of : {X : Type 0} (o : Option X) → is_some o ≡ false → o ≡ None
none_of None e = refl
none_of (Some x) e = absurd (cc)

pub loop-at-preserved : goal.loop-at-preserved
loop-at-preserved c =
    let none = sym c.early_own.ensures ∙ none_of c.early_own.result c.if-is_none.ensures in
    record {
      on = omega (arith, c.loop-at.invariant.on);
      end = omega (arith, c.loop-at-test.true);
      skips = λ os stood next. c.loop-at.invariant.skips os stood next ∙ early_skip c.args.call.now os c.args.items.now c.loop-at.at (0, regions.Free) stood next c.loop-at-test.true none;
    }
