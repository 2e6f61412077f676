use Rattle.std.proofs.Common.{sym, ◌∙◌}
use Rattle.mon_types.specs.declared.script.Line.TheVariants as lines
use Rattle.solo.proofs.Loop.{stops, is_over, goes_on, ends}
use Rattle.solo.proofs.one_core.OneCore.run.Goals as goal

pub returns-then-is_spent : goal.returns-then-is_spent
returns-then-is_spent c =
    stops c.loop-i.self c.limit.new.self c.args.script.now c.loop-i.i lines.Tick c.loop-i-test.true (sym c.is_spent.ensures ∙ c.if-is_spent.true) c.limit.ensures.core
    ∙ c.loop-i.invariant.left

pub returns-then-carry_out : goal.returns-then-carry_out
returns-then-carry_out c =
    is_over c.loop-i.self c.carry_out.new.self c.args.script.now c.loop-i.i _ c.loop-i-test.true (sym c.is_spent.ensures ∙ c.if-is_spent.false)
    (sym c.carry_out.ensures.over ∙ c.if-carry_out.true) c.carry_out.ensures.core
    ∙ c.loop-i.invariant.left

pub loop-i-preserved : goal.loop-i-preserved
loop-i-preserved c = record {
  left = goes_on c.loop-i.self c.carry_out.new.self c.args.script.now c.loop-i.i _ c.loop-i-test.true (sym c.is_spent.ensures ∙ c.if-is_spent.false)
      (sym c.carry_out.ensures.over ∙ c.if-carry_out.false) c.carry_out.ensures.core
      ∙ c.loop-i.invariant.left;
  room = c.carry_out.ensures.room c.if-carry_out.false;
}

pub returns : goal.returns
returns c = ends c.loop-i.self c.args.script.now c.loop-i.i c.loop-i-test.false ∙ c.loop-i.invariant.left
