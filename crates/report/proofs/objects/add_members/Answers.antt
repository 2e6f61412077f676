use Rattle.std.proofs.Common.{arith}
use Rattle.report.proofs.Sets.{members_begun, members_grow}
use Rattle.report.proofs.objects.add_members.Goals as goal

pub loop-i-init : goal.loop-i-init
loop-i-init c = record { text = members_begun c.args.line.now c.args.letter.now c.args.set; len = omega arith }

pub loop-i-preserved : goal.loop-i-preserved
loop-i-preserved c = record {
  text = members_grow c.args.line.now c.args.letter.now c.loop-i.line c.add_member.new.line c.args.set c.loop-i.i c.loop-i.invariant.text c.add_member.ensures.text;
  len = omega (arith, c.add_member.ensures.len, c.loop-i.invariant.len);
}
