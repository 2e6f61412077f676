use Rattle.std.proofs.Common.{◌≡◌, ◌+◌, ap, sym, subst, length, rules, arith}
use Rattle.std.proofs.lemmas.List.{length_push}
use Rattle.std.proofs.lemmas.Iterator.Adapters.{YieldsList-from_vec}
use Rattle.std.proofs.lemmas.Iterator.Consumers.{YieldsList-turn, YieldsList-end}
use Rattle.mon_types.specs.LimitLaws.{few_cores}
use Rattle.core_machine.specs.Start.{IsAtStart, AreAtStart}
use Rattle.core_machine.proofs.Starting.{lines_at, is_at_start, one_more}
use Rattle.core_machine.proofs.start.Machine.new.Goals as goal

pub overflow_cast-number : goal.overflow_cast-number
overflow_cast-number c =
    let turn = YieldsList-turn (YieldsList-from_vec {s = c.into_iter-lines-iterator.result} c.args.script.cores (search rules) (search rules)) c.loop-lines.yielded _ c.loop-lines.yielded_by _ c.next.new.self c.in-Some.lines c.in-Some.is c.next.ensures.steps in
    omega (arith, turn.0, c.loop-lines.invariant.count, c.len-number.ensures, c.loop-lines.cores.ok.0, c.requires.scripts, few_cores c.args.image.now.config c.cores-count.ensures.valid)

pub start-requires-clause-core : goal.start-requires-clause-core
start-requires-clause-core c =
    let turn = YieldsList-turn (YieldsList-from_vec {s = c.into_iter-lines-iterator.result} c.args.script.cores (search rules) (search rules)) c.loop-lines.yielded _ c.loop-lines.yielded_by _ c.next.new.self c.in-Some.lines c.in-Some.is c.next.ensures.steps in
    omega (arith, turn.0, c.loop-lines.invariant.count, c.len-number.ensures, c.loop-lines.cores.ok.0, c.requires.scripts)

pub start-requires-clause-lines : goal.start-requires-clause-lines
start-requires-clause-lines c =
    let turn = YieldsList-turn (YieldsList-from_vec {s = c.into_iter-lines-iterator.result} c.args.script.cores (search rules) (search rules)) c.loop-lines.yielded _ c.loop-lines.yielded_by _ c.next.new.self c.in-Some.lines c.in-Some.is c.next.ensures.steps in
    lines_at c.args.script.cores (length c.loop-lines.yielded) c.in-Some.lines c.requires.lines turn.0 turn.1

pub push_reserved-requires : goal.push_reserved-requires
push_reserved-requires c =
    let turn = YieldsList-turn (YieldsList-from_vec {s = c.into_iter-lines-iterator.result} c.args.script.cores (search rules) (search rules)) c.loop-lines.yielded _ c.loop-lines.yielded_by _ c.next.new.self c.in-Some.lines c.in-Some.is c.next.ensures.steps in
    omega (arith, turn.0, c.loop-lines.invariant.count, c.loop-lines.invariant.room, c.loop-lines.cores.ok.0, c.requires.scripts)

pub loop-lines-preserved : goal.loop-lines-preserved
loop-lines-preserved c =
    let image = c.args.image.now in
    let script = c.args.script.cores in
    let made = c.loop-lines.cores.items in
    let count = c.loop-lines.invariant.count in
    let turn = YieldsList-turn (YieldsList-from_vec {s = c.into_iter-lines-iterator.result} c.args.script.cores (search rules) (search rules)) c.loop-lines.yielded _ c.loop-lines.yielded_by _ c.next.new.self c.in-Some.lines c.in-Some.is c.next.ensures.steps in
    let same : c.len-number.result ≡ length c.loop-lines.yielded = omega (arith, count, c.len-number.ensures, c.loop-lines.cores.ok.0) in
    let here : length c.loop-lines.yielded ≡ 0 + length made = omega (arith, count) in
    record {
      count = omega (arith, ap (λ l. length l) c.push_reserved.ensures.items, length_push made c.start.result, length_push c.loop-lines.yielded c.in-Some.lines, count);
      room = omega (arith, c.push_reserved.ensures.capacity, c.loop-lines.invariant.room);
      made = subst (AreAtStart image script 0) (sym c.push_reserved.ensures.items)
          (one_more image script 0 made c.start.result c.loop-lines.invariant.made (subst (λ n. IsAtStart image script n c.start.result) here
          (is_at_start image script c.len-number.result (length c.loop-lines.yielded) c.in-Some.lines c.start.result same turn.0 turn.1 c.start.ensures.number c.start.ensures.follows)));
    }

pub returns-clause-count : goal.returns-clause-count
returns-clause-count c =
    let end = YieldsList-end (YieldsList-from_vec {s = c.into_iter-lines-iterator.result} c.args.script.cores (search rules) (search rules)) c.loop-lines.yielded _ c.loop-lines.yielded_by c.next.result c.next.new.self c.in-None.is c.next.ensures.steps in
    omega (arith, ap (λ l. length l) c.from_vec.ensures, c.loop-lines.invariant.count, end.1, c.requires.scripts)

pub returns-clause-cores : goal.returns-clause-cores
returns-clause-cores c = subst (AreAtStart c.args.image.now c.args.script.cores 0) (sym c.from_vec.ensures) c.loop-lines.invariant.made
