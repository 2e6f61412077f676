use Rattle.std.proofs.Common.{rules, sym, subst, arith}
use Rattle.dram_map.specs.Lanes.{PutsBytes}
use Rattle.dram_map.proofs.Lanes.{lane_within, lane_begins, scale_is, exchanged, with_lane_below, placed_below, puts_bytes}
use Rattle.dram_map.proofs.lane.put.Goals as goal

pub overflow_mul-result-2 : goal.overflow_mul-result-2
overflow_mul-result-2 c =
    let scale = scale_is c.args.at (lane_begins c.args.at c.args.size c.requires.lane) in
    let placed = placed_below c.args.at c.args.size c.args.value (lane_within c.args.at c.args.size c.requires.lane) in
    rw (c.low_bytes.ensures, scale) (search rules)

pub overflow_add-result : goal.overflow_add-result
overflow_add-result c =
    let scale = scale_is c.args.at (lane_begins c.args.at c.args.size c.requires.lane) in
    let below = with_lane_below c.args.word c.args.at c.args.size c.args.value (omega arith) (lane_within c.args.at c.args.size c.requires.lane) in
    let same = exchanged c.args.word c.args.at c.args.size c.args.value in
    rw (c.low_bytes-old.ensures, c.low_bytes.ensures, scale, same) (search rules)

pub returns-clause-number : goal.returns-clause-number
returns-clause-number c =
    let scale = scale_is c.args.at (lane_begins c.args.at c.args.size c.requires.lane) in
    rw (c.low_bytes-old.ensures, c.low_bytes.ensures, scale) (exchanged c.args.word c.args.at c.args.size c.args.value)

pub returns-clause-bytes : goal.returns-clause-bytes
returns-clause-bytes c =
    subst (PutsBytes c.args.word c.args.at c.args.size c.args.value) (sym (returns-clause-number c)) (puts_bytes c.args.word c.args.at c.args.size c.args.value (omega arith) (lane_within c.args.at c.args.size c.requires.lane))
