use Rattle.dram_map.proofs.Lanes.{takes_bytes}
use Rattle.dram_map.proofs.lane.take.Goals as goal

pub returns-clause-bytes : goal.returns-clause-bytes
returns-clause-bytes c = rw c.low_bytes.ensures (takes_bytes c.args.word c.args.at c.args.size)
