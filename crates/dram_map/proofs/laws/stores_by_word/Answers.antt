use Rattle.dram_map.proofs.ByWord.{put_by_word, copied_by_word, cleared_by_word, region_cleared_by_word}
use Rattle.dram_map.proofs.laws.stores_by_word.Goals as goal

pub returns-clause-put : goal.returns-clause-put
returns-clause-put c = put_by_word

pub returns-clause-copied : goal.returns-clause-copied
returns-clause-copied c = copied_by_word

pub returns-clause-cleared : goal.returns-clause-cleared
returns-clause-cleared c = cleared_by_word

pub returns-clause-region : goal.returns-clause-region
returns-clause-region c = region_cleared_by_word
