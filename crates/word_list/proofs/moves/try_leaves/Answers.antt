use Rattle.word_list.proofs.Trying.{left_where_free, left_where_held}
use Rattle.word_list.proofs.moves.try_leaves.Goals as goal

pub returns-then-found-eq0 : goal.returns-then-found-eq0
returns-then-found-eq0 c = left_where_free _ _ c.if-found-eq0.true

pub returns-else-found-eq0 : goal.returns-else-found-eq0
returns-else-found-eq0 c = left_where_held _ _ c.if-found-eq0.false
