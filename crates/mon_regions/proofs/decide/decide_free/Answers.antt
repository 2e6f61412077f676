use Rattle.mon_regions.proofs.decide.decide_free.Goals as goal

pub returns-then-have_all_flushed : goal.returns-then-have_all_flushed
returns-then-have_all_flushed c = rw (c.in-Blocked.is, ← c.have_all_flushed.ensures, c.if-have_all_flushed.true) c.done.ensures

pub returns-else-have_all_flushed : goal.returns-else-have_all_flushed
returns-else-have_all_flushed c = rw (c.in-Blocked.is, ← c.have_all_flushed.ensures, c.if-have_all_flushed.false)
