use Rattle.mon_facts.proofs.FactsKept.{after_kept}
use Rattle.loaded_pages.proofs.Loads as loads
use Rattle.loaded_pages.proofs.laws.content_stays.Goals as goal

pub returns-clause-first : goal.returns-clause-first
returns-clause-first c = loads.content_start

pub returns-clause-next : goal.returns-clause-next
returns-clause-next c s content core call words digest ticket small tables facts holds =
    loads.content_stays s content core call words digest ticket tables.whole facts (after_kept s core call digest ticket small tables facts) holds
