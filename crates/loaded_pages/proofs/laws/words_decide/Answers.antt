use Rattle.hist.specs.History.{state_after}
use Rattle.loaded_pages.specs.History.{content_at}
use Rattle.loaded_pages.proofs.Histories.{history_reaches}
use Rattle.loaded_pages.proofs.Words as words
use Rattle.loaded_pages.proofs.laws.words_decide.Goals as goal

pub returns-clause-state : goal.returns-clause-state
returns-clause-state c s content core call tables holds load none = words.words_decide s content core tables holds call load none

pub returns-clause-history : goal.returns-clause-history
returns-clause-history c shape logs answers k core call is legal load none =
    let r = history_reaches shape logs answers k is legal in
    words.words_decide (state_after shape logs k) (content_at shape logs answers k) core r.tables r.holds call load none

pub returns-clause-place : goal.returns-clause-place
returns-clause-place c s content core call tables holds load ok = words.goes_last s content tables holds core call load ok
