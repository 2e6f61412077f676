use Rattle.loaded_pages.proofs.Asking as asking
use Rattle.loaded_pages.proofs.laws.asks_word_by_word.Goals as goal

pub returns-clause-first : goal.returns-clause-first
returns-clause-first c = asking.refused_first

pub returns-clause-ok : goal.returns-clause-ok
returns-clause-ok c = asking.ok_by_words

pub returns-clause-before : goal.returns-clause-before
returns-clause-before c = asking.fits_before
