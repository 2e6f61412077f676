use Rattle.core_laws.proofs.GivenRuns.{given_is_run, words_stay_words, given_are_answered}
use Rattle.core_laws.proofs.laws.given_runs.Goals as goal

pub returns-clause-permitted : goal.returns-clause-permitted
returns-clause-permitted c = given_is_run

pub returns-clause-words : goal.returns-clause-words
returns-clause-words c = words_stay_words

pub returns-clause-answered : goal.returns-clause-answered
returns-clause-answered c = given_are_answered
