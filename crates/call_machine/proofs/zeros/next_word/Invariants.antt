use Rattle.std.proofs.Common.{◌≡◌, ◌*◌, max}
use Rattle.call_machine.specs.Rest.{region_words_from}
use Rattle.call_machine.proofs.zeros.next_word.Given as goal

-- no word before this page is one of the region
abbrev pub invariant-loop-page : goal.invariant-loop-page
invariant-loop-page l = region_words_from l.config l.r l.from ≡ region_words_from l.config l.r (max l.from (512 * l.page))
