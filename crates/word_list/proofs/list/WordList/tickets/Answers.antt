use Rattle.std.proofs.Common.{◌∙◌, ap, arith}
use Rattle.word_list.specs.Listed.{tickets_in}
use Rattle.word_list.proofs.Made.{whole_list}
use Rattle.word_list.proofs.list.WordList.tickets.Goals as goal

pub word-requires : goal.word-requires
word-requires c =
    let whole = whole_list c.self.inside.config c.self.inside.words c.self.inside.room c.self.invariant in
    omega (arith, whole)

pub returns : goal.returns
returns c = c.word.ensures ∙ ap tickets_in c.self.view_is
