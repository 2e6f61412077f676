use Rattle.std.proofs.Common.{sym, ap, subst}
use Rattle.word_list.specs.Listed.{Listed, StandsFor}
use Rattle.word_list.proofs.Reading.{tables_along, tables_read}
use Rattle.word_list.proofs.list.WordList.into_tables.Goals as goal

pub returns : goal.returns
returns c = λ memory stands.
    let holds = subst (λ (l : Listed). StandsFor l memory) (sym c.self.view_is) stands in
    let shape = ap (λ (l : Listed). l.shape) c.self.view_is in
    tables_along c.self.inside.config c.args.self.shape memory _ shape
    (tables_read c.self.inside.config c.self.inside.words.table.items c.self.inside.words.dram.items memory holds _ c.self.invariant.table c.self.invariant.dram
    c.regions_in.ensures c.enclaves_in.ensures c.threads_in.ensures c.cells_in.ensures c.from_vec.ensures)
