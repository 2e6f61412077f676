use Rattle.std.proofs.Common.{◌&&◌, ◌∙◌, rules, tests}
use Rattle.std.proofs.lemmas.Iterator.{YieldsList-from_slice}
use Rattle.std.proofs.lemmas.Iterator.Search.{find_from_yields_List}
use Rattle.mon_model.specs.Loading.{is_there_for, is_table_0}
use Rattle.mon_seq.proofs.words.table_0_of.Goals as goal

pub returns : goal.returns
returns c =
    c.copied.ensures
    ∙ find_from_yields_List (λ item. is_table_0 item.kind && is_there_for c.args.va item) _ _ c.find.result c.find.ensures.ran (YieldsList-from_slice c.args.items.now cc) (λ x b q k. search (rules, tests))
