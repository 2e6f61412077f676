use Rattle.std.proofs.Common.{sym, ◌∙◌}
use Rattle.rv_asm.specs.Parts.{spots_in}
use Rattle.std.proofs.lemmas.Map.Text.{btree_map_updates_str}
use Rattle.rv_asm.proofs.Spots.{is_kept_new}
use Rattle.rv_asm.proofs.label.keep_first.Goals as goal

pub returns-in_ok-insert : goal.returns-in_ok-insert
returns-in_ok-insert c =
    is_kept_new (spots_in c.args.labels.now) (spots_in c.insert.new.self) c.args.name.now c.args.spot (sym c.contains_key.ensures ∙ c.if-not-contains_key.true) (btree_map_updates_str c.args.name.now c.args.labels.now c.insert.new.self _ c.in_ok-insert.ensures.updates)
