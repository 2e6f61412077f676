use Rattle.std.proofs.Common.{◌∙◌, ◌∷◌, [], ◌++◌, get_or, ap, arith}
use Rattle.mon_types.specs.Owns.{own_word}
use Rattle.mon_types.specs.declared.region.Region.TheVariants as regions
use Rattle.call_machine.proofs.RowLoops.{regions_room, regions_more, regions_all}
use Rattle.call_machine.proofs.rows.add_regions.Goals as goal

pub add_row-requires : goal.add_row-requires
add_row-requires c =
    omega (arith, regions_room c.loop-item.words.items c.args.words.now.items c.args.items.now c.loop-item.item-index 160 (0, regions.Free) c.loop-item-test.true c.loop-item.invariant c.requires.room)

pub loop-item-preserved : goal.loop-item-preserved
loop-item-preserved c =
    regions_more c.loop-item.words.items c.args.words.now.items c.add_row.new.words.items c.args.items.now c.loop-item.item-index (0, regions.Free) c.loop-item-test.true c.loop-item.invariant
    (c.add_row.ensures ∙ ap (λ x. c.loop-item.words.items ++ x ∷ c.pack_at.result ∷ []) c.pack_own.ensures ∙ ap (λ x. c.loop-item.words.items ++ own_word (get_or c.args.items.now c.loop-item.item-index (0, regions.Free)).1 ∷ x ∷ []) c.pack_at.ensures)

pub returns : goal.returns
returns c = regions_all c.loop-item.words.items c.args.words.now.items c.args.items.now c.loop-item.item-index c.loop-item-test.false c.loop-item.invariant
