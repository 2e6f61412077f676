use Rattle.std.proofs.Common.{◌≡◌, ◌∙◌, ◌++◌, [], ◌∷◌, List, length, map, ap, refl, sym, rules, arith}
use Rattle.std.proofs.lemmas.List.{length-map}
use Rattle.std.proofs.lemmas.Iterator.Adapters.{YieldsList-from_vec}
use Rattle.std.proofs.lemmas.Iterator.Consumers.{YieldsList-turn, YieldsList-end}
use Rattle.dram_map.specs.Addresses.{word_total}
use Rattle.core_machine.specs.declared.progress.Progress.{Progress}
use Rattle.lab.specs.declared.lab_core.LabCore.{LabCore}
use Rattle.lab.specs.Fresh.{new_core}
use Rattle.lab.proofs.Starts.{start_length, all_at_start, map_one, map_same, same_room, same_words}
use Rattle.lab.proofs.bench.Bench.new.Goals as goal

pub new-requires : goal.new-requires
new-requires c =
    ap length (c.into_vec.ensures ∙ c.requires.made.dram) ∙ start_length c.requires.image ∙ ap word_total (sym c.requires.made.config)

pub push_reserved-requires : goal.push_reserved-requires
push_reserved-requires c =
    let turn = YieldsList-turn (YieldsList-from_vec {s = c.into_iter-machine-iterator.result} c.args.machine.cores (search rules) (search rules)) c.loop-machine.yielded _ c.loop-machine.yielded_by _ c.next.new.self c.in-Some.machine c.in-Some.is c.next.ensures.steps in
    let count = ap (λ (ks : List LabCore). length ks) c.loop-machine.invariant.made ∙ length-map c.loop-machine.yielded new_core in
    omega (arith, turn.0, count, c.loop-machine.invariant.room, c.loop-machine.cores.ok.0)

pub loop-machine-preserved : goal.loop-machine-preserved
loop-machine-preserved c = record {
  made = c.push_reserved.ensures.items ∙ ap (λ (ks : List LabCore). ks ++ c.in_ok-core.core ∷ []) c.loop-machine.invariant.made
      ∙ ap (λ (k : LabCore). map new_core c.loop-machine.yielded ++ k ∷ []) c.in_ok-core.ensures ∙ sym (map_one c.loop-machine.yielded c.in-Some.machine);
  room = omega (arith, c.push_reserved.ensures.capacity, c.loop-machine.invariant.room);
}

pub returns-clause-stands : goal.returns-clause-stands
returns-clause-stands c =
    let end = YieldsList-end (YieldsList-from_vec {s = c.into_iter-machine-iterator.result} c.args.machine.cores (search rules) (search rules)) c.loop-machine.yielded _ c.loop-machine.yielded_by c.next.result c.next.new.self c.in-None.is c.next.ensures.steps in
    let whole : c.loop-machine.yielded ≡ c.args.machine.cores = sym (map_same c.loop-machine.yielded) ∙ end.0 in
    all_at_start c.args.machine _ refl c.in_ok-words.ensures.machine (same_words _ _ _ _ c.into_vec.ensures c.in_ok-words.ensures.start) (c.loop-machine.invariant.made ∙ ap (map new_core) whole) (same_room _ _ _ c.len.ensures c.in_ok-room.ensures)
