use Rattle.std.proofs.Common.{◌∙◌, rules}
use Rattle.std.specs.Slice.Iter.{chunks_rest, chunks_size}
use Rattle.sanctum.proofs.Pairs.{pair_added, all_paired}
use Rattle.sanctum.proofs.image.pair_words.Goals as goal

pub loop-pair-preserved : goal.loop-pair-preserved
loop-pair-preserved c =
    let before = c.loop-pair.pair-iterator in
    let steps = c.in-Some.ensures.steps in
    record {
      can = search rules;
      finite = tt;
      size = steps.0 ∙ c.loop-pair.invariant.size;
      made = pair_added c.loop-pair.pairs c.push.new.self (chunks_rest before) (chunks_rest c.next.new.self) c.in-Some.pair.now c.args.words.now c.join_words.result (chunks_size before)
          c.in_ok-push.ensures.ok c.loop-pair.invariant.size steps.1.0 steps.1.1 steps.1.2 c.join_words.ensures c.loop-pair.invariant.made;
    }

pub returns : goal.returns
returns c = all_paired c.loop-pair.pairs (chunks_rest c.loop-pair.pair-iterator) c.args.words.now c.in-None.ensures.steps.1.0 c.loop-pair.invariant.made
