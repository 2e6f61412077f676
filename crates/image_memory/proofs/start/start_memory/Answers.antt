use Rattle.std.proofs.Common.{◌≡◌, ℕ, ◌+◌, List, ◌∷◌, drop, sym, ap, ◌∙◌, subst, arith}
use Rattle.std.proofs.lemmas.List.{drop_more, at_drop_all}
use Rattle.mon_types.specs.Shape.{Shape}
use Rattle.mon_types.specs.declared.image.Segment.{Segment}
use Rattle.dram_map.specs.Addresses.{dram_start}
use Rattle.image_read.specs.Image.{segment_end, AreSegments}
use Rattle.image_memory.specs.StartMemory.{start_memory}
use Rattle.image_memory.proofs.Whole.{IsLeft, from_lower, one_less, none_left}
use Rattle.image_memory.proofs.start.start_memory.Goals as goal

pub loop-segment-preserved : goal.loop-segment-preserved
loop-segment-preserved c =
    let shape : Shape = c.args.image.now.config in
    let all : List Segment = c.as_slice-segments.result.now in
    let k : ℕ = c.loop-segment.segment-index in
    let s : Segment = c.segment-item.result in
    let rest : List Segment = drop (k + 1) all in
    let next : drop k all ≡ s ∷ rest = drop_more all k s c.loop-segment-test.true ∙ ap (λ (x : Segment). x ∷ rest) (sym c.segment-item.is) in
    let are : AreSegments shape dram_start (s ∷ rest) = subst (AreSegments shape dram_start) next c.loop-segment.invariant.ascend in
    record {
      size = c.store_segment.ensures.size ∙ c.loop-segment.invariant.size;
      ascend = from_lower shape (segment_end s) dram_start rest (omega (arith, are.0.from)) are.1;
      left = one_less shape all c.loop-segment.memory c.store_segment.new.memory dram_start s rest c.loop-segment.invariant.size are c.store_segment.ensures.words
          (subst (IsLeft shape all c.loop-segment.memory) next c.loop-segment.invariant.left);
    }

pub returns-clause-words : goal.returns-clause-words
returns-clause-words c =
    let shape : Shape = c.args.image.now.config in
    let all : List Segment = c.as_slice-segments.result.now in
    let words : List ℕ = c.loop-segment.memory in
    let nothing = at_drop_all (λ (x : List Segment). x) all c.loop-segment.segment-index c.loop-segment-test.false in
    none_left shape all words c.loop-segment.invariant.size (subst (IsLeft shape all words) nothing c.loop-segment.invariant.left)
    ∙ ap (start_memory shape) c.as_slice-segments.ensures
