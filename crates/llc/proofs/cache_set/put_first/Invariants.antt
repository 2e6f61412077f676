use Rattle.std.proofs.Common.{◌≡◌, ◌++◌, ◌∷◌, false, take, drop}
use Rattle.llc.specs.Sets.{has_tag, without_tag, with_first}
use Rattle.llc.proofs.cache_set.put_first.Given as goal

-- the tags so far, the one that is moved, and what is left without the tag are the tags with it in front
abbrev pub invariant-loop-place : goal.invariant-loop-place
invariant-loop-place l = record {
  whole : take l.place-index l.tags ++ l.moved ∷ without_tag l.tag (drop l.place-index l.tags) ≡ with_first l.tag l.initial.tags;
  none : has_tag l.tag (take l.place-index l.initial.tags) ≡ false;
  rest : drop l.place-index l.tags ≡ drop l.place-index l.initial.tags;
}
