-- Words whose parts have them as their row are a region's; others are no region's.
use Rattle.std.proofs.Common.{◌≡◌, ◌∙◌, Some, ap, sym}
use Rattle.mon_types.specs.Owns.{own_word, at_word}
use Rattle.mon_types.proofs.RegionRows.{parts_named, found, read_found, one_found, none_found, read_none}
use Rattle.mon_types.proofs.region.unpack_own.Goals.{else-pack_own-word-via-then-pack_own-word+else-pack_at-at, else-pack_own-word-via-else-pack_own-word}
use Rattle.mon_types.proofs.region.unpack_own.Goals as goal

pub pack_own-requires : goal.pack_own-requires
pack_own-requires c = parts_named _ _ c.candidate-region.ensures

pub returns-then-pack_at-at-clause-found : goal.returns-then-pack_at-at-clause-found
returns-then-pack_at-at-clause-found c = found c.args.word c.args.at _ c.candidate-region.ensures (cc) (cc)

pub returns-then-pack_at-at-clause-only : goal.returns-then-pack_at-at-clause-only
returns-then-pack_at-at-clause-only c other h =
    ap Some (one_found c.args.word c.args.at _ other (found c.args.word c.args.at _ c.candidate-region.ensures (cc) (cc)) h)

pub returns-then-pack_at-at-clause-read : goal.returns-then-pack_at-at-clause-read
returns-then-pack_at-at-clause-read c =
    read_found c.args.word c.args.at _ (found c.args.word c.args.at _ c.candidate-region.ensures (cc) (cc))

differs : (c : goal.Joined-else-pack_own-word) → own_word c.candidate-region.result ≡ c.args.word → at_word c.candidate-region.result ≡ c.args.at → ⊥
differs c first second = elim c.else-pack_own-word.branch [
  | else-pack_own-word-via-then-pack_own-word+else-pack_at-at w ↦ w.if-pack_at-at.false (w.pack_at.ensures ∙ second)
  | else-pack_own-word-via-else-pack_own-word w ↦ w.if-pack_own-word.false (c.pack_own.ensures ∙ first)
]

pub returns-else-pack_own-word-clause-only : goal.returns-else-pack_own-word-clause-only
returns-else-pack_own-word-clause-only c other h = absurd (none_found c.args.word c.args.at _ other c.candidate-region.ensures (differs c) h)

pub returns-else-pack_own-word-clause-read : goal.returns-else-pack_own-word-clause-read
returns-else-pack_own-word-clause-read c =
    sym (read_none c.args.word c.args.at c.candidate-region.result c.candidate-region.ensures (differs c))
