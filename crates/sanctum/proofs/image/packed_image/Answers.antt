use Rattle.std.proofs.Common.{ap, replicate, ◌∙◌, ℕ}
use Rattle.sanctum.specs.Packing.{packed_start}
use Rattle.sanctum.proofs.PackedImage.{made_is_image}
use Rattle.sanctum.proofs.image.packed_image.Goals as goal

pub returns-clause-valid : goal.returns-clause-valid
returns-clause-valid c =
    made_is_image c.args.config c.args.words.now c.in_ok-packed_starts.field-0 c.in_ok-packed_segments.field-0 (c.in_ok-packed_starts.ensures ∙ ap (λ (n : ℕ). replicate n packed_start) c.cores.ensures.cores)
    c.in_ok-packed_segments.ensures c.cores.ensures.valid c.requires
