use Rattle.std.proofs.Common.{◌+◌, ◌/◌, sym, ap, ◌∙◌, arith}
use Rattle.std.proofs.lemmas.List.{take_rest}
use Rattle.image_read.specs.Reading.{words_of}
use Rattle.image_read.proofs.ReadLoops.{segment_made}
use Rattle.image_read.proofs.parts.segment_at.Goals as goal

pub returns-clause-segment : goal.returns-clause-segment
returns-clause-segment c =
    segment_made c.args.config.now c.args.bytes.now c.args.number c.args.place c.args.at c.in_ok-address.address c.in_ok-size.size c.in_ok-zero_u32_at.field-0 c.in_ok-address-2.address c.in_ok-words.words
    (sym c.address_at.ensures.address ∙ c.in_ok-address.was) (sym c.size_at.ensures.size ∙ c.in_ok-size.was) (sym c.zero_u32_at.ensures.zero ∙ c.in_ok-zero_u32_at.was) (sym c.placed.ensures.address ∙ c.in_ok-address-2.was)
    (omega (arith, c.if-bytes-end.false)) (c.in_ok-words.ensures.words ∙ ap (words_of (c.in_ok-size.size / 8)) (take_rest c.args.bytes.now (c.args.at + 16)))
