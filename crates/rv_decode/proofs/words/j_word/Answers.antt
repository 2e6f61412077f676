-- The parts of the even immediate make up its bits.
use Rattle.std.proofs.Common.{to_z-of_z, ◌/◌, ◌%◌, ◌∙◌, sym, ap, refl, arith}
use Rattle.rv_decode.specs.Formats.{signed_reading}
use Rattle.rv_decode.proofs.Readings.{even_bits, j_parts}
use Rattle.rv_decode.proofs.words.j_word.Goals as goal

pub returns : goal.returns
returns c =
    let bits = c.bits_of-bits.result in
    let fits = c.bits_of-bits.ensures.fits in
    let back = c.bits_of-bits.ensures.back ∙ to_z-of_z c.ranges.imm in
    let parts = j_parts bits fits (even_bits 1048576 524288 bits _ refl fits back c.requires.imm_fits.multiple) in
    record {
      imm_19_12 = bits / 4096 % 256;
      imm_11 = bits / 2048 % 2;
      imm_10_1 = bits / 2 % 1024;
      imm_20 = bits / 1048576;
      opcode_fits = omega arith;
      rd_fits = omega arith;
      high_fits = omega arith;
      bit_11_fits = omega arith;
      low_fits = omega arith;
      bit_20_fits = omega arith;
      fields = omega arith;
      extended = sym back ∙ ap (signed_reading 1048576) parts;
    }
