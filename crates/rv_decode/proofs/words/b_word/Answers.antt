-- The parts of the even immediate make up its bits.
use Rattle.std.proofs.Common.{to_z-of_z, ◌/◌, ◌%◌, ◌∙◌, sym, ap, refl, arith}
use Rattle.rv_decode.specs.Formats.{signed_reading}
use Rattle.rv_decode.proofs.Readings.{even_bits, b_parts}
use Rattle.rv_decode.proofs.words.b_word.Goals as goal

pub returns : goal.returns
returns c =
    let bits = c.bits_of-bits.result in
    let fits = c.bits_of-bits.ensures.fits in
    let back = c.bits_of-bits.ensures.back ∙ to_z-of_z c.ranges.imm in
    let parts = b_parts bits fits (even_bits 4096 2048 bits _ refl fits back c.requires.imm_fits.multiple) in
    record {
      imm_11 = bits / 2048 % 2;
      imm_4_1 = bits / 2 % 16;
      imm_10_5 = bits / 32 % 64;
      imm_12 = bits / 4096;
      opcode_fits = omega arith;
      funct3_fits = omega arith;
      rs1_fits = omega arith;
      rs2_fits = omega arith;
      bit_11_fits = omega arith;
      low_fits = omega arith;
      middle_fits = omega arith;
      bit_12_fits = omega arith;
      fields = omega arith;
      extended = sym back ∙ ap (signed_reading 4096) parts;
    }
