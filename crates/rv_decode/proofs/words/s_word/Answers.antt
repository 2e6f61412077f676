-- The two parts of the immediate make up its bits.
use Rattle.std.proofs.Common.{to_z-of_z, ◌≡◌, ◌+◌, ◌*◌, ◌/◌, ◌%◌, ◌∙◌, sym, ap, arith}
use Rattle.rv_decode.specs.Formats.{signed_reading}
use Rattle.rv_decode.proofs.words.s_word.Goals as goal

pub returns : goal.returns
returns c =
    let bits = c.bits_of-bits.result in
    let back = c.bits_of-bits.ensures.back ∙ to_z-of_z c.ranges.imm in
    let parts : bits ≡ bits % 32 + 32 * (bits / 32) = omega arith in
    record {
      imm_4_0 = bits % 32;
      imm_11_5 = bits / 32;
      opcode_fits = omega arith;
      funct3_fits = omega arith;
      rs1_fits = omega arith;
      rs2_fits = omega arith;
      low_fits = omega arith;
      high_fits = omega arith;
      fields = omega arith;
      extended = sym back ∙ ap (signed_reading 2048) parts;
    }
