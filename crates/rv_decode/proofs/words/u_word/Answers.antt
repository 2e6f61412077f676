-- The low twelve bits of the immediate are 0.
use Rattle.std.proofs.Common.{to_z-of_z, ◌≡◌, ◌*◌, ◌/◌, ◌∙◌, sym, ap, arith}
use Rattle.rv_decode.specs.Formats.{signed_reading}
use Rattle.rv_decode.proofs.Readings.{upper_bits}
use Rattle.rv_decode.proofs.words.u_word.Goals as goal

pub returns : goal.returns
returns c =
    let bits = c.bits_of.result in
    let back = c.bits_of.ensures.back ∙ to_z-of_z c.ranges.imm in
    let low = upper_bits bits _ c.bits_of.ensures.fits back c.requires.imm_fits.multiple in
    let parts : bits ≡ 4096 * (bits / 4096) = omega arith in
    record {
      imm_31_12 = bits / 4096;
      opcode_fits = omega arith;
      rd_fits = omega arith;
      imm_fits = omega arith;
      fields = omega arith;
      extended = sym back ∙ ap (signed_reading 2147483648) parts;
    }
