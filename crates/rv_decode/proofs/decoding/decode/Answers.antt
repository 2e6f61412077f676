-- Of an opcode with several instructions, each is found.
use Rattle.std.proofs.Common.{◌≡◌, ◌∙◌, ◌⊎◌, sym, inl, inr, arith}
use Rattle.rv_decode.specs.Parts.{opcode_of}
use Rattle.rv_decode.proofs.Opcodes.{registers_only, atomic_only, system_only}
use Rattle.rv_decode.proofs.decoding.decode.Goals as goal

pub returns-in-51-clause-only : goal.returns-in-51-clause-only
returns-in-51-clause-only c =
    let same = c.opcode.ensures in
    let either : (opcode_of c.args.word ≡ 0x33) ⊎ (opcode_of c.args.word ≡ 0x3b) =
    elim c.in-51.is [ inl e ↦ inl (omega arith) | inr e ↦ inr (omega arith) ] in
    registers_only c.args.word _ either c.registers.ensures.only_reg c.registers.ensures.only_mul

pub returns-in-47-clause-only : goal.returns-in-47-clause-only
returns-in-47-clause-only c =
    atomic_only c.args.word _ (sym c.opcode.ensures ∙ c.in-47.is) c.atomic.ensures.only

pub returns-in-115-clause-only : goal.returns-in-115-clause-only
returns-in-115-clause-only c =
    let clauses = c.system.ensures in
    system_only c.args.word _ (sym c.opcode.ensures ∙ c.in-115.is) clauses.only_ecall clauses.only_ebreak clauses.only_sfence
