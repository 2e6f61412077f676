-- The formats of instruction words and the immediates in them, of the RISC-V Unprivileged ISA (Base Instruction
-- Formats, Immediate Encoding Variants). A field imm_11_5 holds the bits 11 to 5 of an immediate.
use Rattle.std.specs.Prelude.{◌≡◌, ℕ, ◌+◌, ◌*◌, ◌^◌, ◌<◌, ℤ, pos, ◌-ℤ◌, if◌then◌else◌, nat_lt}

-- what bits that count to 2 * half say in two's complement: from half on the upper bit is set, and stands for -half
abbrev pub signed_reading : ℕ → ℕ → ℤ
signed_reading half bits = if nat_lt bits half then pos bits else pos bits -ℤ pos (2 * half)

-- format R: two sources and a destination
pub record IsR (word opcode rd funct3 rs1 rs2 funct7 : ℕ) : Type 0 where
  pub opcode_fits : opcode < 2 ^ 7
  pub rd_fits : rd < 2 ^ 5
  pub funct3_fits : funct3 < 2 ^ 3
  pub rs1_fits : rs1 < 2 ^ 5
  pub rs2_fits : rs2 < 2 ^ 5
  pub funct7_fits : funct7 < 2 ^ 7
  pub fields : word ≡ opcode + 2 ^ 7 * rd + 2 ^ 12 * funct3 + 2 ^ 15 * rs1 + 2 ^ 20 * rs2 + 2 ^ 25 * funct7

-- format I: a source, a destination and an immediate of 12 bits
pub record IsI (word opcode rd funct3 rs1 : ℕ) (imm : ℤ) : Type 0 where
  pub imm_11_0 : ℕ
  pub opcode_fits : opcode < 2 ^ 7
  pub rd_fits : rd < 2 ^ 5
  pub funct3_fits : funct3 < 2 ^ 3
  pub rs1_fits : rs1 < 2 ^ 5
  pub imm_fits : imm_11_0 < 2 ^ 12
  pub fields : word ≡ opcode + 2 ^ 7 * rd + 2 ^ 12 * funct3 + 2 ^ 15 * rs1 + 2 ^ 20 * imm_11_0
  pub extended : imm ≡ signed_reading (2 ^ 11) imm_11_0

-- format I of a shift by a number below limit, 64 or 32: the number stands in bits 25 to 20, and the six bits above
-- it say which shift it is. The number of a shift of 32 bits is below 32, so its bit 25 is 0.
pub record IsShift (word opcode rd funct3 rs1 limit upper : ℕ) (imm : ℤ) : Type 0 where
  pub number : ℕ
  pub opcode_fits : opcode < 2 ^ 7
  pub rd_fits : rd < 2 ^ 5
  pub funct3_fits : funct3 < 2 ^ 3
  pub rs1_fits : rs1 < 2 ^ 5
  pub number_fits : number < 2 ^ 6
  pub below_limit : number < limit
  pub upper_fits : upper < 2 ^ 6
  pub fields : word ≡ opcode + 2 ^ 7 * rd + 2 ^ 12 * funct3 + 2 ^ 15 * rs1 + 2 ^ 20 * number + 2 ^ 26 * upper
  pub by_number : imm ≡ pos number

-- format S: two sources and an immediate of 12 bits in two parts
pub record IsS (word opcode funct3 rs1 rs2 : ℕ) (imm : ℤ) : Type 0 where
  pub imm_4_0 : ℕ
  pub imm_11_5 : ℕ
  pub opcode_fits : opcode < 2 ^ 7
  pub funct3_fits : funct3 < 2 ^ 3
  pub rs1_fits : rs1 < 2 ^ 5
  pub rs2_fits : rs2 < 2 ^ 5
  pub low_fits : imm_4_0 < 2 ^ 5
  pub high_fits : imm_11_5 < 2 ^ 7
  pub fields : word ≡ opcode + 2 ^ 7 * imm_4_0 + 2 ^ 12 * funct3 + 2 ^ 15 * rs1 + 2 ^ 20 * rs2 + 2 ^ 25 * imm_11_5
  pub extended : imm ≡ signed_reading (2 ^ 11) (imm_4_0 + 2 ^ 5 * imm_11_5)

-- format B: as S, with an even immediate of 13 bits whose bit 11 stands below its bits 4 to 1
pub record IsB (word opcode funct3 rs1 rs2 : ℕ) (imm : ℤ) : Type 0 where
  pub imm_11 : ℕ
  pub imm_4_1 : ℕ
  pub imm_10_5 : ℕ
  pub imm_12 : ℕ
  pub opcode_fits : opcode < 2 ^ 7
  pub funct3_fits : funct3 < 2 ^ 3
  pub rs1_fits : rs1 < 2 ^ 5
  pub rs2_fits : rs2 < 2 ^ 5
  pub bit_11_fits : imm_11 < 2
  pub low_fits : imm_4_1 < 2 ^ 4
  pub middle_fits : imm_10_5 < 2 ^ 6
  pub bit_12_fits : imm_12 < 2
  pub fields : word
      ≡ opcode + 2 ^ 7 * imm_11 + 2 ^ 8 * imm_4_1 + 2 ^ 12 * funct3 + 2 ^ 15 * rs1 + 2 ^ 20 * rs2 + 2 ^ 25 * imm_10_5
      + 2 ^ 31 * imm_12
  pub extended : imm ≡ signed_reading (2 ^ 12) (2 * imm_4_1 + 2 ^ 5 * imm_10_5 + 2 ^ 11 * imm_11 + 2 ^ 12 * imm_12)

-- format U: a destination and the bits 31 to 12 of an immediate of 32 bits whose low bits are 0
pub record IsU (word opcode rd : ℕ) (imm : ℤ) : Type 0 where
  pub imm_31_12 : ℕ
  pub opcode_fits : opcode < 2 ^ 7
  pub rd_fits : rd < 2 ^ 5
  pub imm_fits : imm_31_12 < 2 ^ 20
  pub fields : word ≡ opcode + 2 ^ 7 * rd + 2 ^ 12 * imm_31_12
  pub extended : imm ≡ signed_reading (2 ^ 31) (2 ^ 12 * imm_31_12)

-- format J: a destination and an even immediate of 21 bits in four parts
pub record IsJ (word opcode rd : ℕ) (imm : ℤ) : Type 0 where
  pub imm_19_12 : ℕ
  pub imm_11 : ℕ
  pub imm_10_1 : ℕ
  pub imm_20 : ℕ
  pub opcode_fits : opcode < 2 ^ 7
  pub rd_fits : rd < 2 ^ 5
  pub high_fits : imm_19_12 < 2 ^ 8
  pub bit_11_fits : imm_11 < 2
  pub low_fits : imm_10_1 < 2 ^ 10
  pub bit_20_fits : imm_20 < 2
  pub fields : word ≡ opcode + 2 ^ 7 * rd + 2 ^ 12 * imm_19_12 + 2 ^ 20 * imm_11 + 2 ^ 21 * imm_10_1 + 2 ^ 31 * imm_20
  pub extended : imm ≡ signed_reading (2 ^ 20) (2 * imm_10_1 + 2 ^ 11 * imm_11 + 2 ^ 12 * imm_19_12 + 2 ^ 20 * imm_20)
