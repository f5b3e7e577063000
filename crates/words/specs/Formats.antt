-- The formats: which registers each holds, where the bits of its immediate stand, and which immediates it can hold.
-- Assumes nothing.
use Rattle.std.specs.Prelude.{ℕ, ◌+◌, ◌*◌, ◌/◌, ◌%◌, ◌^◌, Bool, true, false, cond, ◌&&◌, ℤ, pos, ◌-ℤ◌, neg_ℤ, ◌==◌, int_le, int_lt, nat_lt}
use Rattle.std.proofs.Common.{of_z}
use Rattle.std.specs.Int.{w32}
use Rattle.isa.specs.declared.instruction.Instruction.{Instruction}
use Rattle.words.specs.Fields.{Fields}
use Rattle.isa.specs.declared.operation.Operation.{Operation}
use Rattle.words.specs.declared.table.Format.{Format}
use Rattle.words.specs.declared.table.Format.TheVariants.{R, I, Shift, B, U, J, Fixed}
use Rattle.words.specs.declared.table.Row.{Row}
use Rattle.words.specs.Table.{row_of}

-- a number of two's complement, whose top bit is worth `half`
abbrev pub signed : ℕ → ℕ → ℤ
signed half n = cond (nat_lt n half) (pos n) (pos n -ℤ pos (2 * half))

-- The immediate that the fields hold, as the manual draws the formats:
--   I      funct7 rs2 = imm[11:0]
--   Shift  rs2 = imm[4:0]
--   B      funct7 = imm[12|10:5], rd = imm[4:1|11]
--   U      funct7 rs2 rs1 funct3 = the upper twenty bits
--   J      funct7 = imm[20|10:5], rs2 = imm[4:1|11], rs1 funct3 = imm[19:12]
abbrev pub immediate_of : Format → Fields → ℤ
immediate_of R f = pos 0
immediate_of I f = signed (2 ^ 11) (f.funct7 * 2 ^ 5 + f.rs2)
immediate_of Shift f = pos f.rs2
immediate_of B f = signed (2 ^ 12) (f.funct7 / 2 ^ 6 * 2 ^ 12 + f.rd % 2 * 2 ^ 11 + f.funct7 % 2 ^ 6 * 2 ^ 5 + f.rd / 2 * 2)
immediate_of U f = pos (f.funct7 * 2 ^ 13 + f.rs2 * 2 ^ 8 + f.rs1 * 2 ^ 3 + f.funct3)
immediate_of J f =
    signed (2 ^ 20)
    (f.funct7 / 2 ^ 6 * 2 ^ 20 + f.rs1 * 2 ^ 15 + f.funct3 * 2 ^ 12 + f.rs2 % 2 * 2 ^ 11 + f.funct7 % 2 ^ 6 * 2 ^ 5 + f.rs2 / 2 * 2)
immediate_of Fixed f = pos 0

-- the registers that a format has
abbrev pub has_rd : Format → Bool
has_rd R = true
has_rd I = true
has_rd Shift = true
has_rd B = false
has_rd U = true
has_rd J = true
has_rd Fixed = false

abbrev pub has_rs1 : Format → Bool
has_rs1 R = true
has_rs1 I = true
has_rs1 Shift = true
has_rs1 B = true
has_rs1 U = false
has_rs1 J = false
has_rs1 Fixed = false

abbrev pub has_rs2 : Format → Bool
has_rs2 R = true
has_rs2 I = false
has_rs2 Shift = false
has_rs2 B = true
has_rs2 U = false
has_rs2 J = false
has_rs2 Fixed = false

-- the instruction that the fields hold: 0 where the format lacks a register
abbrev pub held : Format → Operation → Fields → Instruction
held k o f =
    record {
      operation = o;
      rd = cond (has_rd k) f.rd 0;
      rs1 = cond (has_rs1 k) f.rs1 0;
      rs2 = cond (has_rs2 k) f.rs2 0;
      immediate = immediate_of k f;
    }

abbrev pub taken : Operation → Fields → Instruction
taken o f = held (row_of o).format o f

-- a register that the format has is below 32, one that it lacks is 0
abbrev pub register_fits : Bool → ℕ → Bool
register_fits has r = cond has (nat_lt r 32) (r == 0)

abbrev pub registers_fit : Format → Instruction → Bool
registers_fit k i = register_fits (has_rd k) i.rd && (register_fits (has_rs1 k) i.rs1 && register_fits (has_rs2 k) i.rs2)

-- from -half to half - 1
abbrev pub within : ℕ → ℤ → Bool
within half z = int_le (neg_ℤ (pos half)) z && int_lt z (pos half)

-- from 0 to below - 1
abbrev pub natural : ℕ → ℤ → Bool
natural below z = int_le (pos 0) z && int_lt z (pos below)

-- the immediates that a format can hold; a number is even if its bits of two's complement are
abbrev pub immediate_fits : Format → ℤ → Bool
immediate_fits R z = of_z w32 z == 0
immediate_fits I z = within (2 ^ 11) z
immediate_fits Shift z = natural 32 z
immediate_fits B z = within (2 ^ 12) z && of_z w32 z % 2 == 0
immediate_fits U z = natural (2 ^ 20) z
immediate_fits J z = within (2 ^ 20) z && of_z w32 z % 2 == 0
immediate_fits Fixed z = of_z w32 z == 0

-- the fields of an instruction: u is the immediate's 32 bits of two's complement
abbrev pub laid : Format → Row → Instruction → ℕ → Fields
laid R k i u = record { opcode = k.opcode; rd = i.rd; funct3 = k.funct3; rs1 = i.rs1; rs2 = i.rs2; funct7 = k.funct7 }
laid I k i u =
    record { opcode = k.opcode; rd = i.rd; funct3 = k.funct3; rs1 = i.rs1; rs2 = u % 2 ^ 5; funct7 = u / 2 ^ 5 % 2 ^ 7 }
laid Shift k i u = record { opcode = k.opcode; rd = i.rd; funct3 = k.funct3; rs1 = i.rs1; rs2 = u % 2 ^ 5; funct7 = k.funct7 }
laid B k i u =
    record {
      opcode = k.opcode;
      rd = u / 2 % 2 ^ 4 * 2 + u / 2 ^ 11 % 2;
      funct3 = k.funct3;
      rs1 = i.rs1;
      rs2 = i.rs2;
      funct7 = u / 2 ^ 12 % 2 * 2 ^ 6 + u / 2 ^ 5 % 2 ^ 6;
    }
laid U k i u =
    record {
      opcode = k.opcode;
      rd = i.rd;
      funct3 = u % 2 ^ 3;
      rs1 = u / 2 ^ 3 % 2 ^ 5;
      rs2 = u / 2 ^ 8 % 2 ^ 5;
      funct7 = u / 2 ^ 13 % 2 ^ 7;
    }
laid J k i u =
    record {
      opcode = k.opcode;
      rd = i.rd;
      funct3 = u / 2 ^ 12 % 2 ^ 3;
      rs1 = u / 2 ^ 15 % 2 ^ 5;
      rs2 = u / 2 % 2 ^ 4 * 2 + u / 2 ^ 11 % 2;
      funct7 = u / 2 ^ 20 % 2 * 2 ^ 6 + u / 2 ^ 5 % 2 ^ 6;
    }
laid Fixed k i u = record { opcode = k.opcode; rd = 0; funct3 = k.funct3; rs1 = 0; rs2 = k.rs2; funct7 = k.funct7 }

abbrev pub lay_of : Row → Instruction → Fields
lay_of k i = laid k.format k i (of_z w32 i.immediate)
