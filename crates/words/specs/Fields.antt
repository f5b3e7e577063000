-- A word of 32 bits as six fields, from the low end: opcode 7 bits, rd 5, funct3 3, rs1 5, rs2 5, funct7 7.
-- Assumes nothing.
use Rattle.std.specs.Prelude.{ℕ, ◌+◌, ◌*◌, ◌/◌, ◌%◌, ◌^◌, ◌<◌}

pub record Fields : Type 0 where
  pub opcode : ℕ
  pub rd : ℕ
  pub funct3 : ℕ
  pub rs1 : ℕ
  pub rs2 : ℕ
  pub funct7 : ℕ

abbrev pub cut : ℕ → Fields
cut w =
    record {
      opcode = w % 2 ^ 7;
      rd = w / 2 ^ 7 % 2 ^ 5;
      funct3 = w / 2 ^ 12 % 2 ^ 3;
      rs1 = w / 2 ^ 15 % 2 ^ 5;
      rs2 = w / 2 ^ 20 % 2 ^ 5;
      funct7 = w / 2 ^ 25;
    }

abbrev pub joined : Fields → ℕ
joined f = f.funct7 * 2 ^ 25 + f.rs2 * 2 ^ 20 + f.rs1 * 2 ^ 15 + f.funct3 * 2 ^ 12 + f.rd * 2 ^ 7 + f.opcode

-- each field within its bits
abbrev pub Whole : Fields → Type 0
Whole f =
    (f.opcode < 2 ^ 7) × (f.rd < 2 ^ 5) × (f.funct3 < 2 ^ 3) × (f.rs1 < 2 ^ 5) × (f.rs2 < 2 ^ 5) × (f.funct7 < 2 ^ 7)
