-- What a classed instruction works out from its address pc and the values a and b of its source registers.
-- Registers and addresses are numbers below 2 ^ 32; a result is taken modulo 2 ^ 32.
-- Of the library: `to_z w32` reads 32 bits as two's complement, `int_div` and `int_rem` are the quotient rounded
-- toward zero and the remainder with the dividend's sign, and `shr_z x d` is x divided by d, rounded down.
-- Assumes nothing.
use Rattle.std.specs.Prelude.{ℕ, suc, ◌+◌, ◌-◌, ◌*◌, ◌/◌, ◌%◌, ◌^◌, Bool, true, false, cond, not, ℤ, pos, negsuc, ◌-ℤ◌, Some, None, Option, ◌==◌, bit_and, bit_or, bit_xor, int_div, int_lt, int_rem, nat_lt}
use Rattle.std.specs.Int.Signed.{shr_z}
use Rattle.std.proofs.Common.{to_z}
use Rattle.std.specs.Int.{w32}
use Rattle.isa.specs.declared.instruction.Instruction.{Instruction}
use Rattle.isa.specs.declared.operation.Class.{Class}
use Rattle.isa.specs.declared.operation.Operation.{Operation}
use Rattle.isa.specs.declared.operation.Operation.TheVariants.{Lui, Auipc, Jal, Jalr, Beq, Bne, Blt, Bge, Bltu, Bgeu, Addi, Slti, Sltiu, Xori, Ori, Andi, Slli, Srli, Srai, Add, Sub, Sll, Slt, Sltu, Xor, Srl, Sra, Or, And, Mul, Div, Divu, Rem, Remu, Ecall, Ebreak, Mret}
use Rattle.isa.specs.declared.outcome.Outcome.{Outcome}
use Rattle.isa.specs.declared.outcome.Outcome.TheVariants.{Done, Misaligned}
use Rattle.isa.specs.Classes.{class_of}

-- the number from 0 to 2 ^ 32 - 1 that an integer is congruent to modulo 2 ^ 32; `negsuc n` is -(n + 1)
abbrev pub residue : ℤ → ℕ
residue (pos n) = n % 2 ^ 32
residue (negsuc n) = 2 ^ 32 - suc (n % 2 ^ 32)

abbrev pub sum : ℕ → ℕ → ℕ
sum x y = (x + y) % 2 ^ 32

abbrev pub difference : ℕ → ℕ → ℕ
difference x y = residue (pos x -ℤ pos y)

abbrev pub product : ℕ → ℕ → ℕ
product x y = x * y % 2 ^ 32

-- the upper twenty bits
abbrev pub upper : ℕ → ℕ
upper x = x * 2 ^ 12 % 2 ^ 32

-- shifts go by the low five bits of the second operand
abbrev pub left : ℕ → ℕ → ℕ
left x y = x * 2 ^ (y % 32) % 2 ^ 32

abbrev pub right : ℕ → ℕ → ℕ
right x y = x / 2 ^ (y % 32)

abbrev pub right_signed : ℕ → ℕ → ℕ
right_signed x y = residue (shr_z (to_z w32 x) (2 ^ (y % 32)))

-- the order of signed numbers
abbrev pub less : ℕ → ℕ → Bool
less x y = int_lt (to_z w32 x) (to_z w32 y)

abbrev pub flag : Bool → ℕ
flag c = cond c 1 0

-- division by 0 gives all ones, and leaves the dividend as the remainder;
-- -2^31 by -1 is 2^31, whose residue is 0x80000000, with remainder 0
abbrev pub quotient : ℕ → ℕ → ℕ
quotient x y = cond (y == 0) (2 ^ 32 - 1) (residue (int_div (to_z w32 x) (to_z w32 y)))

abbrev pub remainder : ℕ → ℕ → ℕ
remainder x y = cond (y == 0) x (residue (int_rem (to_z w32 x) (to_z w32 y)))

abbrev pub quotient_unsigned : ℕ → ℕ → ℕ
quotient_unsigned x y = cond (y == 0) (2 ^ 32 - 1) (x / y)

abbrev pub remainder_unsigned : ℕ → ℕ → ℕ
remainder_unsigned x y = cond (y == 0) x (x % y)

-- the value for rd: z is the immediate; 0 for a branch
abbrev pub value_of : Operation → ℤ → ℕ → ℕ → ℕ → ℕ
value_of Lui z pc a b = upper (residue z)
value_of Auipc z pc a b = sum pc (upper (residue z))
value_of Jal z pc a b = sum pc 4
value_of Jalr z pc a b = sum pc 4
value_of Beq z pc a b = 0
value_of Bne z pc a b = 0
value_of Blt z pc a b = 0
value_of Bge z pc a b = 0
value_of Bltu z pc a b = 0
value_of Bgeu z pc a b = 0
value_of Addi z pc a b = sum a (residue z)
value_of Slti z pc a b = flag (less a (residue z))
value_of Sltiu z pc a b = flag (nat_lt a (residue z))
value_of Xori z pc a b = bit_xor a (residue z)
value_of Ori z pc a b = bit_or a (residue z)
value_of Andi z pc a b = bit_and a (residue z)
value_of Slli z pc a b = left a (residue z)
value_of Srli z pc a b = right a (residue z)
value_of Srai z pc a b = right_signed a (residue z)
value_of Add z pc a b = sum a b
value_of Sub z pc a b = difference a b
value_of Sll z pc a b = left a b
value_of Slt z pc a b = flag (less a b)
value_of Sltu z pc a b = flag (nat_lt a b)
value_of Xor z pc a b = bit_xor a b
value_of Srl z pc a b = right a b
value_of Sra z pc a b = right_signed a b
value_of Or z pc a b = bit_or a b
value_of And z pc a b = bit_and a b
value_of Mul z pc a b = product a b
value_of Div z pc a b = quotient a b
value_of Divu z pc a b = quotient_unsigned a b
value_of Rem z pc a b = remainder a b
value_of Remu z pc a b = remainder_unsigned a b
value_of Ecall z pc a b = 0
value_of Ebreak z pc a b = 0
value_of Mret z pc a b = 0

-- whether control goes elsewhere than to the next word
abbrev pub departs : Operation → ℕ → ℕ → Bool
departs Lui a b = false
departs Auipc a b = false
departs Jal a b = true
departs Jalr a b = true
departs Beq a b = a == b
departs Bne a b = not (a == b)
departs Blt a b = less a b
departs Bge a b = not (less a b)
departs Bltu a b = nat_lt a b
departs Bgeu a b = not (nat_lt a b)
departs Addi a b = false
departs Slti a b = false
departs Sltiu a b = false
departs Xori a b = false
departs Ori a b = false
departs Andi a b = false
departs Slli a b = false
departs Srli a b = false
departs Srai a b = false
departs Add a b = false
departs Sub a b = false
departs Sll a b = false
departs Slt a b = false
departs Sltu a b = false
departs Xor a b = false
departs Srl a b = false
departs Sra a b = false
departs Or a b = false
departs And a b = false
departs Mul a b = false
departs Div a b = false
departs Divu a b = false
departs Rem a b = false
departs Remu a b = false
departs Ecall a b = false
departs Ebreak a b = false
departs Mret a b = false

-- where it then goes: an offset from pc, or for JALR from rs1, with the lowest bit cleared
abbrev pub target_of : Operation → ℤ → ℕ → ℕ → ℕ
target_of Lui z pc a = sum pc (residue z)
target_of Auipc z pc a = sum pc (residue z)
target_of Jal z pc a = sum pc (residue z)
target_of Jalr z pc a = sum a (residue z) / 2 * 2
target_of Beq z pc a = sum pc (residue z)
target_of Bne z pc a = sum pc (residue z)
target_of Blt z pc a = sum pc (residue z)
target_of Bge z pc a = sum pc (residue z)
target_of Bltu z pc a = sum pc (residue z)
target_of Bgeu z pc a = sum pc (residue z)
target_of Addi z pc a = sum pc (residue z)
target_of Slti z pc a = sum pc (residue z)
target_of Sltiu z pc a = sum pc (residue z)
target_of Xori z pc a = sum pc (residue z)
target_of Ori z pc a = sum pc (residue z)
target_of Andi z pc a = sum pc (residue z)
target_of Slli z pc a = sum pc (residue z)
target_of Srli z pc a = sum pc (residue z)
target_of Srai z pc a = sum pc (residue z)
target_of Add z pc a = sum pc (residue z)
target_of Sub z pc a = sum pc (residue z)
target_of Sll z pc a = sum pc (residue z)
target_of Slt z pc a = sum pc (residue z)
target_of Sltu z pc a = sum pc (residue z)
target_of Xor z pc a = sum pc (residue z)
target_of Srl z pc a = sum pc (residue z)
target_of Sra z pc a = sum pc (residue z)
target_of Or z pc a = sum pc (residue z)
target_of And z pc a = sum pc (residue z)
target_of Mul z pc a = sum pc (residue z)
target_of Div z pc a = sum pc (residue z)
target_of Divu z pc a = sum pc (residue z)
target_of Rem z pc a = sum pc (residue z)
target_of Remu z pc a = sum pc (residue z)
target_of Ecall z pc a = sum pc (residue z)
target_of Ebreak z pc a = sum pc (residue z)
target_of Mret z pc a = sum pc (residue z)

-- a target has to be a multiple of 4
abbrev pub landed : ℕ → ℕ → Outcome
landed v t = cond (t % 4 == 0) (Done v t) Misaligned

abbrev pub worked_out : Instruction → ℕ → ℕ → ℕ → Outcome
worked_out i pc a b =
    let o = i.operation in
    let z = i.immediate in
    cond (departs o a b) (landed (value_of o z pc a b) (target_of o z pc a)) (Done (value_of o z pc a b) (sum pc 4))

abbrev pub if_classed : Option Class → Outcome → Option Outcome
if_classed (Some c) r = Some r
if_classed None r = None

-- nothing for ECALL, EBREAK and MRET
abbrev pub outcome_of : Instruction → ℕ → ℕ → ℕ → Option Outcome
outcome_of i pc a b = if_classed (class_of i.operation) (worked_out i pc a b)
