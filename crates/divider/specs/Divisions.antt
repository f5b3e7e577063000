-- Which division an operation asks for, and which a word.
-- Assumes nothing.
use Rattle.std.specs.Prelude.{ℕ, Bool, true, false, Some, None, Ok, Err, Option, Result}
use Rattle.isa.specs.declared.instruction.Instruction.{Instruction}
use Rattle.isa.specs.declared.operation.Operation.{Operation}
use Rattle.isa.specs.declared.operation.Operation.TheVariants.{Lui, Auipc, Jal, Jalr, Beq, Bne, Blt, Bge, Bltu, Bgeu, Addi, Slti, Sltiu, Xori, Ori, Andi, Slli, Srli, Srai, Add, Sub, Sll, Slt, Sltu, Xor, Srl, Sra, Or, And, Mul, Div, Divu, Rem, Remu, Ecall, Ebreak, Mret}
use Rattle.isa.specs.declared.operation.Class.{Class}
use Rattle.isa.specs.declared.operation.Class.TheVariants.{Plain, Multiply, Divide, Transfer}
use Rattle.refusal.specs.declared.IllegalWord.{IllegalWord}
use Rattle.words.specs.Words.{read_word}
use Rattle.divider.specs.declared.division.Division.{Division}

abbrev pub is_divide : Class → Bool
is_divide Plain = false
is_divide Multiply = false
is_divide Divide = true
is_divide Transfer = false

-- the operations of class Divide
abbrev pub division_of : Operation → Option Division
division_of Lui = None
division_of Auipc = None
division_of Jal = None
division_of Jalr = None
division_of Beq = None
division_of Bne = None
division_of Blt = None
division_of Bge = None
division_of Bltu = None
division_of Bgeu = None
division_of Addi = None
division_of Slti = None
division_of Sltiu = None
division_of Xori = None
division_of Ori = None
division_of Andi = None
division_of Slli = None
division_of Srli = None
division_of Srai = None
division_of Add = None
division_of Sub = None
division_of Sll = None
division_of Slt = None
division_of Sltu = None
division_of Xor = None
division_of Srl = None
division_of Sra = None
division_of Or = None
division_of And = None
division_of Mul = None
division_of Div = Some (record { signed = true; remainder = false })
division_of Divu = Some (record { signed = false; remainder = false })
division_of Rem = Some (record { signed = true; remainder = true })
division_of Remu = Some (record { signed = false; remainder = true })
division_of Ecall = None
division_of Ebreak = None
division_of Mret = None

abbrev pub division_read : Result Instruction IllegalWord → Option Division
division_read (Ok i) = division_of i.operation
division_read (Err e) = None

abbrev pub division_in : ℕ → Option Division
division_in w = division_read (read_word w)
