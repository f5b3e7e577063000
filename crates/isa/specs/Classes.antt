-- Who carries each operation out: a unit of some class, or the machine itself.
-- Assumes nothing.
use Rattle.std.specs.Prelude.{Some, None, Option}
use Rattle.isa.specs.declared.operation.Operation.{Operation}
use Rattle.isa.specs.declared.operation.Operation.TheVariants.{Lui, Auipc, Jal, Jalr, Beq, Bne, Blt, Bge, Bltu, Bgeu, Addi, Slti, Sltiu, Xori, Ori, Andi, Slli, Srli, Srai, Add, Sub, Sll, Slt, Sltu, Xor, Srl, Sra, Or, And, Mul, Div, Divu, Rem, Remu, Ecall, Ebreak, Mret}
use Rattle.isa.specs.declared.operation.Class.{Class}
use Rattle.isa.specs.declared.operation.Kind.{Kind}
use Rattle.isa.specs.declared.operation.Kind.TheVariants.{Worked, EnvironmentCall, Breakpoint, TrapReturn}
use Rattle.isa.specs.declared.operation.Class.TheVariants.{Plain, Multiply, Divide, Transfer}

abbrev pub kind_of : Operation → Kind
kind_of Lui = Worked Plain
kind_of Auipc = Worked Plain
kind_of Jal = Worked Transfer
kind_of Jalr = Worked Transfer
kind_of Beq = Worked Transfer
kind_of Bne = Worked Transfer
kind_of Blt = Worked Transfer
kind_of Bge = Worked Transfer
kind_of Bltu = Worked Transfer
kind_of Bgeu = Worked Transfer
kind_of Addi = Worked Plain
kind_of Slti = Worked Plain
kind_of Sltiu = Worked Plain
kind_of Xori = Worked Plain
kind_of Ori = Worked Plain
kind_of Andi = Worked Plain
kind_of Slli = Worked Plain
kind_of Srli = Worked Plain
kind_of Srai = Worked Plain
kind_of Add = Worked Plain
kind_of Sub = Worked Plain
kind_of Sll = Worked Plain
kind_of Slt = Worked Plain
kind_of Sltu = Worked Plain
kind_of Xor = Worked Plain
kind_of Srl = Worked Plain
kind_of Sra = Worked Plain
kind_of Or = Worked Plain
kind_of And = Worked Plain
kind_of Mul = Worked Multiply
kind_of Div = Worked Divide
kind_of Divu = Worked Divide
kind_of Rem = Worked Divide
kind_of Remu = Worked Divide
kind_of Ecall = EnvironmentCall
kind_of Ebreak = Breakpoint
kind_of Mret = TrapReturn

abbrev pub class_part : Kind → Option Class
class_part (Worked c) = Some c
class_part EnvironmentCall = None
class_part Breakpoint = None
class_part TrapReturn = None

-- ECALL, EBREAK and MRET have no class: no unit works them out
abbrev pub class_of : Operation → Option Class
class_of o = class_part (kind_of o)
