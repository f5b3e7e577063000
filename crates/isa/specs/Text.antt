-- An instruction in assembler syntax: the mnemonic, then the operands.
-- Of the library: `codes` is a text's bytes, `decimal` a number's digits, and `signed_decimal` an integer's, after `-` if it is negative.
-- Assumes nothing.
use Rattle.std.specs.Prelude.{ℕ, List, [], ◌∷◌, ◌++◌, ℤ, codes, decimal}
use Rattle.std.specs.Fmt.{signed_decimal}
use Rattle.isa.specs.declared.instruction.Instruction.{Instruction}
use Rattle.isa.specs.declared.operation.Operation.{Operation}
use Rattle.isa.specs.declared.operation.Operation.TheVariants.{Lui, Auipc, Jal, Jalr, Beq, Bne, Blt, Bge, Bltu, Bgeu, Addi, Slti, Sltiu, Xori, Ori, Andi, Slli, Srli, Srai, Add, Sub, Sll, Slt, Sltu, Xor, Srl, Sra, Or, And, Mul, Div, Divu, Rem, Remu, Ecall, Ebreak, Mret}

abbrev pub mnemonic_of : Operation → List ℕ
mnemonic_of Lui = codes "lui"
mnemonic_of Auipc = codes "auipc"
mnemonic_of Jal = codes "jal"
mnemonic_of Jalr = codes "jalr"
mnemonic_of Beq = codes "beq"
mnemonic_of Bne = codes "bne"
mnemonic_of Blt = codes "blt"
mnemonic_of Bge = codes "bge"
mnemonic_of Bltu = codes "bltu"
mnemonic_of Bgeu = codes "bgeu"
mnemonic_of Addi = codes "addi"
mnemonic_of Slti = codes "slti"
mnemonic_of Sltiu = codes "sltiu"
mnemonic_of Xori = codes "xori"
mnemonic_of Ori = codes "ori"
mnemonic_of Andi = codes "andi"
mnemonic_of Slli = codes "slli"
mnemonic_of Srli = codes "srli"
mnemonic_of Srai = codes "srai"
mnemonic_of Add = codes "add"
mnemonic_of Sub = codes "sub"
mnemonic_of Sll = codes "sll"
mnemonic_of Slt = codes "slt"
mnemonic_of Sltu = codes "sltu"
mnemonic_of Xor = codes "xor"
mnemonic_of Srl = codes "srl"
mnemonic_of Sra = codes "sra"
mnemonic_of Or = codes "or"
mnemonic_of And = codes "and"
mnemonic_of Mul = codes "mul"
mnemonic_of Div = codes "div"
mnemonic_of Divu = codes "divu"
mnemonic_of Rem = codes "rem"
mnemonic_of Remu = codes "remu"
mnemonic_of Ecall = codes "ecall"
mnemonic_of Ebreak = codes "ebreak"
mnemonic_of Mret = codes "mret"

abbrev register : ℕ → List ℕ
register r = codes "x" ++ decimal r

-- an offset from a register: `8(x2)`
abbrev address : ℤ → ℕ → List ℕ
address z r = signed_decimal z ++ (codes "(" ++ (register r ++ codes ")"))

abbrev pub operands_of : Operation → Instruction → List (List ℕ)
operands_of Lui i = register i.rd ∷ signed_decimal i.immediate ∷ []
operands_of Auipc i = register i.rd ∷ signed_decimal i.immediate ∷ []
operands_of Jal i = register i.rd ∷ signed_decimal i.immediate ∷ []
operands_of Jalr i = register i.rd ∷ address i.immediate i.rs1 ∷ []
operands_of Beq i = register i.rs1 ∷ register i.rs2 ∷ signed_decimal i.immediate ∷ []
operands_of Bne i = register i.rs1 ∷ register i.rs2 ∷ signed_decimal i.immediate ∷ []
operands_of Blt i = register i.rs1 ∷ register i.rs2 ∷ signed_decimal i.immediate ∷ []
operands_of Bge i = register i.rs1 ∷ register i.rs2 ∷ signed_decimal i.immediate ∷ []
operands_of Bltu i = register i.rs1 ∷ register i.rs2 ∷ signed_decimal i.immediate ∷ []
operands_of Bgeu i = register i.rs1 ∷ register i.rs2 ∷ signed_decimal i.immediate ∷ []
operands_of Addi i = register i.rd ∷ register i.rs1 ∷ signed_decimal i.immediate ∷ []
operands_of Slti i = register i.rd ∷ register i.rs1 ∷ signed_decimal i.immediate ∷ []
operands_of Sltiu i = register i.rd ∷ register i.rs1 ∷ signed_decimal i.immediate ∷ []
operands_of Xori i = register i.rd ∷ register i.rs1 ∷ signed_decimal i.immediate ∷ []
operands_of Ori i = register i.rd ∷ register i.rs1 ∷ signed_decimal i.immediate ∷ []
operands_of Andi i = register i.rd ∷ register i.rs1 ∷ signed_decimal i.immediate ∷ []
operands_of Slli i = register i.rd ∷ register i.rs1 ∷ signed_decimal i.immediate ∷ []
operands_of Srli i = register i.rd ∷ register i.rs1 ∷ signed_decimal i.immediate ∷ []
operands_of Srai i = register i.rd ∷ register i.rs1 ∷ signed_decimal i.immediate ∷ []
operands_of Add i = register i.rd ∷ register i.rs1 ∷ register i.rs2 ∷ []
operands_of Sub i = register i.rd ∷ register i.rs1 ∷ register i.rs2 ∷ []
operands_of Sll i = register i.rd ∷ register i.rs1 ∷ register i.rs2 ∷ []
operands_of Slt i = register i.rd ∷ register i.rs1 ∷ register i.rs2 ∷ []
operands_of Sltu i = register i.rd ∷ register i.rs1 ∷ register i.rs2 ∷ []
operands_of Xor i = register i.rd ∷ register i.rs1 ∷ register i.rs2 ∷ []
operands_of Srl i = register i.rd ∷ register i.rs1 ∷ register i.rs2 ∷ []
operands_of Sra i = register i.rd ∷ register i.rs1 ∷ register i.rs2 ∷ []
operands_of Or i = register i.rd ∷ register i.rs1 ∷ register i.rs2 ∷ []
operands_of And i = register i.rd ∷ register i.rs1 ∷ register i.rs2 ∷ []
operands_of Mul i = register i.rd ∷ register i.rs1 ∷ register i.rs2 ∷ []
operands_of Div i = register i.rd ∷ register i.rs1 ∷ register i.rs2 ∷ []
operands_of Divu i = register i.rd ∷ register i.rs1 ∷ register i.rs2 ∷ []
operands_of Rem i = register i.rd ∷ register i.rs1 ∷ register i.rs2 ∷ []
operands_of Remu i = register i.rd ∷ register i.rs1 ∷ register i.rs2 ∷ []
operands_of Ecall i = []
operands_of Ebreak i = []
operands_of Mret i = []

-- the first operand, and each of the others after a comma
abbrev listed : List ℕ → List (List ℕ) → List ℕ
listed x [] = x
listed x (y ∷ ys) = x ++ (codes ", " ++ listed y ys)

abbrev spaced : List (List ℕ) → List ℕ
spaced [] = []
spaced (x ∷ xs) = codes " " ++ listed x xs

abbrev pub text_of : Instruction → List ℕ
text_of i = mnemonic_of i.operation ++ spaced (operands_of i.operation i)
