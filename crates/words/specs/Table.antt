-- The row of each operation in the manual's tables, and the operation that a word's fields belong to.
-- Assumes nothing.
use Rattle.std.specs.Prelude.{ℕ, Bool, true, cond, ◌&&◌, List, [], ◌∷◌, Some, None, Option, ◌==◌}
use Rattle.words.specs.Fields.{Fields}
use Rattle.isa.specs.declared.operation.Operation.{Operation}
use Rattle.isa.specs.declared.operation.Operation.TheVariants.{Lui, Auipc, Jal, Jalr, Beq, Bne, Blt, Bge, Bltu, Bgeu, Addi, Slti, Sltiu, Xori, Ori, Andi, Slli, Srli, Srai, Add, Sub, Sll, Slt, Sltu, Xor, Srl, Sra, Or, And, Mul, Div, Divu, Rem, Remu, Ecall, Ebreak, Mret}
use Rattle.words.specs.declared.table.Format.{Format}
use Rattle.words.specs.declared.table.Format.TheVariants.{R, I, Shift, B, U, J, Fixed}
use Rattle.words.specs.declared.table.Row.{Row}

abbrev is : Format → ℕ → ℕ → ℕ → ℕ → Row
is f o a b c = record { format = f; opcode = o; funct3 = a; funct7 = b; rs2 = c }

-- format, opcode, funct3, funct7, rs2: the values that the word has there; 0 where the format leaves the field free
abbrev pub row_of : Operation → Row
row_of Lui = is U 0x37 0 0 0
row_of Auipc = is U 0x17 0 0 0
row_of Jal = is J 0x6f 0 0 0
row_of Jalr = is I 0x67 0 0 0
row_of Beq = is B 0x63 0 0 0
row_of Bne = is B 0x63 1 0 0
row_of Blt = is B 0x63 4 0 0
row_of Bge = is B 0x63 5 0 0
row_of Bltu = is B 0x63 6 0 0
row_of Bgeu = is B 0x63 7 0 0
row_of Addi = is I 0x13 0 0 0
row_of Slti = is I 0x13 2 0 0
row_of Sltiu = is I 0x13 3 0 0
row_of Xori = is I 0x13 4 0 0
row_of Ori = is I 0x13 6 0 0
row_of Andi = is I 0x13 7 0 0
row_of Slli = is Shift 0x13 1 0 0
row_of Srli = is Shift 0x13 5 0 0
row_of Srai = is Shift 0x13 5 0x20 0
row_of Add = is R 0x33 0 0 0
row_of Sub = is R 0x33 0 0x20 0
row_of Sll = is R 0x33 1 0 0
row_of Slt = is R 0x33 2 0 0
row_of Sltu = is R 0x33 3 0 0
row_of Xor = is R 0x33 4 0 0
row_of Srl = is R 0x33 5 0 0
row_of Sra = is R 0x33 5 0x20 0
row_of Or = is R 0x33 6 0 0
row_of And = is R 0x33 7 0 0
row_of Mul = is R 0x33 0 1 0
row_of Div = is R 0x33 4 1 0
row_of Divu = is R 0x33 5 1 0
row_of Rem = is R 0x33 6 1 0
row_of Remu = is R 0x33 7 1 0
row_of Ecall = is Fixed 0x73 0 0 0
row_of Ebreak = is Fixed 0x73 0 0 1
row_of Mret = is Fixed 0x73 0 0x18 2

abbrev pub operations : List Operation
operations =
    Lui ∷ Auipc ∷ Jal ∷ Jalr ∷ Beq ∷ Bne ∷ Blt ∷ Bge ∷ Bltu ∷ Bgeu ∷ Addi ∷ Slti ∷ Sltiu ∷ Xori ∷ Ori ∷ Andi ∷ Slli ∷ Srli ∷ Srai ∷ Add ∷ Sub ∷ Sll ∷ Slt ∷ Sltu ∷ Xor ∷ Srl ∷ Sra ∷ Or ∷ And ∷ Mul ∷ Div ∷ Divu ∷ Rem ∷ Remu ∷ Ecall ∷ Ebreak ∷ Mret ∷ []

-- the fields that a format fixes have the row's values
abbrev pub fixed : Format → Row → Fields → Bool
fixed R k f = f.funct3 == k.funct3 && f.funct7 == k.funct7
fixed I k f = f.funct3 == k.funct3
fixed Shift k f = f.funct3 == k.funct3 && f.funct7 == k.funct7
fixed B k f = f.funct3 == k.funct3
fixed U k f = true
fixed J k f = true
fixed Fixed k f =
    (f.funct3 == k.funct3) && (f.funct7 == k.funct7 && (f.rs2 == k.rs2 && (f.rd == 0 && f.rs1 == 0)))

abbrev pub fits_row : Fields → Row → Bool
fits_row f k = f.opcode == k.opcode && fixed k.format k f

abbrev pub first_of : (Operation → Bool) → List Operation → Option Operation
first_of p [] = None
first_of p (x ∷ xs) = cond (p x) (Some x) (first_of p xs)

-- no two rows fit the same fields, so the order of the list does not matter
abbrev pub chosen : Fields → Option Operation
chosen f = first_of (λ o. fits_row f (row_of o)) operations
