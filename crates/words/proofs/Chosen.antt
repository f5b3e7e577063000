-- The row that is chosen for a word's fields.
-- Assumes nothing.
use Rattle.std.proofs.Common.{◌≡◌, ℕ, ◌^◌, Bool, true, ◌&&◌, ltb, List, [], ◌∷◌, Some, refl, arith}
use Rattle.std.proofs.lemmas.Bool.Decides.{nat_tests}
use Rattle.isa.specs.declared.instruction.Instruction.{Instruction}
use Rattle.words.specs.declared.table.Row.{Row}
use Rattle.words.specs.declared.table.Format.{Format}
use Rattle.words.specs.declared.table.Format.TheVariants.{R, I, Shift, B, U, J, Fixed}
use Rattle.isa.specs.declared.operation.Operation.{Operation}
use Rattle.isa.specs.declared.operation.Operation.TheVariants.{Lui, Auipc, Jal, Jalr, Beq, Bne, Blt, Bge, Bltu, Bgeu, Addi, Slti, Sltiu, Xori, Ori, Andi, Slli, Srli, Srai, Add, Sub, Sll, Slt, Sltu, Xor, Srl, Sra, Or, And, Mul, Div, Divu, Rem, Remu, Ecall, Ebreak, Mret}
use Rattle.words.specs.Fields.{Fields, Whole}
use Rattle.words.specs.Table.{row_of, operations, fits_row, first_of, chosen}
use Rattle.words.specs.Formats.{laid, registers_fit}

-- what is first to pass a test passes it
first_passes : (f : Operation → Bool) (xs : List Operation) (o : Operation) → first_of f xs ≡ Some o → f o ≡ true
first_passes f [] o e = grind arith
first_passes f (x ∷ xs) o e = let ih = first_passes f xs o in grind arith

-- the row that is chosen for the fields fits them
pub chosen-fits : (p : Fields) (o : Operation) → chosen p ≡ Some o → fits_row p (row_of o) ≡ true
chosen-fits p o e = first_passes (λ x. fits_row p (row_of x)) operations o e

-- each value of a row is within the bits of its field
abbrev narrow : Row → Bool
narrow k = ltb k.opcode (2 ^ 7) && (ltb k.funct3 (2 ^ 3) && (ltb k.funct7 (2 ^ 7) && ltb k.rs2 (2 ^ 5)))

-- what the table has to be: rows of narrow values, each of them chosen for what is laid out by it
pub record Sound (o : Operation) : Type 0 where
  pub fits : narrow (row_of o) ≡ true
  pub found : (i : Instruction) (u : ℕ) → chosen (laid (row_of o).format (row_of o) i u) ≡ Some o

-- antt computes both at each row
pub sound : (o : Operation) → Sound o
sound Lui = record { fits = refl; found = λ i u. refl }
sound Auipc = record { fits = refl; found = λ i u. refl }
sound Jal = record { fits = refl; found = λ i u. refl }
sound Jalr = record { fits = refl; found = λ i u. refl }
sound Beq = record { fits = refl; found = λ i u. refl }
sound Bne = record { fits = refl; found = λ i u. refl }
sound Blt = record { fits = refl; found = λ i u. refl }
sound Bge = record { fits = refl; found = λ i u. refl }
sound Bltu = record { fits = refl; found = λ i u. refl }
sound Bgeu = record { fits = refl; found = λ i u. refl }
sound Addi = record { fits = refl; found = λ i u. refl }
sound Slti = record { fits = refl; found = λ i u. refl }
sound Sltiu = record { fits = refl; found = λ i u. refl }
sound Xori = record { fits = refl; found = λ i u. refl }
sound Ori = record { fits = refl; found = λ i u. refl }
sound Andi = record { fits = refl; found = λ i u. refl }
sound Slli = record { fits = refl; found = λ i u. refl }
sound Srli = record { fits = refl; found = λ i u. refl }
sound Srai = record { fits = refl; found = λ i u. refl }
sound Add = record { fits = refl; found = λ i u. refl }
sound Sub = record { fits = refl; found = λ i u. refl }
sound Sll = record { fits = refl; found = λ i u. refl }
sound Slt = record { fits = refl; found = λ i u. refl }
sound Sltu = record { fits = refl; found = λ i u. refl }
sound Xor = record { fits = refl; found = λ i u. refl }
sound Srl = record { fits = refl; found = λ i u. refl }
sound Sra = record { fits = refl; found = λ i u. refl }
sound Or = record { fits = refl; found = λ i u. refl }
sound And = record { fits = refl; found = λ i u. refl }
sound Mul = record { fits = refl; found = λ i u. refl }
sound Div = record { fits = refl; found = λ i u. refl }
sound Divu = record { fits = refl; found = λ i u. refl }
sound Rem = record { fits = refl; found = λ i u. refl }
sound Remu = record { fits = refl; found = λ i u. refl }
sound Ecall = record { fits = refl; found = λ i u. refl }
sound Ebreak = record { fits = refl; found = λ i u. refl }
sound Mret = record { fits = refl; found = λ i u. refl }

-- fields that are laid out are within their bits
laid-whole : (f : Format) (k : Row) (i : Instruction) (u : ℕ) → narrow k ≡ true → registers_fit f i ≡ true → Whole (laid f k i u)
laid-whole R k i u h r = grind (arith, nat_tests)
laid-whole I k i u h r = grind (arith, nat_tests)
laid-whole Shift k i u h r = grind (arith, nat_tests)
laid-whole B k i u h r = grind (arith, nat_tests)
laid-whole U k i u h r = grind (arith, nat_tests)
laid-whole J k i u h r = grind (arith, nat_tests)
laid-whole Fixed k i u h r = grind (arith, nat_tests)

pub lay_whole : (o : Operation) (i : Instruction) (u : ℕ) → registers_fit (row_of o).format i ≡ true
    → Whole (laid (row_of o).format (row_of o) i u)
lay_whole o i u r = laid-whole (row_of o).format (row_of o) i u (sound o).fits r
