-- What a word reads as, what an instruction is written as.
-- Assumes nothing.
use Rattle.std.specs.Prelude.{◌≡◌, ℕ, ◌^◌, ◌<◌, cond, Some, None, Ok, Err, Option, Result, FitsSigned}
use Rattle.std.specs.Int.{w32}
use Rattle.isa.specs.declared.instruction.Instruction.{Instruction}
use Rattle.refusal.specs.declared.IllegalWord.{IllegalWord}
use Rattle.refusal.specs.declared.WriteFault.{WriteFault}
use Rattle.refusal.specs.declared.WriteFault.TheVariants.{BadRegister, BadImmediate}
use Rattle.isa.specs.declared.operation.Operation.{Operation}
use Rattle.words.specs.declared.table.Row.{Row}
use Rattle.words.specs.Fields.{cut, joined}
use Rattle.words.specs.Table.{row_of, chosen}
use Rattle.words.specs.Formats.{taken, registers_fit, immediate_fits, lay_of}

abbrev pub read_as : Option Operation → ℕ → Result Instruction IllegalWord
read_as (Some o) w = Ok (taken o (cut w))
read_as None w = Err (record { word = w })

abbrev pub read_word : ℕ → Result Instruction IllegalWord
read_word w = read_as (chosen (cut w)) w

-- the registers are judged before the immediate
abbrev pub write_as : Row → Instruction → Result ℕ WriteFault
write_as k i =
    cond (registers_fit k.format i)
    (cond (immediate_fits k.format i.immediate) (Ok (joined (lay_of k i))) (Err BadImmediate))
    (Err BadRegister)

abbrev pub write_word : Instruction → Result ℕ WriteFault
write_word i = write_as (row_of i.operation) i

-- words and the instructions that can be written are one to one: no other word reads as i,
abbrev pub OneWord : ℕ → Instruction → Type 0
OneWord w i = (v : ℕ) → v < 2 ^ 32 → read_word v ≡ Ok i → v ≡ w

-- and no other instruction is written as w; an i32 holds the immediate, so it fits 32 bits
abbrev pub OneInstruction : Instruction → ℕ → Type 0
OneInstruction i w = (j : Instruction) → FitsSigned w32 j.immediate → write_word j ≡ Ok w → j ≡ i
