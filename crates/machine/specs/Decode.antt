-- What the word at an address asks for, before any operand is known.
-- Assumes nothing.
use Rattle.std.specs.Prelude.{ℕ, Bool, cond, Some, None, Ok, Err, Option, Result}
use Rattle.isa.specs.declared.instruction.Instruction.{Instruction}
use Rattle.refusal.specs.declared.IllegalWord.{IllegalWord}
use Rattle.isa.specs.declared.operation.Class.{Class}
use Rattle.isa.specs.declared.operation.Kind.{Kind}
use Rattle.isa.specs.declared.operation.Kind.TheVariants.{Worked, EnvironmentCall as Call, Breakpoint as Break, TrapReturn}
use Rattle.isa.specs.Classes.{kind_of}
use Rattle.words.specs.Words.{read_word}
use Rattle.machine.specs.declared.cause.Cause.TheVariants.{AccessFault, IllegalInstruction, Breakpoint, EnvironmentCall}
use Rattle.machine.specs.declared.decode.Decoded.{Decoded}
use Rattle.machine.specs.declared.decode.Decoded.TheVariants.{Trap, Return, Work}

-- a class that no unit serves makes the word illegal
abbrev pub kind_decoded : (Class → Bool) → Instruction → Kind → Decoded
kind_decoded served i Call = Trap EnvironmentCall
kind_decoded served i Break = Trap Breakpoint
kind_decoded served i TrapReturn = Return
kind_decoded served i (Worked c) = cond (served c) (Work c i) (Trap IllegalInstruction)

abbrev pub read_decoded : (Class → Bool) → Result Instruction IllegalWord → Decoded
read_decoded served (Ok i) = kind_decoded served i (kind_of i.operation)
read_decoded served (Err e) = Trap IllegalInstruction

-- of the word at pc, or of none where pc is outside the program
abbrev pub decoded : (Class → Bool) → Option ℕ → Decoded
decoded served None = Trap AccessFault
decoded served (Some w) = read_decoded served (read_word w)
