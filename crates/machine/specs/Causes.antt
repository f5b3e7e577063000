-- The number that mcause takes for each cause of a trap, and for the external interrupt; and each cause's name.
-- Assumes nothing.
use Rattle.std.specs.Prelude.{ℕ, cond, List, codes, Ok, Err, Result, ◌==◌}
use Rattle.machine.specs.declared.cause.Cause.{Cause}
use Rattle.machine.specs.declared.cause.Cause.TheVariants.{MisalignedTarget, AccessFault, IllegalInstruction, Breakpoint, EnvironmentCall}
use Rattle.machine.specs.declared.cause.NoCause.{NoCause}

abbrev pub cause_number : Cause → ℕ
cause_number MisalignedTarget = 0
cause_number AccessFault = 1
cause_number IllegalInstruction = 2
cause_number Breakpoint = 3
cause_number EnvironmentCall = 11

-- the cause that a number stands for
abbrev pub cause_numbered : ℕ → Result Cause NoCause
cause_numbered n =
    cond (n == 0) (Ok MisalignedTarget)
    (cond (n == 1) (Ok AccessFault)
    (cond (n == 2) (Ok IllegalInstruction)
    (cond (n == 3) (Ok Breakpoint)
    (cond (n == 11) (Ok EnvironmentCall) (Err (record { number = n }))))))

abbrev pub cause_name : Cause → List ℕ
cause_name MisalignedTarget = codes "misaligned target"
cause_name AccessFault = codes "access fault"
cause_name IllegalInstruction = codes "illegal instruction"
cause_name Breakpoint = codes "breakpoint"
cause_name EnvironmentCall = codes "environment call"

abbrev pub no_cause_text : NoCause → List ℕ
no_cause_text e = codes "unknown cause"

abbrev pub external_interrupt : ℕ
external_interrupt = 0x8000000B
