-- The state of a machine as it is made, loaded, read and written.
-- Assumes nothing.
use Rattle.std.specs.Prelude.{ℕ, ◌%◌, Bool, true, cond, ◌&&◌, List, length, replicate, Ok, Err, Result, ◌==◌, nat_le, nat_lt, slice_index, slice_set}
use Rattle.machine.specs.declared.program.Program.{Program}
use Rattle.machine.specs.declared.state.Machine.{Machine}
use Rattle.machine.specs.declared.state.TrapState.{TrapState}
use Rattle.refusal.specs.declared.LoadFault.{LoadFault}
use Rattle.refusal.specs.declared.LoadFault.TheVariants.{Overlong, Skew}
use Rattle.refusal.specs.declared.SkewedAddress.{SkewedAddress}
use Rattle.refusal.specs.declared.NoRegister.{NoRegister}
use Rattle.machine.specs.Programs.{no_program, program_of}

abbrev pub aligned : ℕ → Bool
aligned a = a % 4 == 0

-- both enable bits are up
abbrev pub fresh_trap_state : ℕ → TrapState
fresh_trap_state v = record { mepc = 0; mcause = 0; mie = true; mpie = true; vector = v }

abbrev pub fresh_with : Program → ℕ → ℕ → Machine
fresh_with p pc v = record { registers = replicate 32 0; pc = pc; trap = fresh_trap_state v; program = p }

-- a machine as made: no program, everything 0 but the enable bits
abbrev pub fresh : Machine
fresh = fresh_with no_program 0 0

-- load refuses a program that is too long before it looks at the addresses; registers and trap state start afresh
abbrev pub load_answer : List ℕ → ℕ → ℕ → Result (Unit {0}) LoadFault
load_answer ws pc v = cond (nat_le (length ws) 1024) (cond (aligned pc && aligned v) (Ok tt) (Err Skew)) (Err Overlong)

abbrev pub load_state : List ℕ → ℕ → ℕ → Machine → Machine
load_state ws pc v m = cond (nat_le (length ws) 1024 && (aligned pc && aligned v)) (fresh_with (program_of ws) pc v) m

-- what a register holds; there are 32
abbrev pub register_of : Machine → ℕ → ℕ
register_of m n = slice_index m.registers n

abbrev pub register_answer : Machine → ℕ → Result ℕ NoRegister
register_answer m n = cond (nat_lt n 32) (Ok (register_of m n)) (Err (record { register = n }))

-- register 0 takes no value
abbrev pub with_register : ℕ → ℕ → List ℕ → List ℕ
with_register n v rs = cond (n == 0) rs (slice_set rs n v)

abbrev pub write_register_answer : ℕ → Result (Unit {0}) NoRegister
write_register_answer n = cond (nat_lt n 32) (Ok tt) (Err (record { register = n }))

abbrev pub write_register_state : ℕ → ℕ → Machine → Machine
write_register_state n v m =
    cond (nat_lt n 32)
    (record { registers = with_register n v m.registers; pc = m.pc; trap = m.trap; program = m.program })
    m

abbrev pub write_pc_answer : ℕ → Result (Unit {0}) SkewedAddress
write_pc_answer a = cond (aligned a) (Ok tt) (Err (record { address = a }))

abbrev pub write_pc_state : ℕ → Machine → Machine
write_pc_state a m = cond (aligned a) (record { registers = m.registers; pc = a; trap = m.trap; program = m.program }) m
