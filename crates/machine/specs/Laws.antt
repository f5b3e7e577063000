-- What programmers rely on, whatever the program: laws of a step and of any number of steps.
-- Assumes nothing.
use Rattle.std.specs.Prelude.{◌≡◌, ◌%◌, Bool, List, ◌≢◌}
use Rattle.isa.specs.declared.operation.Class.{Class}
use Rattle.machine.specs.declared.record.Record.{Record}
use Rattle.machine.specs.declared.record.Retirement.TheVariants.{Trapped}
use Rattle.machine.specs.declared.state.Machine.{Machine}
use Rattle.machine.specs.States.{register_of, with_register}
use Rattle.machine.specs.Step.{steps}

-- what a trapped step leaves: the registers as they were, and where it trapped and why
pub record TrapLeaves (m : Machine) (r : Record) (n : Machine) : Type 0 where
  pub registers : n.registers ≡ m.registers
  pub mepc : n.trap.mepc ≡ m.pc
  pub mcause : n.trap.mcause ≡ r.value
  pub handler : n.pc ≡ m.trap.vector

-- every address that control can come from is a multiple of 4
pub record Aligned (m : Machine) : Type 0 where
  pub pc : m.pc % 4 ≡ 0
  pub mepc : m.trap.mepc % 4 ≡ 0
  pub vector : m.trap.vector % 4 ≡ 0

-- of a step from m to n with the record r
pub record StepLaw (served : Class → Bool) (m : Machine) (r : Record) (n : Machine) : Type 0 where
  -- the record says where the step began and where control is now
  pub begins : r.pc ≡ m.pc
  pub ends : r.next ≡ n.pc
  -- a trapped step changes no register and sets mepc to its pc
  pub trapped : r.outcome ≡ Trapped → TrapLeaves m r n
  -- any other changes just the record's destination, to the record's value
  pub changes : (r.outcome ≢ Trapped) → n.registers ≡ with_register r.destination r.value m.registers
  -- register 0 reads 0 after any further steps
  pub zero : register_of m 0 ≡ 0 → (lines : List Bool) → register_of (steps served lines n) 0 ≡ 0
  -- pc is a multiple of 4 after any further steps
  pub aligned : Aligned m → (lines : List Bool) → Aligned (steps served lines n)
