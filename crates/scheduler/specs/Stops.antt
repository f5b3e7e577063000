-- A stopped core as it is made, loaded and written; a refusal leaves it as it was.
-- Assumes nothing.
use Rattle.std.specs.Prelude.{ℕ, false, cond, ◌&&◌, List, length, nat_le}
use Rattle.machine.specs.declared.state.Machine.{Machine}
use Rattle.machine.specs.States.{aligned, fresh, load_state, write_register_state, write_pc_state}
use Rattle.law.specs.declared.state.Stopped.{Stopped}

-- no program, everything 0 but the enable bits, the line down
abbrev pub made : {A : Type 0} → A → Stopped A
made u = record { machine = fresh; line = false; unit = u }

abbrev pub with_machine : {A : Type 0} → Machine → Stopped A → Stopped A
with_machine m s = record { machine = m; line = s.line; unit = s.unit }

-- a program that load takes puts the line down; the unit stays
abbrev pub loaded : {A : Type 0} → List ℕ → ℕ → ℕ → Stopped A → Stopped A
loaded ws pc v s =
    cond (nat_le (length ws) 1024 && (aligned pc && aligned v))
    (record { machine = load_state ws pc v s.machine; line = false; unit = s.unit })
    s

abbrev pub register_written : {A : Type 0} → ℕ → ℕ → Stopped A → Stopped A
register_written n v s = with_machine (write_register_state n v s.machine) s

abbrev pub pc_written : {A : Type 0} → ℕ → Stopped A → Stopped A
pc_written a s = with_machine (write_pc_state a s.machine) s
