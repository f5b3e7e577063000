-- One step of the sequential machine: the instruction at pc is judged, and the judgement applied to the state.
-- Assumes nothing.
use Rattle.std.specs.Prelude.{ℕ, Bool, true, false, cond, ◌&&◌, List, [], ◌∷◌, Some, None, Option, ◌==◌}
use Rattle.isa.specs.declared.operation.Class.{Class}
use Rattle.isa.specs.declared.outcome.Outcome.{Outcome}
use Rattle.isa.specs.declared.outcome.Outcome.TheVariants.{Done, Misaligned}
use Rattle.execute.specs.Outcomes.{outcome_of}
use Rattle.machine.specs.declared.cause.Cause.TheVariants.{MisalignedTarget, IllegalInstruction}
use Rattle.machine.specs.declared.decode.Decoded.{Decoded}
use Rattle.machine.specs.declared.decode.Decoded.TheVariants.{Trap as AsksTrap, Return as AsksReturn, Work}
use Rattle.machine.specs.declared.record.Record.{Record}
use Rattle.machine.specs.declared.record.Retirement.{Retirement}
use Rattle.machine.specs.declared.record.Retirement.TheVariants.{Plain, Trapped, Interrupted}
use Rattle.machine.specs.declared.state.Machine.{Machine}
use Rattle.machine.specs.declared.judgement.Judgement.{Judgement}
use Rattle.machine.specs.declared.judgement.Judgement.TheVariants.{Trap, Return, Write}
use Rattle.machine.specs.Causes.{cause_number, external_interrupt}
use Rattle.machine.specs.Decode.{decoded}
use Rattle.machine.specs.Programs.{word_at}
use Rattle.machine.specs.States.{register_of, with_register}

-- fetch and judge ------------------------------------------------------------

-- what an instruction's outcome means for a destination register
abbrev pub judged_outcome : ℕ → Option Outcome → Judgement
judged_outcome rd (Some (Done v n)) = Write rd v n
judged_outcome rd (Some Misaligned) = Trap MisalignedTarget
judged_outcome rd None = Trap IllegalInstruction

abbrev pub judged : Decoded → Machine → Judgement
judged (AsksTrap c) m = Trap c
judged AsksReturn m = Return
judged (Work c i) m = judged_outcome i.rd (outcome_of i m.pc (register_of m i.rs1) (register_of m i.rs2))

-- the word of a record: 0 where pc is outside the program
abbrev pub word_or0 : Option ℕ → ℕ
word_or0 (Some w) = w
word_or0 None = 0

-- apply a judgement ----------------------------------------------------------

-- the handler is entered: it returns to `back`, with the enable bit kept in MPIE
abbrev pub entered : ℕ → ℕ → Machine → Machine
entered back cause m =
    record {
      registers = m.registers;
      pc = m.trap.vector;
      trap = record { mepc = back; mcause = cause; mie = false; mpie = m.trap.mie; vector = m.trap.vector };
      program = m.program;
    }

-- MRET: the enable bit comes back from MPIE, which becomes 1
abbrev pub returned : Machine → Machine
returned m =
    record {
      registers = m.registers;
      pc = m.trap.mepc;
      trap = record { mepc = m.trap.mepc; mcause = m.trap.mcause; mie = m.trap.mpie; mpie = true; vector = m.trap.vector };
      program = m.program;
    }

abbrev pub written : ℕ → ℕ → ℕ → Machine → Machine
written rd v next m =
    record { registers = with_register rd v m.registers; pc = next; trap = m.trap; program = m.program }

-- a record of what was done at pc, with the state afterwards
abbrev pub recorded : ℕ → ℕ → Retirement → ℕ → ℕ → Machine → Machine × Record
recorded pc w o d v m = (m, record { pc = pc; word = w; outcome = o; destination = d; value = v; next = m.pc })

-- an instruction that did not trap is done: now the interrupt line is looked at,
abbrev pub retired : Bool → Machine → Retirement
retired line m = cond (line && m.trap.mie) Interrupted Plain

-- and an interrupt enters the handler
abbrev pub after_line : Bool → Machine → Machine
after_line line m = cond (line && m.trap.mie) (entered m.pc external_interrupt m) m

-- of both with what was done at pc
abbrev pub settled : Bool → ℕ → ℕ → ℕ → ℕ → Machine → Machine × Record
settled line pc w d v m =
    cond (line && m.trap.mie)
    (recorded pc w Interrupted d v (entered m.pc external_interrupt m))
    (recorded pc w Plain d v m)

abbrev pub applied : Bool → ℕ → Judgement → Machine → Machine × Record
applied line w (Trap c) m = recorded m.pc w Trapped 0 (cause_number c) (entered m.pc (cause_number c) m)
applied line w Return m = settled line m.pc w 0 0 (returned m)
applied line w (Write rd v next) m = settled line m.pc w rd (cond (rd == 0) 0 v) (written rd v next m)

-- the step -------------------------------------------------------------------

abbrev pub fetched : Machine → Option ℕ
fetched m = word_at m.program m.pc

abbrev pub judgement_of : (Class → Bool) → Machine → Judgement
judgement_of served m = judged (decoded served (fetched m)) m

abbrev pub step : (Class → Bool) → Bool → Machine → Machine × Record
step served line m = applied line (word_or0 (fetched m)) (judgement_of served m) m

-- the state after a step for each entry of a list, which says how the line stands at it
abbrev pub steps : (Class → Bool) → List Bool → Machine → Machine
steps served [] m = m
steps served (line ∷ lines) m = steps served lines (step served line m).0
