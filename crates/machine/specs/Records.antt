-- How an instruction retired: the number of each case.
-- Assumes nothing.
use Rattle.std.specs.Prelude.{ℕ}
use Rattle.machine.specs.declared.record.Retirement.{Retirement}
use Rattle.machine.specs.declared.record.Retirement.TheVariants.{Plain, Trapped, Interrupted}

-- plain, trapped, or plain and then interrupted
abbrev pub retirement_number : Retirement → ℕ
retirement_number Plain = 0
retirement_number Trapped = 1
retirement_number Interrupted = 2
