-- The plan: what each instruction in flight has to compute, as a function of the machine alone.
-- Instructions are fetched straight ahead from pc, and a retirement that goes anywhere else drops them all.
-- Assumes nothing.
use Rattle.std.proofs.Common.{ℕ, zero, suc, Bool, cond, not, ◌&&◌, eqb, Some, None, Option}
use Rattle.isa.specs.declared.operation.Class.{Class}
use Rattle.execute.specs.Outcomes.{sum}
use Rattle.machine.specs.declared.decode.Decoded.{Decoded}
use Rattle.machine.specs.declared.decode.Decoded.TheVariants.{Trap, Return, Work}
use Rattle.machine.specs.declared.state.Machine.{Machine}
use Rattle.machine.specs.Decode.{decoded}
use Rattle.machine.specs.States.{register_of}
use Rattle.machine.specs.Step.{fetched, judgement_of, written}
use Rattle.law.specs.Steps.{brings}

-- the register that a word will write; 0 where it writes none
abbrev pub destination_of : Decoded → ℕ
destination_of (Trap c) = 0
destination_of Return = 0
destination_of (Work c i) = i.rd

module _ (served : Class → Bool) where
  abbrev pub asks : Machine → Decoded
  asks x = decoded served (fetched x)

  -- what the word at pc brings to those that wait for it; a cause brings 0
  abbrev pub result : Machine → ℕ
  result x = brings (judgement_of served x)

  -- the word at pc writes its value, and the machine goes on to the next word, whatever the word says
  abbrev pub straight : Machine → Machine
  straight x = written (destination_of (asks x)) (result x) (sum x.pc 4) x

  -- the machine before the instruction with n older ones in flight
  abbrev pub ahead : Machine → ℕ → Machine
  ahead x zero = x
  ahead x (suc n) = ahead (straight x) n

  -- whether the instruction with n older ones in flight writes register r
  abbrev pub writes : Machine → ℕ → ℕ → Bool
  writes x n r = not (eqb r 0) && eqb (destination_of (asks (ahead x n))) r

  -- the youngest of the n oldest that writes register r
  abbrev pub writer : Machine → ℕ → ℕ → Option ℕ
  writer x r zero = None
  writer x r (suc n) = cond (writes x n r) (Some n) (writer x r n)

  -- what register r holds after those: what its writer brings, or what the machine holds
  abbrev pub writer_brings : Machine → ℕ → Option ℕ → ℕ
  writer_brings x r None = register_of x r
  writer_brings x r (Some k) = result (ahead x k)
