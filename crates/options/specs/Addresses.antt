-- An address argument: a number that 32 bits hold.
-- Assumes nothing.
use Rattle.std.specs.Prelude.{ℕ, ◌^◌, cond, List, Ok, Err, Result, nat_lt}
use Rattle.console.specs.declared.numbers.NumberFault.{NumberFault}
use Rattle.console.specs.declared.numbers.NumberFault.TheVariants.{TooLarge}
use Rattle.console.specs.Numbers.{number_of}

abbrev pub narrowed : Result ℕ NumberFault → Result ℕ NumberFault
narrowed (Ok n) = cond (nat_lt n (2 ^ 32)) (Ok n) (Err TooLarge)
narrowed (Err e) = Err e

abbrev pub address_of : List ℕ → Result ℕ NumberFault
address_of bs = narrowed (number_of bs)
