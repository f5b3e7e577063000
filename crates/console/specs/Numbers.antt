-- A number argument: decimal digits, or hex digits after `0x`.
-- Assumes nothing.
use Rattle.std.specs.Prelude.{ℕ, List, Some, None, Ok, Err, Option, Result}
use Rattle.console.specs.declared.numbers.NumberFault.{NumberFault}
use Rattle.console.specs.declared.numbers.NumberFault.TheVariants.{NotANumber, TooLarge as TooLargeANumber}
use Rattle.console.specs.declared.digits.DigitsFault.{DigitsFault}
use Rattle.console.specs.declared.digits.DigitsFault.TheVariants.{NoDigits, NotADigit, TooLarge}
use Rattle.console.specs.Digits.{parsed, after_mark}

abbrev pub number_fault : DigitsFault → NumberFault
number_fault NoDigits = NotANumber
number_fault (NotADigit c) = NotANumber
number_fault TooLarge = TooLargeANumber

abbrev pub number_or_fault : Result ℕ DigitsFault → Result ℕ NumberFault
number_or_fault (Ok n) = Ok n
number_or_fault (Err e) = Err (number_fault e)

-- one digit or more, and nothing else
abbrev pub digits_number : ℕ → List ℕ → Result ℕ NumberFault
digits_number radix ds = number_or_fault (parsed radix ds)

abbrev pub marked_number : List ℕ → Option (List ℕ) → Result ℕ NumberFault
marked_number bs (Some ds) = digits_number 16 ds
marked_number bs None = digits_number 10 bs

abbrev pub number_of : List ℕ → Result ℕ NumberFault
number_of bs = marked_number bs (after_mark bs)
