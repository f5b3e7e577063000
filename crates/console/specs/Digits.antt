-- Digits of a base, by std's `digit_value`: 0 to 9, then letters of either case from 10 on, and 36 for any other byte.
-- Assumes nothing.
use Rattle.std.specs.Prelude.{ℕ, ◌^◌, Bool, not, cond, ◌&&◌, List, [], ◌∷◌, drop, Some, None, Err, Option, Result, ◌==◌, nat_lt, slice_index}
use Rattle.std.specs.List.{find}
use Rattle.std.specs.Option.{ok_or}
use Rattle.std.specs.Str.Parse.{digits_value}
use Rattle.std.specs.Char.{digit_value}
use Rattle.console.specs.declared.digits.DigitsFault.{DigitsFault}
use Rattle.console.specs.declared.digits.DigitsFault.TheVariants.{NoDigits, NotADigit, TooLarge}

-- the first byte that is no digit of the base
abbrev pub first_stranger : ℕ → List ℕ → Option ℕ
first_stranger radix ds = find (λ c. not (nat_lt (digit_value c) radix)) ds

-- the number that the digits write, if 64 bits hold it
abbrev pub value64 : ℕ → List ℕ → Option ℕ
value64 radix ds = cond (nat_lt (digits_value radix ds) (2 ^ 64)) (Some (digits_value radix ds)) None

abbrev pub digits_or_fault : ℕ → List ℕ → Option ℕ → Result ℕ DigitsFault
digits_or_fault radix ds (Some c) = Err (NotADigit c)
digits_or_fault radix ds None = ok_or (value64 radix ds) TooLarge

-- one digit or more, and nothing else
abbrev pub parsed : ℕ → List ℕ → Result ℕ DigitsFault
parsed radix [] = Err NoDigits
parsed radix (d ∷ ds) = digits_or_fault radix (d ∷ ds) (first_stranger radix (d ∷ ds))

-- `0x` in front of a text
abbrev pub hex_mark : List ℕ → Bool
hex_mark bs = slice_index bs 0 == 48 && slice_index bs 1 == 120

-- what stands after `0x`, if it is there
abbrev pub after_mark : List ℕ → Option (List ℕ)
after_mark bs = cond (hex_mark bs) (Some (drop 2 bs)) None
