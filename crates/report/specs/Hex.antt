-- A word of 32 bits as eight lower-case hex digits, the highest first.
-- Assumes nothing.
use Rattle.std.specs.Prelude.{ℕ, ◌/◌, ◌%◌, ◌^◌, List, [], ◌∷◌}
use Rattle.std.specs.Char.{digit_char}

abbrev pub lowest_digit : ℕ → ℕ
lowest_digit n = digit_char (n % 16)

abbrev pub hex8 : ℕ → List ℕ
hex8 w =
    lowest_digit (w / 16 ^ 7)
    ∷ lowest_digit (w / 16 ^ 6)
    ∷ lowest_digit (w / 16 ^ 5)
    ∷ lowest_digit (w / 16 ^ 4)
    ∷ lowest_digit (w / 16 ^ 3)
    ∷ lowest_digit (w / 16 ^ 2)
    ∷ lowest_digit (w / 16)
    ∷ lowest_digit w
    ∷ []
