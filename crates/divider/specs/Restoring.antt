-- Restoring division: what is known of n by d after j steps, each of which brings down one more of n's 32 bits.
-- Assumes nothing.
use Rattle.std.specs.Prelude.{ℕ, ◌-◌, ◌/◌, ◌%◌, ◌^◌, cond, ◌==◌}

-- the top j of 32 bits
abbrev pub top_bits : ℕ → ℕ → ℕ
top_bits n j = n / 2 ^ (32 - j)

-- their quotient by d; by 0, j ones
abbrev pub quotient_at : ℕ → ℕ → ℕ → ℕ
quotient_at n d j = cond (d == 0) (2 ^ j - 1) (top_bits n j / d)

-- their remainder by d; by 0, those bits
abbrev pub remainder_at : ℕ → ℕ → ℕ → ℕ
remainder_at n d j = cond (d == 0) (top_bits n j) (top_bits n j % d)
