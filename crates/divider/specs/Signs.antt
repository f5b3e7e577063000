-- Signed division by the division of magnitudes: the signs go off before it, and the result gets its sign after.
-- Assumes nothing.
use Rattle.std.specs.Prelude.{ℕ, ◌-◌, ◌%◌, ◌^◌, Bool, true, false, cond, not, ◌&&◌, ℤ, pos, ◌==◌, unsigned_abs}
use Rattle.std.specs.Int.Signed.{non_neg}
use Rattle.std.proofs.Common.{to_z}
use Rattle.std.specs.Int.{w32}
use Rattle.divider.specs.Restoring.{quotient_at, remainder_at}
use Rattle.divider.specs.declared.division.Division.{Division}

-- an operand as a signed or an unsigned division reads it
abbrev pub operand : Bool → ℕ → ℤ
operand true x = to_z w32 x
operand false x = pos x

abbrev pub magnitude : Bool → ℕ → ℕ
magnitude s x = unsigned_abs (operand s x)

abbrev pub negative : Bool → ℕ → Bool
negative s x = not (non_neg (operand s x))

-- the 32 bits of -x, or of x
abbrev pub negated : Bool → ℕ → ℕ
negated true x = (2 ^ 32 - x) % 2 ^ 32
negated false x = x

abbrev pub differ : Bool → Bool → Bool
differ true y = not y
differ false y = y

-- from the quotient q and the remainder r of the magnitudes of a and b: the remainder has the dividend's sign,
-- and the quotient is negative where the signs differ, but for that by 0, which stays all ones
abbrev pub signed : Division → ℕ → ℕ → ℕ → ℕ → ℕ
signed d a b q r =
    let s = d.signed in
    cond d.remainder (negated (negative s a) r) (negated (not (b == 0) && differ (negative s a) (negative s b)) q)

-- what a division comes to: the results of the last step, signed
abbrev pub result_of : Division → ℕ → ℕ → ℕ
result_of d a b =
    let n = magnitude d.signed a in
    let m = magnitude d.signed b in
    signed d a b (quotient_at n m 32) (remainder_at n m 32)
