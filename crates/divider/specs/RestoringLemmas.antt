-- One step of restoring division: quotient and remainder of one bit more, from those so far.
-- Assumes nothing.
use Rattle.std.specs.Prelude.{◌≡◌, ℕ, zero, suc, ◌+◌, ◌-◌, ◌*◌, ◌/◌, ◌%◌, ◌^◌, ◌<◌, ◌≤◌, false, ◌==◌}
use Rattle.std.proofs.Math.Nat.{mod-le}
use Rattle.std.proofs.Common.{div-le_self, arith, sym, ap, ◌∙◌, pow_mono}
use Rattle.std.proofs.lemmas.Nat.{shr-shr, shr_le, pow-add, pow_pos, div-add-mod', div-mul-add, mod-mul-add, mod_below}
use Rattle.std.proofs.lemmas.Bool.{ne_eqb}
use Rattle.divider.specs.Restoring.{top_bits, quotient_at, remainder_at}

pub all_bits : (n : ℕ) → top_bits n 32 ≡ n
all_bits n = omega arith

-- with one bit more, twice the number and that bit
pub bit_more : (n j : ℕ) → j < 32 → top_bits n (j + 1) ≡ 2 * top_bits n j + n / 2 ^ (31 - j) % 2
bit_more n j h =
    let k : 32 - j ≡ (31 - j) + 1 = omega arith in
    let e : 32 - (j + 1) ≡ 31 - j = omega arith in
    let t : top_bits n j ≡ n / 2 ^ (31 - j) / 2 = ap (λ i. n / 2 ^ i) k ∙ sym (shr-shr n (31 - j) 1) in
    let s : top_bits n (j + 1) ≡ n / 2 ^ (31 - j) = ap (λ i. n / 2 ^ i) e in
    omega arith

-- division of twice the number and a bit
module _ (t d b : ℕ) (p : 0 < d) where
  taken_off : d ≤ 2 * (t % d) + b → b < 2 → ((2 * t + b) / d ≡ 2 * (t / d) + 1) × ((2 * t + b) % d ≡ 2 * (t % d) + b - d)
  taken_off h l =
      let q = t / d in
      let r = 2 * (t % d) + b - d in
      let small : r < d = omega (arith, mod_below t d p) in
      let whole : 2 * t + b ≡ (2 * q + 1) * d + r = omega (arith, div-add-mod' t d) in
      (ap (λ x. x / d) whole ∙ div-mul-add (2 * q + 1) d r small, ap (λ x. x % d) whole ∙ mod-mul-add (2 * q + 1) d r small)

  left : 2 * (t % d) + b < d → ((2 * t + b) / d ≡ 2 * (t / d)) × ((2 * t + b) % d ≡ 2 * (t % d) + b)
  left small =
      let q = t / d in
      let r = 2 * (t % d) + b in
      let whole : 2 * t + b ≡ (2 * q) * d + r = omega (arith, div-add-mod' t d) in
      (ap (λ x. x / d) whole ∙ div-mul-add (2 * q) d r small, ap (λ x. x % d) whole ∙ mod-mul-add (2 * q) d r small)

pub not_zero : (d : ℕ) → (suc d == 0) ≡ false
not_zero d = ne_eqb (suc d) 0 (λ e. omega arith)

-- the same of quotient and remainder so far; by 0 these are ones and the bits themselves
module _ (n j : ℕ) (h : j < 32) where
  abbrev bit : ℕ
  bit = n / 2 ^ (31 - j) % 2

  twice_power : 2 ^ (j + 1) ≡ 2 * 2 ^ j
  twice_power = omega (arith, pow-add 2 j 1)

  pub divisor_off : (d : ℕ) → d ≤ 2 * remainder_at n d j + bit
      → (quotient_at n d (j + 1) ≡ 2 * quotient_at n d j + 1) × (remainder_at n d (j + 1) ≡ 2 * remainder_at n d j + bit - d)
  divisor_off zero l = (omega (arith, twice_power, pow_pos j), omega (arith, bit_more n j h))
  divisor_off (suc d) l =
      simp (not_zero, bit_more) (taken_off (top_bits n j) (suc d) bit (omega arith) (simp not_zero at l) (omega arith))

  pub divisor_left : (d : ℕ) → 2 * remainder_at n d j + bit < d
      → (quotient_at n d (j + 1) ≡ 2 * quotient_at n d j) × (remainder_at n d (j + 1) ≡ 2 * remainder_at n d j + bit)
  divisor_left zero l = absurd (omega arith)
  divisor_left (suc d) l =
      simp (not_zero, bit_more) (left (top_bits n j) (suc d) bit (omega arith) (simp not_zero at l))

  -- what comes down is no more than the dividend
  pub remainder-fits : (d : ℕ) → 2 * remainder_at n d j + bit ≤ n
  remainder-fits zero = omega (arith, bit_more n j h, shr_le n (32 - (j + 1)))
  remainder-fits (suc d) =
      simp not_zero (omega (arith, bit_more n j h, shr_le n (32 - (j + 1)), mod-le (top_bits n j) (suc d)))

  pub quotient_fits : (d : ℕ) → n < 2 ^ 32 → 2 * quotient_at n d j + 1 < 2 ^ 32
  quotient_fits zero l = let top : 2 ^ (j + 1) ≤ 2 ^ 32 = pow_mono {i = j + 1} {j = 32} (omega arith) in omega (arith, twice_power, pow_pos j)
  quotient_fits (suc d) l =
      simp not_zero (omega (arith, bit_more n j h, shr_le n (32 - (j + 1)), div-le_self (top_bits n j) (suc d)))
