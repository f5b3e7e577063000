-- What an instruction's fields hold is the instruction.
-- Assumes nothing.
use Rattle.std.proofs.Common.{◌≡◌, ℕ, ◌+◌, ◌-◌, ◌*◌, ◌/◌, ◌%◌, ◌^◌, ◌<◌, ◌≤◌, true, eqb, ◌⊎◌, ℤ, pos, sym, refl, ap, ◌∙◌, inl, inr, arith, w32, SFits, of_z}
use Rattle.std.proofs.lemmas.Nat.{mod-pow-add}
use Rattle.std.proofs.lemmas.Int.{ints}
use Rattle.std.proofs.lemmas.Bool.Decides.{nat_tests}
use Rattle.std.proofs.lemmas.Bool.{and_parts, eqb-true}
use Rattle.isa.specs.declared.instruction.Instruction.{Instruction}
use Rattle.words.specs.declared.table.Row.{Row}
use Rattle.words.specs.declared.table.Format.{Format}
use Rattle.words.specs.declared.table.Format.TheVariants.{R, I, Shift, B, U, J, Fixed}
use Rattle.words.specs.Formats.{signed, held, laid, within, natural, registers_fit, immediate_fits}

-- the 32 bits of a number within bounds: its low bits are the number's own, and the rest copies of the sign
signed_of : (half : ℕ) (z : ℤ) → 0 < half → half < 2 ^ 31 → within half z ≡ true
    → ((of_z w32 z < half) × (signed half (of_z w32 z) ≡ z))
    ⊎ ((2 ^ 32 - half ≤ of_z w32 z) × (of_z w32 z < 2 ^ 32) × (signed half (of_z w32 z + 2 * half - 2 ^ 32) ≡ z))
signed_of half z p h e = grind (arith, ints, nat_tests)

-- a number within bounds is what its low bits stand for
signed_low : (half n : ℕ) (z : ℤ) → 0 < half → half < 2 ^ 31 → within half z ≡ true
    → ((of_z w32 z < half → of_z w32 z ≡ n) × (2 ^ 32 - half ≤ of_z w32 z → of_z w32 z < 2 ^ 32 → of_z w32 z + 2 * half - 2 ^ 32 ≡ n))
    → signed half n ≡ z
signed_low half n z p h e k =
    elim (signed_of half z p h e) [
      | inl q ↦ ap (signed half) (sym (k.0 q.0)) ∙ q.1
      | inr q ↦ ap (signed half) (sym (k.1 q.0 q.1)) ∙ q.2
    ]

-- a natural number below 2 ^ 31 is its own bits
natural_bits : (below : ℕ) (z : ℤ) → below < 2 ^ 31 → natural below z ≡ true → (of_z w32 z < below) × (pos (of_z w32 z) ≡ z)
natural_bits below z h e = grind (arith, ints, nat_tests)

-- two instructions are one where each part is
same : (i : Instruction) (a b d : ℕ) (z : ℤ) → a ≡ i.rd → b ≡ i.rs1 → d ≡ i.rs2 → z ≡ i.immediate
    → ◌≡◌ {A = Instruction} (record { operation = i.operation; rd = a; rs1 = b; rs2 = d; immediate = z }) i
same i a b d z ha hb hd hz = rw (ha, hb, hd, hz)

-- by format: n is the number that the laid-out fields hold, and it is the immediate's low bits
pub held-laid : (f : Format) (k : Row) (i : Instruction) → SFits w32 i.immediate → registers_fit f i ≡ true → immediate_fits f i.immediate ≡ true
    → held f i.operation (laid f k i (of_z w32 i.immediate)) ≡ i
held-laid R k i t r m = same i _ _ _ _ refl refl refl (grind (arith, ints, nat_tests))
held-laid I k i t r m =
    let u = of_z w32 i.immediate in
    let n = u / 2 ^ 5 % 2 ^ 7 * 2 ^ 5 + u % 2 ^ 5 in
    let e : n ≡ u % 2 ^ 12 = omega (arith, mod-pow-add u 7 5) in
    let z : signed (2 ^ 11) n ≡ i.immediate = signed_low (2 ^ 11) n i.immediate (omega arith) (omega arith) m (λ h. omega arith, λ h l. omega arith) in
    same i _ _ _ _ refl refl (grind (arith, nat_tests)) z
held-laid Shift k i t r m = same i _ _ _ _ refl refl (grind (arith, nat_tests)) (grind (arith, ints, nat_tests))
held-laid B k i t r m =
    let u = of_z w32 i.immediate in
    let f = u / 2 ^ 12 % 2 * 2 ^ 6 + u / 2 ^ 5 % 2 ^ 6 in
    let g = u / 2 % 2 ^ 4 * 2 + u / 2 ^ 11 % 2 in
    let n = f / 2 ^ 6 * 2 ^ 12 + g % 2 * 2 ^ 11 + f % 2 ^ 6 * 2 ^ 5 + g / 2 * 2 in
    let v = and_parts (within (2 ^ 12) i.immediate) (eqb (u % 2) 0) m in
    let d : u % 2 ≡ 0 = eqb-true (u % 2) 0 v.1 in
    let f-high : f / 2 ^ 6 ≡ u / 2 ^ 12 % 2 = omega arith in
    let f-low : f % 2 ^ 6 ≡ u / 2 ^ 5 % 2 ^ 6 = omega arith in
    let g-high : g / 2 ≡ u / 2 % 2 ^ 4 = omega arith in
    let g-low : g % 2 ≡ u / 2 ^ 11 % 2 = omega arith in
    let e : n ≡ u % 2 ^ 13 = omega (arith, mod-pow-add u 1 12, mod-pow-add u 1 11, mod-pow-add u 6 5, mod-pow-add u 4 1) in
    let z : signed (2 ^ 12) n ≡ i.immediate = signed_low (2 ^ 12) n i.immediate (omega arith) (omega arith) v.0 (λ h. omega arith, λ h l. omega arith) in
    same i _ _ _ _ (grind (arith, nat_tests)) refl refl z
held-laid U k i t r m =
    let u = of_z w32 i.immediate in
    let n = u / 2 ^ 13 % 2 ^ 7 * 2 ^ 13 + u / 2 ^ 8 % 2 ^ 5 * 2 ^ 8 + u / 2 ^ 3 % 2 ^ 5 * 2 ^ 3 + u % 2 ^ 3 in
    let q = natural_bits (2 ^ 20) i.immediate (omega arith) m in
    let e : n ≡ u = omega (arith, mod-pow-add u 7 13, mod-pow-add u 5 8, mod-pow-add u 5 3) in
    same i _ _ _ _ refl (grind (arith, nat_tests)) (grind (arith, nat_tests)) (ap pos e ∙ q.1)
held-laid J k i t r m =
    let u = of_z w32 i.immediate in
    let f = u / 2 ^ 20 % 2 * 2 ^ 6 + u / 2 ^ 5 % 2 ^ 6 in
    let g = u / 2 % 2 ^ 4 * 2 + u / 2 ^ 11 % 2 in
    let n = f / 2 ^ 6 * 2 ^ 20 + u / 2 ^ 15 % 2 ^ 5 * 2 ^ 15 + u / 2 ^ 12 % 2 ^ 3 * 2 ^ 12 + g % 2 * 2 ^ 11 + f % 2 ^ 6 * 2 ^ 5 + g / 2 * 2 in
    let v = and_parts (within (2 ^ 20) i.immediate) (eqb (u % 2) 0) m in
    let d : u % 2 ≡ 0 = eqb-true (u % 2) 0 v.1 in
    let f-high : f / 2 ^ 6 ≡ u / 2 ^ 20 % 2 = omega arith in
    let f-low : f % 2 ^ 6 ≡ u / 2 ^ 5 % 2 ^ 6 = omega arith in
    let g-high : g / 2 ≡ u / 2 % 2 ^ 4 = omega arith in
    let g-low : g % 2 ≡ u / 2 ^ 11 % 2 = omega arith in
    let e : n ≡ u % 2 ^ 21 =
    omega (arith, mod-pow-add u 1 20, mod-pow-add u 5 15, mod-pow-add u 3 12, mod-pow-add u 1 11, mod-pow-add u 6 5, mod-pow-add u 4 1) in
    let z : signed (2 ^ 20) n ≡ i.immediate = signed_low (2 ^ 20) n i.immediate (omega arith) (omega arith) v.0 (λ h. omega arith, λ h l. omega arith) in
    same i _ _ _ _ refl (grind (arith, nat_tests)) (grind (arith, nat_tests)) z
held-laid Fixed k i t r m = same i _ _ _ _ (grind (arith, nat_tests)) (grind (arith, nat_tests)) (grind (arith, nat_tests)) (grind (arith, ints, nat_tests))
