-- To lay out what the fields hold gives the fields again, and what they hold can be written.
-- Assumes nothing.
use Rattle.std.proofs.Common.{◌≡◌, ℕ, ◌+◌, ◌-◌, ◌*◌, ◌/◌, ◌%◌, ◌^◌, ◌<◌, true, ◌&&◌, eqb, ◌⊎◌, refl, ap, ◌∙◌, inl, inr, arith, w32, of_z}
use Rattle.std.proofs.lemmas.Nat.{shr_high, mod_low}
use Rattle.std.proofs.lemmas.Int.{ints}
use Rattle.std.proofs.lemmas.Bool.Decides.{nat_tests}
use Rattle.std.proofs.lemmas.Bool.{and_from, eq-eqb}
use Rattle.isa.specs.declared.operation.Operation.{Operation}
use Rattle.words.specs.declared.table.Row.{Row}
use Rattle.words.specs.declared.table.Format.{Format}
use Rattle.words.specs.declared.table.Format.TheVariants.{R, I, Shift, B, U, J, Fixed}
use Rattle.words.specs.Fields.{Fields, Whole}
use Rattle.words.specs.Table.{fixed}
use Rattle.words.specs.Formats.{signed, immediate_of, held, laid, within, registers_fit, immediate_fits}

-- the field of j bits above the k low ones
pub field : (j k hi d lo u : ℕ) → u ≡ (hi * 2 ^ j + d) * 2 ^ k + lo → lo < 2 ^ k → d < 2 ^ j → u / 2 ^ k % 2 ^ j ≡ d
field j k hi d lo u e l h =
    ap (λ (x : ℕ). x / 2 ^ k % 2 ^ j) e ∙ ap (λ (x : ℕ). x % 2 ^ j) (shr_high (hi * 2 ^ j + d) k lo l) ∙ mod_low hi j d h

-- the 32 bits of a signed number: the number's own, with copies of the top one above
pub bits_signed : (half n : ℕ) → 0 < half → half < 2 ^ 31 → n < 2 * half
    → (of_z w32 (signed half n) ≡ n) ⊎ (of_z w32 (signed half n) ≡ 2 ^ 32 - 2 * half + n)
bits_signed half n z h l = grind (arith, ints, nat_tests)

-- two sets of fields are one where each field is
same : (p : Fields) (a b d e f g : ℕ) → a ≡ p.opcode → b ≡ p.rd → d ≡ p.funct3 → e ≡ p.rs1 → f ≡ p.rs2 → g ≡ p.funct7
    → ◌≡◌ {A = Fields} (record { opcode = a; rd = b; funct3 = d; rs1 = e; rs2 = f; funct7 = g }) p
same p a b d e f g ha hb hd he hf hg = rw (ha, hb, hd, he, hf, hg)

-- by format: what is fixed is the row's, and each piece of a scattered immediate goes back to its place
pub lay_held : (f : Format) (k : Row) (o : Operation) (p : Fields) → Whole p → (eqb p.opcode k.opcode && fixed f k p) ≡ true
    → laid f k (held f o p) (of_z w32 (immediate_of f p)) ≡ p
lay_held R k o p w e = grind (arith, nat_tests)
lay_held I k o p w e =
    let n = p.funct7 * 2 ^ 5 + p.rs2 in
    let u = of_z w32 (signed (2 ^ 11) n) in
    let b : (u ≡ n) ⊎ (u ≡ 2 ^ 32 - 2 ^ 12 + n) = bits_signed (2 ^ 11) n (omega arith) (omega arith) (omega arith) in
    let low : u % 2 ^ 5 ≡ p.rs2 = elim b [ inl h ↦ rw h (omega arith) | inr h ↦ rw h (omega arith) ] in
    let high : u / 2 ^ 5 % 2 ^ 7 ≡ p.funct7 = elim b [ inl h ↦ rw h (omega arith) | inr h ↦ rw h (omega arith) ] in
    same p _ _ _ _ _ _ (grind (arith, nat_tests)) refl (grind (arith, nat_tests)) refl low high
lay_held Shift k o p w e = grind (arith, nat_tests)
lay_held B k o p w e =
    let a = p.funct7 / 2 ^ 6 in
    let d = p.rd % 2 in
    let b = p.funct7 % 2 ^ 6 in
    let m = p.rd / 2 in
    let n = a * 2 ^ 12 + d * 2 ^ 11 + b * 2 ^ 5 + m * 2 in
    let u = of_z w32 (signed (2 ^ 12) n) in
    -- q: copies of the sign above the thirteen bits
    let s : (q : ℕ) × (u ≡ q * 2 ^ 13 + n) =
    elim (bits_signed (2 ^ 12) n (omega arith) (omega arith) (omega arith))
    [ inl h ↦ (0, omega arith) | inr h ↦ (2 ^ 19 - 1, omega arith) ] in
    let q = s.0 in
    let from-12 = field 1 12 q a (d * 2 ^ 11 + b * 2 ^ 5 + m * 2) u (omega arith) (omega arith) (omega arith) in
    let from-11 = field 1 11 (q * 2 + a) d (b * 2 ^ 5 + m * 2) u (omega arith) (omega arith) (omega arith) in
    let from-5 = field 6 5 (q * 4 + a * 2 + d) b (m * 2) u (omega arith) (omega arith) (omega arith) in
    let from-1 = field 4 1 (q * 2 ^ 8 + a * 2 ^ 7 + d * 2 ^ 6 + b) m 0 u (omega arith) (omega arith) (omega arith) in
    same p _ _ _ _ _ _ (grind (arith, nat_tests)) (omega arith) (grind (arith, nat_tests)) refl refl (omega arith)
lay_held U k o p w e = same p _ _ _ _ _ _ (grind (arith, nat_tests)) refl (omega arith) (omega arith) (omega arith) (omega arith)
lay_held J k o p w e =
    let a = p.funct7 / 2 ^ 6 in
    let g = p.rs1 in
    let t = p.funct3 in
    let d = p.rs2 % 2 in
    let b = p.funct7 % 2 ^ 6 in
    let m = p.rs2 / 2 in
    let n = a * 2 ^ 20 + g * 2 ^ 15 + t * 2 ^ 12 + d * 2 ^ 11 + b * 2 ^ 5 + m * 2 in
    let u = of_z w32 (signed (2 ^ 20) n) in
    -- q: copies of the sign above the twenty-one bits
    let s : (q : ℕ) × (u ≡ q * 2 ^ 21 + n) =
    elim (bits_signed (2 ^ 20) n (omega arith) (omega arith) (omega arith))
    [ inl h ↦ (0, omega arith) | inr h ↦ (2 ^ 11 - 1, omega arith) ] in
    let q = s.0 in
    let h = q * 2 ^ 9 + a * 2 ^ 8 + g * 2 ^ 3 + t in
    let from-20 = field 1 20 q a (g * 2 ^ 15 + t * 2 ^ 12 + d * 2 ^ 11 + b * 2 ^ 5 + m * 2) u (omega arith) (omega arith) (omega arith) in
    let from-15 = field 5 15 (q * 2 + a) g (t * 2 ^ 12 + d * 2 ^ 11 + b * 2 ^ 5 + m * 2) u (omega arith) (omega arith) (omega arith) in
    let from-12 = field 3 12 (q * 2 ^ 6 + a * 2 ^ 5 + g) t (d * 2 ^ 11 + b * 2 ^ 5 + m * 2) u (omega arith) (omega arith) (omega arith) in
    let from-11 = field 1 11 h d (b * 2 ^ 5 + m * 2) u (omega arith) (omega arith) (omega arith) in
    let from-5 = field 6 5 (h * 2 + d) b (m * 2) u (omega arith) (omega arith) (omega arith) in
    let from-1 = field 4 1 (h * 2 ^ 7 + d * 2 ^ 6 + b) m 0 u (omega arith) (omega arith) (omega arith) in
    same p _ _ _ _ _ _ (grind (arith, nat_tests)) refl from-12 from-15 (omega arith) (omega arith)
lay_held Fixed k o p w e = grind (arith, nat_tests)

-- the registers that the fields hold fit
pub registers-held : (f : Format) (o : Operation) (p : Fields) → Whole p → registers_fit f (held f o p) ≡ true
registers-held R o p w = grind (arith, nat_tests)
registers-held I o p w = grind (arith, nat_tests)
registers-held Shift o p w = grind (arith, nat_tests)
registers-held B o p w = grind (arith, nat_tests)
registers-held U o p w = grind (arith, nat_tests)
registers-held J o p w = grind (arith, nat_tests)
registers-held Fixed o p w = refl

-- two's complement stays within its bounds
within_signed : (half n : ℕ) → 0 < half → n < 2 * half → within half (signed half n) ≡ true
within_signed half n z h = grind (arith, ints, nat_tests)

-- two's complement keeps the lowest bit
even_signed : (half n : ℕ) → 0 < half → half < 2 ^ 31 → n < 2 * half → n % 2 ≡ 0 → eqb (of_z w32 (signed half n) % 2) 0 ≡ true
even_signed half n z h l e =
    eq-eqb (of_z w32 (signed half n) % 2) 0 (elim (bits_signed half n z h l) [ inl q ↦ rw q e | inr q ↦ rw q (omega arith) ])

-- and so does the immediate
pub immediate_held : (f : Format) (p : Fields) → Whole p → immediate_fits f (immediate_of f p) ≡ true
immediate_held R p w = refl
immediate_held I p w = within_signed (2 ^ 11) (p.funct7 * 2 ^ 5 + p.rs2) (omega arith) (omega arith)
immediate_held Shift p w = grind (arith, ints, nat_tests)
immediate_held B p w =
    let n = p.funct7 / 2 ^ 6 * 2 ^ 12 + p.rd % 2 * 2 ^ 11 + p.funct7 % 2 ^ 6 * 2 ^ 5 + p.rd / 2 * 2 in
    and_from _ _ (within_signed (2 ^ 12) n (omega arith) (omega arith))
    (even_signed (2 ^ 12) n (omega arith) (omega arith) (omega arith) (omega arith))
immediate_held U p w = grind (arith, ints, nat_tests)
immediate_held J p w =
    let n = p.funct7 / 2 ^ 6 * 2 ^ 20 + p.rs1 * 2 ^ 15 + p.funct3 * 2 ^ 12 + p.rs2 % 2 * 2 ^ 11 + p.funct7 % 2 ^ 6 * 2 ^ 5 + p.rs2 / 2 * 2 in
    and_from _ _ (within_signed (2 ^ 20) n (omega arith) (omega arith))
    (even_signed (2 ^ 20) n (omega arith) (omega arith) (omega arith) (omega arith))
immediate_held Fixed p w = refl
