-- A word is its six fields, and six fields are a word.
-- Assumes nothing.
use Rattle.std.proofs.Common.{◌≡◌, ℕ, ◌+◌, ◌*◌, ◌/◌, ◌%◌, ◌^◌, ◌<◌, arith}
use Rattle.std.proofs.lemmas.Nat.{shr-shr}
use Rattle.words.specs.Fields.{Fields, cut, joined, Whole}

pub joined-cut : (w : ℕ) → joined (cut w) ≡ w
joined-cut w = omega (arith, shr-shr w 7 5, shr-shr w 12 3, shr-shr w 15 5, shr-shr w 20 5)

pub whole-cut : (w : ℕ) → w < 2 ^ 32 → Whole (cut w)
whole-cut w h = (omega arith, omega arith, omega arith, omega arith, omega arith, omega arith)

pub cut-joined : (p : Fields) → Whole p → cut (joined p) ≡ p
cut-joined p h =
    let w = joined p in
    let q : w / 2 ^ 25 ≡ p.funct7 = omega arith in
    let r : w / 2 ^ 20 ≡ p.funct7 * 2 ^ 5 + p.rs2 = omega arith in
    let s : w / 2 ^ 15 ≡ p.funct7 * 2 ^ 10 + p.rs2 * 2 ^ 5 + p.rs1 = omega arith in
    let t : w / 2 ^ 12 ≡ p.funct7 * 2 ^ 13 + p.rs2 * 2 ^ 8 + p.rs1 * 2 ^ 3 + p.funct3 = omega arith in
    let u : w / 2 ^ 7 ≡ p.funct7 * 2 ^ 18 + p.rs2 * 2 ^ 13 + p.rs1 * 2 ^ 8 + p.funct3 * 2 ^ 5 + p.rd = omega arith in
    let a : w % 2 ^ 7 ≡ p.opcode = omega arith in
    let b : w / 2 ^ 7 % 2 ^ 5 ≡ p.rd = rw u (omega arith) in
    let d : w / 2 ^ 12 % 2 ^ 3 ≡ p.funct3 = rw t (omega arith) in
    let e : w / 2 ^ 15 % 2 ^ 5 ≡ p.rs1 = rw s (omega arith) in
    let f : w / 2 ^ 20 % 2 ^ 5 ≡ p.rs2 = rw r (omega arith) in
    rw (a, b, d, e, f, q)
