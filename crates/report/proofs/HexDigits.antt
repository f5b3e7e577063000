-- A number padded to eight hex digits, digit by digit.
-- Of the library: `digits_onto` puts a number's digits before what follows them.
-- Assumes nothing.
use Rattle.std.proofs.Common.{◌≡◌, ℕ, zero, suc, ◌+◌, ◌-◌, ◌/◌, ◌%◌, ◌^◌, ◌<◌, true, false, eqb, List, [], ◌∷◌, ◌++◌, length, replicate, refl, sym, ap, ◌∙◌, ⊎_elim, append-nil, arith}
use Rattle.std.specs.Fmt.{digits, digits_onto, digit_glyph, padded_integral, format_spec, char_count}
use native.Mathlib.Nat.{sub-zero}
use Rattle.std.proofs.lemmas.Bool.{cases_Bool, eqb-true, eq-eqb}
use Rattle.report.specs.Hex.{lowest_digit, hex8}

-- the last k hex digits of n, before what follows them
abbrev last : ℕ → ℕ → List ℕ → List ℕ
last zero n after = after
last (suc k) n after = last k (n / 16) (digit_glyph false (n % 16) ∷ after)

moved : (k : ℕ) (after : List ℕ) → replicate k 48 ++ (48 ∷ after) ≡ 48 ∷ (replicate k 48 ++ after)
moved zero after = refl
moved (suc k) after = ap (λ l. 48 ∷ l) (moved k after)

zeros : (k : ℕ) (after : List ℕ) → last k 0 after ≡ replicate k 48 ++ after
zeros zero after = refl
zeros (suc k) after = zeros k (48 ∷ after) ∙ moved k after

glyph : (n : ℕ) → digit_glyph false (n % 16) ≡ lowest_digit n
glyph n = refl

pub eight : (n : ℕ) → last 8 n [] ≡ hex8 n
eight n =
    let b : n / 16 / 16 ≡ n / 16 ^ 2 = omega arith in
    let c : n / 16 / 16 / 16 ≡ n / 16 ^ 3 = omega arith in
    let d : n / 16 / 16 / 16 / 16 ≡ n / 16 ^ 4 = omega arith in
    let e : n / 16 / 16 / 16 / 16 / 16 ≡ n / 16 ^ 5 = omega arith in
    let f : n / 16 / 16 / 16 / 16 / 16 / 16 ≡ n / 16 ^ 6 = omega arith in
    let g : n / 16 / 16 / 16 / 16 / 16 / 16 / 16 ≡ n / 16 ^ 7 = omega arith in
    rw (g, f, e, d, c, b)

-- a text after as many zeros as it is short of w places
abbrev widened : ℕ → List ℕ → List ℕ
widened w ds = replicate (w - length ds) 48 ++ ds

one_digit : (k d : ℕ) (after : List ℕ) → widened (suc k + length after) (d ∷ after) ≡ replicate k 48 ++ (d ∷ after)
one_digit k d after = ap (λ w. replicate w 48 ++ (d ∷ after)) (omega arith)

-- zeros before the digits make as many as there are places
filled : (k j n : ℕ) (after : List ℕ) → k < j → n < 16 ^ suc k → widened (suc k + length after) (digits_onto j 16 false n after) ≡ last (suc k) n after
filled k zero n after h small = absurd (omega arith)
filled zero (suc j) n after h small =
    let e : eqb (n / 16) 0 ≡ true = eq-eqb (n / 16) 0 (omega arith) in
    rw e (one_digit 0 (digit_glyph false (n % 16)) after)
filled (suc k) (suc j) n after h small = ⊎_elim
    (λ e. let z : n / 16 ≡ 0 = eqb-true (n / 16) 0 e in rw e (one_digit (suc k) (digit_glyph false (n % 16)) after ∙ sym (zeros (suc k) (digit_glyph false (n % 16) ∷ after)) ∙ ap (λ m. last (suc k) m (digit_glyph false (n % 16) ∷ after)) (sym z)))
    (λ e.
    let step = filled k j (n / 16) (digit_glyph false (n % 16) ∷ after) (omega arith) (omega arith) in
    rw e (ap (λ w. widened w (digits_onto j 16 false (n / 16) (digit_glyph false (n % 16) ∷ after))) (omega arith) ∙ step))
    (cases_Bool (eqb (n / 16) 0))

padded : (ds : List ℕ) → padded_integral (format_spec 32 0 4 8 (2 ^ 64 - 1)) false [] ds ≡ widened 8 ds
unfolding padded_integral char_count
padded ds = simp (sub-zero, append-nil)

opened : (n : ℕ) → digits_onto 64 16 false n [] ≡ digits 16 false n
unfolding digits
opened n = refl

pub padded8 : (n : ℕ) → n < 2 ^ 32 → padded_integral (format_spec 32 0 4 8 (2 ^ 64 - 1)) false [] (digits 16 false n) ≡ hex8 n
padded8 n small = padded (digits 16 false n) ∙ ap (widened 8) (sym (opened n)) ∙ filled 7 64 n [] (omega arith) (omega arith) ∙ eight n
