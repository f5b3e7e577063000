-- How the definitions of digits and lines go on one byte further.
-- Assumes nothing.
use Rattle.std.proofs.Common.{◌≡◌, ℕ, Bool, cond, zero, suc, ◌+◌, ◌-◌, ◌*◌, ◌^◌, ◌<◌, ◌≤◌, true, false, not, eqb, ltb, List, [], ◌∷◌, ◌++◌, length, get_or, take, drop, Some, None, Ok, Err, Option, Result, leb, sym, refl, ap, ◌∙◌, ⊎_elim, zero-lt-suc, mul-zero, le-mul_of_pos_right, arith}
use native.Mathlib.Nat.{pow-le-pow_right}
use Rattle.std.specs.Str.Parse.{digits_value, digits_value_after, AllDigits}
use Rattle.std.specs.Char.{digit_value}
use Rattle.std.proofs.lemmas.Int.Digits.{digits_value-lt}
use Rattle.std.proofs.lemmas.List.{at_drop_more, at_drop_all, take_more, take_all}
use Rattle.std.proofs.lemmas.Bool.{cases_Bool, cond-true, cond-false, lt-ltb, le-ltb, lt-leb, le-leb, cases_lt}
use Rattle.std.proofs.lemmas.Bool.Decides.{nat_tests}
use Rattle.std.proofs.lemmas.List.Sums.{suffix_len-take_yes, suffix_len-take_no}
use Rattle.std.specs.List.{prefix_len, suffix_len, position, position_or_len}
use Rattle.std.specs.Option.{ok_or}
use Rattle.std.proofs.lemmas.Option.{none-some, cond_some}
use Rattle.console.specs.declared.digits.DigitsFault.{DigitsFault}
use Rattle.console.specs.declared.digits.DigitsFault.TheVariants.{TooLarge}
use Rattle.console.specs.Digits.{first_stranger, value64, digits_or_fault, parsed}
use Rattle.console.specs.Lines.{blank, before, trimmed_front, trimmed_back, before_kept, word_fault, hex_or_fault, hex_word}

pub value_step : (r t : ℕ) (xs : List ℕ) (i : ℕ) → i < length xs → digits_value_after r t (drop i xs) ≡ digits_value_after r (t * r + digit_value (get_or xs i 0)) (drop (i + 1) xs)
value_step r t xs i h = at_drop_more (digits_value_after r t) xs i 0 h

pub value-end : (r t : ℕ) (xs : List ℕ) (i : ℕ) → length xs ≤ i → digits_value_after r t (drop i xs) ≡ t
value-end r t xs i h = at_drop_all (digits_value_after r t) xs i h

pub value_grows : (r t : ℕ) (ds : List ℕ) → 0 < r → t ≤ digits_value_after r t ds
value_grows r t [] h = omega arith
value_grows r t (c ∷ cs) h =
    omega (arith, value_grows r (t * r + digit_value c) cs h, le-mul_of_pos_right t h)

-- a text with no stranger has digits alone
pub digits_alone : (r : ℕ) (ds : List ℕ) → first_stranger r ds ≡ None → AllDigits r ds
digits_alone r [] e = tt
digits_alone r (c ∷ cs) e =
    ⊎_elim (λ h. (h, digits_alone r cs (sym (cond-false _ _ _ (ap not (lt-ltb (digit_value c) r h))) ∙ e)))
    (λ h. absurd (none-some c (sym e ∙ cond-true _ _ _ (ap not (le-ltb (digit_value c) r h)))))
    (cases_lt (digit_value c) r)

pub word_fits : (ds : List ℕ) → first_stranger 16 ds ≡ None → length ds ≤ 8 → digits_value 16 ds < 2 ^ 32
word_fits ds e h =
    let powers : 16 ^ length ds ≤ 16 ^ 8 = pow-le-pow_right (zero-lt-suc 15) h in
    omega (arith, digits_value-lt 16 ds (digits_alone 16 ds e), powers)

digit_small : (c : ℕ) → digit_value c ≤ 36
digit_small c = grind (arith, nat_tests)

over : (r t d : ℕ) → d ≤ 36 → 2 ^ 64 ≤ t * r + d → 0 < r
over zero t d h k = absurd (omega (arith, mul-zero t))
over (suc r) t d h k = omega arith

-- digits that no longer fit stay too many
pub value_over : (r t : ℕ) (xs : List ℕ) (i : ℕ) → i < length xs → digits_value_after r t (drop i xs) ≡ digits_value r xs → 2 ^ 64 ≤ t * r + digit_value (get_or xs i 0) → value64 r xs ≡ None
value_over r t xs i h inv k =
    let d : ℕ = digit_value (get_or xs i 0) in
    let pos : 0 < r = over r t (digit_value (get_or xs i 0)) (digit_small (get_or xs i 0)) k in
    cond-false (ltb (digits_value r xs) (2 ^ 64)) (Some (digits_value r xs)) None
    (le-ltb (digits_value r xs) (2 ^ 64) (omega (arith, inv, value_step r t xs i h, value_grows r (t * r + digit_value (get_or xs i 0)) (drop (i + 1) xs) pos)))

pub value-held : (r t : ℕ) (xs : List ℕ) (i : ℕ) → length xs ≤ i → digits_value_after r t (drop i xs) ≡ digits_value r xs → t < 2 ^ 64 → Some t ≡ value64 r xs
value-held r t xs i h inv k =
    let e : t ≡ digits_value r xs = sym (value-end r t xs i h) ∙ inv in
    rw e (sym (cond-true (ltb (digits_value r xs) (2 ^ 64)) (Some (digits_value r xs)) None (lt-ltb (digits_value r xs) (2 ^ 64) (omega (arith, e)))))

pub before_here : (b : ℕ) (xs : List ℕ) (i : ℕ) → position (λ c. eqb c b) xs ≡ Some i → take i xs ≡ before b xs
before_here b xs i e = ap (λ n. take n xs) (sym (cond_some _ _ _ e).1)

pub before_all : (b : ℕ) (xs : List ℕ) → position (λ c. eqb c b) xs ≡ None → xs ≡ before b xs
before_all b xs e =
    let n = position_or_len (λ c. eqb c b) xs in
    ⊎_elim (λ h. absurd (none-some n (sym e ∙ cond-true (ltb n (length xs)) (Some n) None (lt-ltb n (length xs) h))))
    (λ h. sym (take_all n xs h))
    (cases_lt n (length xs))

pub trimmed_back-blank : (xs : List ℕ) (c : ℕ) → blank c ≡ true → trimmed_back (xs ++ c ∷ []) ≡ trimmed_back xs
trimmed_back-blank [] c e = cond-true (blank c) [] (c ∷ []) e
trimmed_back-blank (x ∷ xs) c e = ap (before_kept x) (trimmed_back-blank xs c e)

before-some : (x : ℕ) (xs : List ℕ) (c : ℕ) → before_kept x (xs ++ c ∷ []) ≡ x ∷ (xs ++ c ∷ [])
before-some x [] c = refl
before-some x (d ∷ ds) c = refl

pub trimmed_back_kept : (xs : List ℕ) (c : ℕ) → blank c ≡ false → trimmed_back (xs ++ c ∷ []) ≡ xs ++ c ∷ []
trimmed_back_kept [] c e = cond-false (blank c) [] (c ∷ []) e
trimmed_back_kept (x ∷ xs) c e = ap (before_kept x) (trimmed_back_kept xs c e) ∙ before-some x xs c

front_step : (b : Bool) (x : ℕ) (xs front : List ℕ) → drop (prefix_len blank xs) xs ≡ front → drop (cond b (1 + prefix_len blank xs) 0) (x ∷ xs) ≡ cond b front (x ∷ xs)
front_step true x xs front e = let on : 1 + prefix_len blank xs ≡ suc (prefix_len blank xs) = omega arith in ap (λ n. drop n (x ∷ xs)) on ∙ e
front_step false x xs front e = refl

pub trimmed_front_is : (xs : List ℕ) → drop (prefix_len blank xs) xs ≡ trimmed_front xs
trimmed_front_is [] = refl
trimmed_front_is (x ∷ xs) = front_step (blank x) x xs (trimmed_front xs) (trimmed_front_is xs)

back_until : (xs : List ℕ) (n : ℕ) → n ≤ length xs → take (n - suffix_len blank (take n xs)) xs ≡ trimmed_back (take n xs)
back_until xs zero h = refl
back_until xs (suc n) h =
    let c = get_or xs n 0 in
    let on : suc n ≡ n + 1 = omega arith in
    let last : suc n - 1 ≡ n = omega arith in
    let more : take (suc n) xs ≡ take n xs ++ c ∷ [] = ap (λ k. take k xs) on ∙ take_more xs n 0 (omega arith) in
    ⊎_elim (λ e.
    let s : suc n - suffix_len blank (take (suc n) xs) ≡ n - suffix_len blank (take n xs) = omega (arith, suffix_len-take_yes blank xs (suc n) 0 (omega arith) h (ap (λ k. blank (get_or xs k 0)) last ∙ e), ap (λ k. suffix_len blank (take k xs)) last) in
    ap (λ k. take k xs) s ∙ back_until xs n (omega arith) ∙ sym (trimmed_back-blank (take n xs) c e) ∙ ap trimmed_back (sym more))
    (λ e.
    let s : suc n - suffix_len blank (take (suc n) xs) ≡ suc n = omega (arith, suffix_len-take_no blank xs (suc n) 0 (omega arith) h (ap (λ k. blank (get_or xs k 0)) last ∙ e)) in
    ap (λ k. take k xs) s ∙ more ∙ sym (trimmed_back_kept (take n xs) c e) ∙ ap trimmed_back (sym more))
    (cases_Bool (blank c))

pub trimmed_back_is : (xs : List ℕ) → take (length xs - suffix_len blank xs) xs ≡ trimmed_back xs
trimmed_back_is xs = ap (λ l. take (length xs - suffix_len blank l) xs) (sym (take_all (length xs) xs (omega arith))) ∙ back_until xs (length xs) (omega arith) ∙ ap trimmed_back (take_all (length xs) xs (omega arith))

word_value : (ds : List ℕ) → first_stranger 16 ds ≡ None → length ds ≤ 8 → value64 16 ds ≡ Some (digits_value 16 ds)
word_value ds e h = cond-true (ltb (digits_value 16 ds) (2 ^ 64)) (Some (digits_value 16 ds)) None (lt-ltb (digits_value 16 ds) (2 ^ 64) (omega (arith, word_fits ds e h)))

too_large : (o : Option ℕ) (e : DigitsFault) → Err e ≡ ok_or o TooLarge → e ≡ TooLarge
too_large None e k = cc
too_large (Some n) e k = cc

refused_at : (ds : List ℕ) (o : Option ℕ) (e : DigitsFault) → first_stranger 16 ds ≡ o → Err e ≡ digits_or_fault 16 ds o → Err (word_fault e) ≡ hex_or_fault ds o
refused_at ds (Some c) e s k = cc
refused_at ds None e s k =
    ⊎_elim (λ h. sym (cond-false (leb (length ds) 8) _ _ (lt-leb (length ds) 8 h) ∙ ap (λ d. Err (word_fault d)) (sym (too_large (value64 16 ds) e k))))
    (λ h. let n = k ∙ ap (λ v. ok_or v TooLarge) (word_value ds s h) in cc)
    (cases_lt 8 (length ds))

pub word_refused : (ds : List ℕ) (e : DigitsFault) → Err e ≡ parsed 16 ds → Err (word_fault e) ≡ hex_word ds
word_refused [] e k = cc
word_refused (d ∷ ds) e k = refused_at (d ∷ ds) (first_stranger 16 (d ∷ ds)) e refl k

read_at : (ds : List ℕ) (o : Option ℕ) (w : ℕ) → first_stranger 16 ds ≡ o → length ds ≤ 8 → Ok w ≡ digits_or_fault 16 ds o → (w < 2 ^ 32) × (Ok w ≡ hex_or_fault ds o)
read_at ds (Some c) w s h k = cc
read_at ds None w s h k =
    let v : ◌≡◌ {A = Result ℕ DigitsFault} (Ok w) (Ok (digits_value 16 ds)) = k ∙ ap (λ v. ok_or v TooLarge) (word_value ds s h) in
    let e : w ≡ digits_value 16 ds = cc in
    (omega (arith, e, word_fits ds s h), ap (λ n. Ok n) e ∙ sym (cond-true (leb (length ds) 8) _ _ (le-leb (length ds) 8 h)))

pub word_read : (ds : List ℕ) (w : ℕ) → length ds ≤ 8 → Ok w ≡ parsed 16 ds → (w < 2 ^ 32) × (Ok w ≡ hex_word ds)
word_read [] w h k = cc
word_read (d ∷ ds) w h k = read_at (d ∷ ds) (first_stranger 16 (d ∷ ds)) w refl h k
