-- A text's fields, and its bytes one by one.
-- Assumes nothing.
use Rattle.std.proofs.Common.{◌≡◌, ℕ, ◌+◌, Bool, false, Option, eqb, List, [], ◌∷◌, length, get_or, drop, Result, refl, ap, ◌∙◌, arith}
use Rattle.std.proofs.lemmas.Bool.{eqb-false}
use Rattle.std.proofs.lemmas.List.{drop_more, drop_all}
use Rattle.std.proofs.lemmas.List.Sums.{prefix_len-le-length}
use Rattle.std.proofs.lemmas.Grind.{common_steps}
use Rattle.std.specs.List.{position, position_or_len}
use Rattle.std.specs.Option.{unwrap_or}
use Rattle.past.specs.declared.calls.Call.{Call}
use Rattle.past.specs.declared.calls.CallFault.{CallFault}
use Rattle.past.specs.Calls.{first_field, after_field, call_named, some_call, text_call}

-- from place i on, n has the bytes of t
abbrev pub HasFrom : List ℕ → ℕ → List ℕ → Type 0
HasFrom n i [] = Unit {0}
HasFrom n i (b ∷ t) = (get_or n i 0 ≡ b) × HasFrom n (i + 1) t

spelled_from : (n : List ℕ) (i : ℕ) (t : List ℕ) → length n ≡ i + length t → HasFrom n i t → drop i n ≡ t
spelled_from n i [] h e = drop_all i n (omega arith)
spelled_from n i (b ∷ t) h e = drop_more n i 0 (omega arith) ∙ ap (λ x. x ∷ drop (i + 1) n) e.0 ∙ ap (λ l. b ∷ l) (spelled_from n (i + 1) t (omega arith) e.1)

pub spelled : (n t : List ℕ) → length n ≡ length t → HasFrom n 0 t → n ≡ t
spelled n t h e = spelled_from n 0 t (omega arith) e

pub index_or_length : (p : ℕ → Bool) (xs : List ℕ) (r : Option ℕ) → r ≡ position p xs → unwrap_or r (length xs) ≡ position_or_len p xs
index_or_length p xs r e = grind (arith, common_steps, prefix_len-le-length)

some_text : (bs : List ℕ) → eqb (length bs) 0 ≡ false → some_call (call_named (first_field bs) (after_field bs)) ≡ text_call bs
some_text [] e = absurd (eqb-false 0 0 e refl)
some_text (c ∷ cs) e = refl

pub said : (bs name rest : List ℕ) (r : Result Call CallFault) → eqb (length bs) 0 ≡ false → name ≡ first_field bs → rest ≡ after_field bs → r ≡ call_named name rest → some_call r ≡ text_call bs
said bs name rest r e n m is =
    ap some_call (is ∙ ap (λ l. call_named l rest) n ∙ ap (call_named (first_field bs)) m) ∙ some_text bs e
