-- What `map_err` was called on, from what it gave, where its closure gives f of each fault.
-- Assumes nothing.
use Rattle.std.proofs.Common.{◌≡◌, Ok, Err, Result, MatchResult, refl, subst, arith}
use Rattle.std.specs.Result.{IsErrAnd}
use Rattle.std.proofs.lemmas.Grind.{common_steps}

module _ {X E D : Type 0} (P : E → D → Type 0) (m : Result X D) where
  pub mapped_ok : (r : Result X E) (x : X) → MatchResult r (λ y. m ≡ Ok y) (λ e. IsErrAnd m (P e)) → m ≡ Ok x → r ≡ Ok x
  mapped_ok (Ok y) x h e = grind (arith, common_steps)
  mapped_ok (Err y) x h e = absurd (subst (λ s. IsErrAnd s (P y)) e h)

  pub mapped_err : (r : Result X E) (d : D) → MatchResult r (λ y. m ≡ Ok y) (λ e. IsErrAnd m (P e)) → m ≡ Err d → (f : E → D) → ((e : E) (b : D) → P e b → b ≡ f e) → (e : E) × (r ≡ Err e) × (d ≡ f e)
  mapped_err (Ok y) d h e f given = absurd (grind (arith, common_steps))
  mapped_err (Err y) d h e f given = (y, refl, given y d (subst (λ s. IsErrAnd s (P y)) e h))
