-- The definitions over the places as the library's list functions.
-- Assumes nothing.
use Rattle.std.proofs.Common.{◌≡◌, ℕ, suc, ◌+◌, Bool, cond, not, List, [], ◌∷◌, set, is_some, Some, None, Option, sym, refl, ap, ◌∙◌, arith}
use Rattle.std.specs.List.{list_any, position, position_or_len}
use Rattle.std.proofs.lemmas.List.{set_past}
use Rattle.std.proofs.lemmas.Bool.Decides.{nat_tests}
use Rattle.isa.specs.declared.operation.Class.{Class}
use Rattle.units.specs.declared.job.Job.{Job}
use Rattle.tables.specs.declared.station.Station.{Station}
use Rattle.tables.specs.Waiting.{any_free, placed, older, oldest_ready, blocked}

pub any_free_listed : (xs : List (Option Station)) → list_any (λ p. not (is_some p)) xs ≡ any_free xs
any_free_listed [] = refl
any_free_listed (None ∷ l) = refl
any_free_listed (Some s ∷ l) = any_free_listed l

module _ (room : Class → Bool) (h : ℕ) where
  -- the choice among these places, where o is the oldest job of those before them
  abbrev pub goes_after : Option Job → List (Option Station) → Option Job
  goes_after o l = cond (blocked room h l) None (older h o (oldest_ready room h l))

-- a station goes to the first free place; past the last, nothing changes
pub placed_set : (s : Station) (xs : List (Option Station)) → placed s xs ≡ set xs (position_or_len (λ p. not (is_some p)) xs) (Some s)
placed_set s [] = refl
placed_set s (None ∷ l) = refl
placed_set s (Some x ∷ l) =
    let n = position_or_len (λ p. not (is_some p)) l in
    let e : 1 + n ≡ suc n = omega arith in
    ap (λ ys. Some x ∷ ys) (placed_set s l) ∙ ap (λ k. set (Some x ∷ l) k (Some s)) (sym e)

pub placed_at : (s : Station) (xs : List (Option Station)) (i : ℕ) → position (λ p. not (is_some p)) xs ≡ Some i → placed s xs ≡ set xs i (Some s)
placed_at s xs i e = let k = placed_set s xs in grind (arith, nat_tests)

pub placed_nowhere : (s : Station) (xs : List (Option Station)) → position (λ p. not (is_some p)) xs ≡ None → placed s xs ≡ xs
placed_nowhere s xs e = let k = placed_set s xs in grind (arith, nat_tests, set_past)
