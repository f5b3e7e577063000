-- A choice by a test, by its cases.
-- Assumes nothing.
use Rattle.std.specs.Prelude.{◌≡◌, ℕ, ◌<◌, ◌≤◌, Bool, true, false, cond, ◌==◌, ◌≢◌, nat_le}
use Rattle.std.proofs.Common.{sym, subst, inl, inr}
use Rattle.std.proofs.lemmas.Bool.Decides.{eqb_tells, leb_tells}

pub by_eqb : (P : Bool → Type 0) (a b : ℕ) → (a ≡ b → P true) → ((a ≢ b) → P false) → P (a == b)
by_eqb P a b h k =
    elim (eqb_tells a b) [
      | inl e ↦ subst P (sym e.0) (h e.1)
      | inr e ↦ subst P (sym e.0) (k e.1)
    ]

pub by_leb : (P : Bool → Type 0) (a b : ℕ) → (a ≤ b → P true) → (b < a → P false) → P (nat_le a b)
by_leb P a b h k =
    elim (leb_tells a b) [
      | inl e ↦ subst P (sym e.0) (h e.1)
      | inr e ↦ subst P (sym e.0) (k e.1)
    ]

-- two choices by one test
pub both : {X Y : Type 0} (R : X → Y → Type 0) (b : Bool) {x₁ x₂ : X} {y₁ y₂ : Y} → R x₁ y₁ → R x₂ y₂ → R (cond b x₁ x₂) (cond b y₁ y₂)
both R true h k = h
both R false h k = k
