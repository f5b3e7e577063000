-- The machine that runs straight ahead, and which instruction a register's value comes from.
-- Assumes nothing.
use Rattle.std.proofs.Common.{◌≡◌, ℕ, zero, suc, ◌<◌, ◌≤◌, Bool, true, false, cond, not, ◌&&◌, eqb, List, length, get_or, set, Some, None, Option, sym, refl, ap, ◌∙◌, inl, inr, arith, length-set, get_or-set_other, get_or-set_same}
use Rattle.std.proofs.lemmas.List.{get_or_past}
use Rattle.std.proofs.lemmas.Bool.{cond_both}
use Rattle.std.proofs.lemmas.Bool.Decides.{nat_tests, eqb_tells}
use Rattle.isa.specs.declared.operation.Class.{Class}
use Rattle.machine.specs.declared.state.Machine.{Machine}
use Rattle.machine.specs.States.{register_of, with_register}
use Rattle.law.specs.Pasts.{Sized}
use Rattle.law.proofs.Plan.{destination_of, asks, result, straight, ahead, writes, writer, writer_brings}

-- the youngest writer, when one more instruction comes before those counted
abbrev pub shifted : Bool → Option ℕ → Option ℕ
shifted b (Some n) = Some (suc n)
shifted true None = Some 0
shifted false None = None

-- a write to a register -------------------------------------------------------

length-written : (d v : ℕ) (rs : List ℕ) → length (with_register d v rs) ≡ length rs
length-written d v rs =
    cond_both (eqb d 0) rs (set rs d v) (λ xs. length xs ≡ length rs) (λ e. refl) (λ e. length-set rs d v)

-- only its destination takes the value, and register 0 does not
register-written : (d v r : ℕ) (rs : List ℕ) → r < length rs
    → get_or (with_register d v rs) r 0 ≡ cond (not (eqb r 0) && eqb d r) v (get_or rs r 0)
register-written d v r rs lt =
    elim (eqb_tells d r) [
      | inl e ↦
          let is = e.1 in
          let same : get_or (set rs d v) r 0 ≡ v = ap (λ n. get_or (set rs n v) r 0) is ∙ get_or-set_same rs r v 0 lt in
          grind (arith, nat_tests)
      | inr e ↦
          let isnt = e.1 in
          let other = get_or-set_other rs d r v 0 (λ q. isnt (sym q)) in
          grind (arith, nat_tests)
    ]

-- by the cases of a test -------------------------------------------------------

some_of_cond : (b : Bool) (n k : ℕ) (o : Option ℕ) → cond b (Some n) o ≡ Some k → (o ≡ Some k → k < n) → k < suc n
some_of_cond true n k o e f = let same : n ≡ k = cc in omega arith
some_of_cond false n k o e f = let lt = f e in omega arith

shifted-cond : (b first : Bool) (n : ℕ) (o : Option ℕ)
    → cond b (Some (suc n)) (shifted first o) ≡ shifted first (cond b (Some n) o)
shifted-cond true first n o = refl
shifted-cond false first n o = refl

first_shifted : (b : Bool) → cond b (Some 0) None ≡ shifted b None
first_shifted true = refl
first_shifted false = refl

module _ (served : Class → Bool) where
  pub ahead-last : (x : Machine) (n : ℕ) → ahead served x (suc n) ≡ straight served (ahead served x n)
  ahead-last x zero = refl
  ahead-last x (suc n) = ahead-last (straight served x) n

  pub ahead_program : (x : Machine) (n : ℕ) → (ahead served x n).program ≡ x.program
  ahead_program x zero = refl
  ahead_program x (suc n) = ahead_program (straight served x) n

  pub ahead-sized : (x : Machine) (n : ℕ) → Sized x → Sized (ahead served x n)
  ahead-sized x zero h = h
  ahead-sized x (suc n) h =
      ahead-sized (straight served x) n
      (length-written (destination_of (asks served x)) (result served x) x.registers ∙ h)

  -- there is nothing past the registers
  pub past_registers : (x : Machine) (n r : ℕ) → Sized x → 32 ≤ r → register_of (ahead served x n) r ≡ register_of x r
  past_registers x n r h le =
      let long = ahead-sized x n h in
      get_or_past (ahead served x n).registers r 0 (omega arith) ∙ sym (get_or_past x.registers r 0 (omega arith))

  brings_of_cond : (x : Machine) (r n : ℕ) (b : Bool) (o : Option ℕ)
      → writer_brings served x r (cond b (Some n) o) ≡ cond b (result served (ahead served x n)) (writer_brings served x r o)
  brings_of_cond x r n true o = refl
  brings_of_cond x r n false o = refl

  -- a register holds what its youngest writer brings
  pub value_of_writer : (x : Machine) (n r : ℕ) → Sized x → r < 32
      → register_of (ahead served x n) r ≡ writer_brings served x r (writer served x r n)
  value_of_writer x zero r h lt = refl
  value_of_writer x (suc n) r h lt =
      let y = ahead served x n in
      let b = writes served x n r in
      let long = ahead-sized x n h in
      ap (λ (m : Machine). register_of m r) (ahead-last x n)
      ∙ register-written (destination_of (asks served y)) (result served y) r y.registers (omega arith)
      ∙ ap (cond b (result served y)) (value_of_writer x n r h lt)
      ∙ sym (brings_of_cond x r n b (writer served x r n))

  pub writer-below : (x : Machine) (r n k : ℕ) → writer served x r n ≡ Some k → k < n
  writer-below x r zero k e = cc
  writer-below x r (suc n) k e = some_of_cond (writes served x n r) n k (writer served x r n) e (writer-below x r n k)

  pub writer_shift : (x : Machine) (r n : ℕ)
      → writer served x r (suc n) ≡ shifted (writes served x 0 r) (writer served (straight served x) r n)
  writer_shift x r zero = first_shifted (writes served x 0 r)
  writer_shift x r (suc n) =
      let b = writes served x (suc n) r in
      ap (cond b (Some (suc n))) (writer_shift x r n)
      ∙ shifted-cond b (writes served x 0 r) n (writer served (straight served x) r n)
