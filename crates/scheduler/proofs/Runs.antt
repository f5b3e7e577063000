-- A run, cycle by cycle: what is made so far, and what is left, make the whole.
-- Assumes nothing.
use Rattle.std.proofs.Common.{◌≡◌, ℕ, suc, ◌+◌, ◌-◌, ◌<◌, ◌≤◌, Some, None, Option, refl, subst, arith}
use Rattle.machine.specs.declared.record.Record.{Record}
use Rattle.units.specs.Meaning.{UnitModel}
use Rattle.law.specs.declared.state.Running.{Running}
use Rattle.law.specs.Calls.{CycleCall, RunCall, done, spent, idle, retires}
use Rattle.law.specs.Pasts.{cycle}
use Rattle.law.specs.Laws.{reports}

module _ {A : Type 0} (m : UnitModel A) where
  -- a run by its numbers
  recounted : (w w' b b' c c' r r' : ℕ) (k k' : Running A) → w ≡ w' → b ≡ b' → c ≡ c' → r ≡ r'
      → RunCall m w b c r k k' → RunCall m w' b' c' r' k k'
  recounted w w' b b' c c' r r' k k' ew eb ec er call =
      subst (λ (x : ℕ). RunCall m x b' c' r' k k') ew
      (subst (λ (x : ℕ). RunCall m w x c' r' k k') eb
      (subst (λ (x : ℕ). RunCall m w b x r' k k') ec
      (subst (λ (x : ℕ). RunCall m w b c x k k') er call)))

  pub record SoFar (wanted budget cycles retirements : ℕ) (k l : Running A) : Type 0 where
    pub few : retirements ≤ wanted
    pub within : cycles ≤ budget
    pub whole : (c r : ℕ) (k' : Running A) → RunCall m (wanted - retirements) (budget - cycles) c r l k'
        → RunCall m wanted budget (cycles + c) (retirements + r) k k'

  pub begins : (wanted budget : ℕ) (k : Running A) → SoFar wanted budget 0 0 k k
  begins wanted budget k =
      record {
        few = omega arith;
        within = omega arith;
        whole = λ c r k' rest.
            recounted (wanted - 0) wanted (budget - 0) budget c (0 + c) r (0 + r) k k' (omega arith) (omega arith) (omega arith) (omega arith) rest;
      }

  pub one_more : (wanted budget cycles retirements : ℕ) (k l l' : Running A) (a : Option Record)
      → SoFar wanted budget cycles retirements k l → retirements < wanted → cycles < budget → CycleCall m l a l'
      → SoFar wanted budget (cycles + 1) (retirements + reports (cycle a)) k l'
  one_more wanted budget cycles retirements k l l' (Some rec) so few within call =
      record {
        few = omega (arith, few);
        within = omega (arith, within);
        whole = λ c r k' rest.
            let w = wanted - (retirements + 1) in
            let b = budget - (cycles + 1) in
            recounted wanted wanted budget budget (cycles + suc c) (cycles + 1 + c) (retirements + suc r) (retirements + 1 + r) k k'
            refl refl (omega arith) (omega arith)
            (so.whole (suc c) (suc r) k'
            (recounted (suc w) (wanted - retirements) (suc b) (budget - cycles) (suc c) (suc c) (suc r) (suc r) l k'
            (omega (arith, few)) (omega (arith, within)) refl refl (retires rec call rest)));
      }
  one_more wanted budget cycles retirements k l l' None so few within call =
      record {
        few = omega (arith, few);
        within = omega (arith, within);
        whole = λ c r k' rest.
            let w = wanted - (retirements + 1) in
            let b = budget - (cycles + 1) in
            recounted wanted wanted budget budget (cycles + suc c) (cycles + 1 + c) (retirements + r) (retirements + 0 + r) k k'
            refl refl (omega arith) (omega arith)
            (so.whole (suc c) r k'
            (recounted (suc w) (wanted - retirements) (suc b) (budget - cycles) (suc c) (suc c) r r l k'
            (omega (arith, few)) (omega (arith, within)) refl refl
            (idle call (recounted (wanted - (retirements + 0)) (suc w) b b c c r r l' k' (omega (arith, few)) refl refl refl rest))));
      }

  pub ends-done : (wanted budget cycles retirements : ℕ) (k l : Running A) → SoFar wanted budget cycles retirements k l
      → wanted ≤ retirements → RunCall m wanted budget cycles retirements k l
  ends-done wanted budget cycles retirements k l so enough =
      recounted wanted wanted budget budget (cycles + 0) cycles (retirements + 0) retirements k l refl refl (omega arith) (omega arith)
      (so.whole 0 0 l (recounted 0 (wanted - retirements) (budget - cycles) (budget - cycles) 0 0 0 0 l l (omega (arith, enough)) refl refl refl done))

  pub ends-spent : (wanted budget cycles retirements : ℕ) (k l : Running A) → SoFar wanted budget cycles retirements k l
      → budget ≤ cycles → RunCall m wanted budget cycles retirements k l
  ends-spent wanted budget cycles retirements k l so enough =
      recounted wanted wanted budget budget (cycles + 0) cycles (retirements + 0) retirements k l refl refl (omega arith) (omega arith)
      (so.whole 0 0 l (recounted (wanted - retirements) (wanted - retirements) 0 (budget - cycles) 0 0 0 0 l l refl (omega (arith, enough)) refl refl spent))
