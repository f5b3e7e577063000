-- What holds of every station, and which entry has one, through each change of the stations.
-- Assumes nothing.
use Rattle.std.proofs.Common.{◌≡◌, ℕ, suc, ◌≤◌, Bool, true, false, cond, not, eqb, leb, ◌⊎◌, List, [], ◌∷◌, map, length, Some, None, Option, sym, refl, ap, ◌∙◌, subst, inl, inr, arith}
use Rattle.std.proofs.lemmas.Bool.{false≢true, and_from, and_left, and_right, or_from, or_left, or_right, eq-eqb, cond_both}
use Rattle.std.proofs.lemmas.Bool.Decides.{eqb_tells, leb_tells}
use Rattle.isa.specs.declared.operation.Class.{Class}
use Rattle.units.specs.declared.job.Job.{Job}
use Rattle.tables.specs.declared.station.Operand.{Operand}
use Rattle.tables.specs.declared.station.Operand.TheVariants.{Value, Awaits}
use Rattle.tables.specs.declared.station.Station.{Station}
use Rattle.tables.specs.Waiting.{any_free, placed, woken, woken_place, freed_place}
use Rattle.tables.specs.Waiting.{job_with, job_of, candidate, age, older, oldest_ready, blocked_in, blocked, goes}
use Rattle.law.proofs.Tied.{AllStations, InStation}

-- what holds of every station --------------------------------------------------

pub all_weaker : (P Q : Station → Type 0) (l : List (Option Station)) → ((s : Station) → P s → Q s) → AllStations P l → AllStations Q l
all_weaker P Q [] f h = tt
all_weaker P Q (None ∷ l) f h = all_weaker P Q l f h
all_weaker P Q (Some s ∷ l) f h = (f s h.0, all_weaker P Q l f h.1)

pub all_both : (P Q : Station → Type 0) (l : List (Option Station)) → AllStations P l → AllStations Q l → AllStations (λ s. P s × Q s) l
all_both P Q [] h k = tt
all_both P Q (None ∷ l) h k = all_both P Q l h k
all_both P Q (Some s ∷ l) h k = ((h.0, k.0), all_both P Q l h.1 k.1)

pub all_placed_lem : (P : Station → Type 0) (s : Station) (l : List (Option Station)) → P s → AllStations P l → AllStations P (placed s l)
all_placed_lem P s [] p h = tt
all_placed_lem P s (None ∷ l) p h = (p, h)
all_placed_lem P s (Some x ∷ l) p h = (h.0, all_placed_lem P s l p h.1)

pub all_woken_lem : (P Q : Station → Type 0) (t v : ℕ) (l : List (Option Station))
    → ((s : Station) → P s → Q (woken t v s)) → AllStations P l → AllStations Q (map (woken_place t v) l)
all_woken_lem P Q t v [] f h = tt
all_woken_lem P Q t v (None ∷ l) f h = all_woken_lem P Q t v l f h
all_woken_lem P Q t v (Some s ∷ l) f h = (f s h.0, all_woken_lem P Q t v l f h.1)

-- a station is freed or not, by its tag
by_freed : (P : Option Station → Type 0) (t : ℕ) (s : Station)
    → (s.tag ≡ t → P None) → ((s.tag ≡ t → ⊥) → P (Some s)) → P (freed_place t (Some s))
by_freed P t s h k =
    elim (eqb_tells s.tag t) [
      | inl e ↦ subst (λ (b : Bool). P (cond b None (Some s))) (sym e.0) (h e.1)
      | inr e ↦ subst (λ (b : Bool). P (cond b None (Some s))) (sym e.0) (k e.1)
    ]

pub all_freed_lem : (P Q : Station → Type 0) (t : ℕ) (l : List (Option Station))
    → ((s : Station) → (s.tag ≡ t → ⊥) → P s → Q s) → AllStations P l → AllStations Q (map (freed_place t) l)
all_freed_lem P Q t [] f h = tt
all_freed_lem P Q t (None ∷ l) f h = all_freed_lem P Q t l f h
all_freed_lem P Q t (Some s ∷ l) f h =
    let rest = all_freed_lem P Q t l f h.1 in
    by_freed (λ p. AllStations Q (p ∷ map (freed_place t) l)) t s (λ e. rest) (λ ne. (f s ne h.0, rest))

-- which entry has a station ------------------------------------------------------

pub in_placed_new : (s : Station) (l : List (Option Station)) → any_free l ≡ true → InStation s.tag (placed s l)
in_placed_new s [] h = false≢true h
in_placed_new s (None ∷ l) h = inl refl
in_placed_new s (Some x ∷ l) h = inr (in_placed_new s l h)

pub in_placed_old : (t : ℕ) (s : Station) (l : List (Option Station)) → InStation t l → InStation t (placed s l)
in_placed_old t s [] h = h
in_placed_old t s (None ∷ l) h = inr h
in_placed_old t s (Some x ∷ l) (inl e) = inl e
in_placed_old t s (Some x ∷ l) (inr h) = inr (in_placed_old t s l h)

pub in_woken : (u t v : ℕ) (l : List (Option Station)) → InStation u l → InStation u (map (woken_place t v) l)
in_woken u t v [] h = h
in_woken u t v (None ∷ l) h = in_woken u t v l h
in_woken u t v (Some s ∷ l) (inl e) = inl e
in_woken u t v (Some s ∷ l) (inr h) = inr (in_woken u t v l h)

pub in_freed : (u t : ℕ) (l : List (Option Station)) → (u ≡ t → ⊥) → InStation u l → InStation u (map (freed_place t) l)
in_freed u t [] ne h = h
in_freed u t (None ∷ l) ne h = in_freed u t l ne h
in_freed u t (Some s ∷ l) ne (inl e) =
    by_freed (λ p. InStation u (p ∷ map (freed_place t) l)) t s (λ is. absurd (ne (sym e ∙ is))) (λ other. inl e)
in_freed u t (Some s ∷ l) ne (inr h) =
    let rest = in_freed u t l ne h in
    by_freed (λ p. InStation u (p ∷ map (freed_place t) l)) t s (λ is. rest) (λ other. inr rest)

pub station_in : (P : Station → Type 0) (t : ℕ) (l : List (Option Station))
    → AllStations P l → InStation t l → (s : Station) × (s.tag ≡ t) × P s
station_in P t [] h i = absurd i
station_in P t (None ∷ l) h i = station_in P t l h i
station_in P t (Some s ∷ l) h (inl e) = (s, e, h.0)
station_in P t (Some s ∷ l) h (inr i) = station_in P t l h.1 i

-- sizes ----------------------------------------------------------------------------

pub placed-length : (s : Station) (l : List (Option Station)) → length (placed s l) ≡ length l
placed-length s [] = refl
placed-length s (None ∷ l) = refl
placed-length s (Some x ∷ l) = ap suc (placed-length s l)

-- where no entry has a station there is a free one
pub free_if_none : (l : List (Option Station)) → AllStations (λ s. ⊥) l → length l ≡ 8 → any_free l ≡ true
free_if_none [] h e = absurd (omega arith)
free_if_none (None ∷ l) h e = refl
free_if_none (Some s ∷ l) h e = absurd h.0

-- who goes ---------------------------------------------------------------------------

tag_of_job : (a b : Operand) (s : Station) (j : Job) → job_with a b s ≡ Some j → j.tag ≡ s.tag
tag_of_job (Value a) (Value b) s j e = cc
tag_of_job (Value a) (Awaits t) s j e = cc
tag_of_job (Awaits t) b s j e = cc

pub job-tag : (s : Station) (j : Job) → job_of s ≡ Some j → j.tag ≡ s.tag
job-tag s j e = tag_of_job s.a s.b s j e

-- what a choice between a job and none says where it gives a job
some_unless : (b : Bool) (o : Option Job) (j : Job) → cond b None o ≡ Some j → o ≡ Some j
some_unless true o j e = cc
some_unless false o j e = e

some_if : (b : Bool) (o : Option Job) (j : Job) → cond b o None ≡ Some j → (b ≡ true) × (o ≡ Some j)
some_if true o j e = (refl, e)
some_if false o j e = cc

module _ (h : ℕ) where
  -- the older of two is one of them
  older_is : (x y : Option Job) (j : Job) → older h x y ≡ Some j → (x ≡ Some j) ⊎ (y ≡ Some j)
  older_is None y j e = inr e
  older_is (Some x) None j e = inl e
  older_is (Some x) (Some y) j e =
      cond_both (leb (age h x.tag) (age h y.tag)) (Some x) (Some y)
      (λ o. o ≡ Some j → (Some x ≡ Some j) ⊎ (Some y ≡ Some j)) (λ _. inl) (λ _. inr) e

  older_none : (x y : Option Job) → older h x y ≡ None → (x ≡ None) × (y ≡ None)
  older_none None y e = (refl, e)
  older_none (Some x) None e = cc
  older_none (Some x) (Some y) e =
      cond_both (leb (age h x.tag) (age h y.tag)) (Some x) (Some y)
      (λ o. o ≡ None → (Some x ≡ None) × (Some y ≡ None)) (λ _ f. cc) (λ _ f. cc) e

  -- n entries or more are older than that of the job, if there is one
  abbrev Aged : ℕ → Option Job → Type 0
  Aged n None = Unit {0}
  Aged n (Some j) = n ≤ age h j.tag

  -- neither of two is older than the older
  older-aged : (n : ℕ) (x y : Option Job) → Aged n (older h x y) → Aged n x × Aged n y
  older-aged n None y a = (tt, a)
  older-aged n (Some x) None a = (a, tt)
  older-aged n (Some x) (Some y) a =
      elim (leb_tells (age h x.tag) (age h y.tag)) [
        | inl e ↦
            let first : n ≤ age h x.tag = subst (λ (b : Bool). Aged n (cond b (Some x) (Some y))) e.0 a in
            (first, omega (arith, first, e.1))
        | inr e ↦
            let second : n ≤ age h y.tag = subst (λ (b : Bool). Aged n (cond b (Some x) (Some y))) e.0 a in
            (omega (arith, second, e.1), second)
      ]

module _ (room : Class → Bool) (h : ℕ) where
  ready-from : (P : Station → Type 0) (l : List (Option Station)) (j : Job) → oldest_ready room h l ≡ Some j → AllStations P l
      → (s : Station) × (job_of s ≡ Some j) × (room s.class ≡ true) × P s
  ready-from P [] j e p = cc
  ready-from P (None ∷ l) j e p = ready-from P l j e p
  ready-from P (Some s ∷ l) j e p =
      elim (older_is h (candidate room (Some s)) (oldest_ready room h l) j e) [
        | inl f ↦ let may = some_if (room s.class) (job_of s) j f in (s, may.1, may.0, p.0)
        | inr f ↦ ready-from P l j f p.1
      ]

  -- the job that goes has both operands, and there is room for it
  pub goes_from : (P : Station → Type 0) (l : List (Option Station)) (j : Job) → goes room h l ≡ Some j → AllStations P l
      → (s : Station) × (job_of s ≡ Some j) × (room s.class ≡ true) × P s
  goes_from P l j e p = ready-from P l j (some_unless (blocked room h l) (oldest_ready room h l) j e) p

  ready-aged : (n : ℕ) (l : List (Option Station)) → Aged h n (oldest_ready room h l)
      → AllStations (λ s. (i : Job) → room s.class ≡ true → job_of s ≡ Some i → n ≤ age h i.tag) l
  ready-aged n [] a = tt
  ready-aged n (None ∷ l) a = ready-aged n l a
  ready-aged n (Some s ∷ l) a =
      let both = older-aged h n (candidate room (Some s)) (oldest_ready room h l) a in
      (λ i r e. subst (Aged h n) (ap (λ (b : Bool). cond b (job_of s) None) r ∙ e) both.0, ready-aged n l both.1)

  -- none that may go is older
  pub goes_oldest : (l : List (Option Station)) (j : Job) → goes room h l ≡ Some j
      → AllStations (λ s. (i : Job) → room s.class ≡ true → job_of s ≡ Some i → age h j.tag ≤ age h i.tag) l
  goes_oldest l j e =
      let ready = some_unless (blocked room h l) (oldest_ready room h l) j e in
      ready-aged (age h j.tag) l (subst (Aged h (age h j.tag)) (sym ready) (omega arith))

  none_ready : (l : List (Option Station)) → oldest_ready room h l ≡ None
      → AllStations (λ s. room s.class ≡ true → job_of s ≡ None) l
  none_ready [] e = tt
  none_ready (None ∷ l) e = none_ready l e
  none_ready (Some s ∷ l) e =
      let both = older_none h (candidate room (Some s)) (oldest_ready room h l) e in
      (λ r. sym (ap (λ (b : Bool). cond b (job_of s) None) r) ∙ both.0, none_ready l both.1)

  -- where none goes, none may go, or one of the oldest entry waits for room
  pub none_goes : (l : List (Option Station)) → blocked room h l ≡ false → goes room h l ≡ None
      → AllStations (λ s. room s.class ≡ true → job_of s ≡ None) l
  none_goes l f e = none_ready l (sym (ap (λ (b : Bool). cond b None (oldest_ready room h l)) f) ∙ e)

  -- where all stations of the oldest entry have room, none of them waits for room
  pub not_blocked : (l : List (Option Station)) → AllStations (λ s. s.tag ≡ h → room s.class ≡ true) l → blocked room h l ≡ false
  not_blocked [] p = refl
  not_blocked (None ∷ l) p = not_blocked l p
  not_blocked (Some s ∷ l) p =
      or_from (blocked_in room h (Some s)) (blocked room h l)
      (elim (eqb_tells s.tag h) [
        | inl e ↦ and_right (eqb s.tag h) (not (room s.class)) (ap not (p.0 e.1))
        | inr e ↦ and_left (eqb s.tag h) (not (room s.class)) e.0
      ])
      (not_blocked l p.1)

  is_blocked : (l : List (Option Station)) → AllStations (λ s. s.tag ≡ h → room s.class ≡ false) l → InStation h l
      → blocked room h l ≡ true
  is_blocked [] p i = absurd i
  is_blocked (None ∷ l) p i = is_blocked l p i
  is_blocked (Some s ∷ l) p (inl e) =
      or_left (blocked_in room h (Some s)) (blocked room h l)
      (and_from (eqb s.tag h) (not (room s.class)) (eq-eqb s.tag h e) (ap not (p.0 e)))
  is_blocked (Some s ∷ l) p (inr i) = or_right (blocked_in room h (Some s)) (blocked room h l) (is_blocked l p.1 i)

  -- a station of the oldest entry that waits for room lets none go
  pub blocked_by : (l : List (Option Station)) → AllStations (λ s. s.tag ≡ h → room s.class ≡ false) l → InStation h l → goes room h l ≡ None
  blocked_by l p i = ap (λ (b : Bool). cond b None (oldest_ready room h l)) (is_blocked l p i)

  none_ready_from_none : (l : List (Option Station)) → AllStations (λ s. ⊥) l → oldest_ready room h l ≡ None
  none_ready_from_none [] p = refl
  none_ready_from_none (None ∷ l) p = none_ready_from_none l p
  none_ready_from_none (Some s ∷ l) p = absurd p.0

  pub none_goes_from_none : (l : List (Option Station)) → AllStations (λ s. ⊥) l → goes room h l ≡ None
  none_goes_from_none l p =
      cond_both (blocked room h l) None (oldest_ready room h l) (λ o. o ≡ None) (λ _. refl) (λ _. none_ready_from_none l p)
