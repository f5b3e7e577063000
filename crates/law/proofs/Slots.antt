-- Slots go round, and no two entries in flight share one.
-- Assumes nothing.
use Rattle.std.proofs.Common.{◌≡◌, ℕ, suc, ◌<◌, length, ap, ◌∙◌, arith}
use Rattle.std.proofs.lemmas.List.{length-set, get_or-set_same, get_or-set_other}
use Rattle.tables.specs.declared.buffer.Buffer.{Buffer}
use Rattle.tables.specs.declared.entry.Entry.{Entry}
use Rattle.tables.specs.Buffers.{blank, entry_in, slot_at, entry_at, next_slot, pushed, popped, replaced}
use Rattle.tables.specs.Waiting.{age}

pub slot_below : (q : Buffer) (i : ℕ) → slot_at q i < 16
slot_below q i = omega arith

pub slot_apart : (q : Buffer) (i j : ℕ) → i < 16 → j < 16 → slot_at q i ≡ slot_at q j → i ≡ j
slot_apart q i j hi hj e = omega arith

pub slot_of_head : (q : Buffer) → q.head < 16 → slot_at q 0 ≡ q.head
slot_of_head q h = omega arith

pub slot_popped : (q : Buffer) (i : ℕ) → slot_at (popped q) i ≡ slot_at q (suc i)
slot_popped q i = omega arith

pub age_of_slot : (q : Buffer) (i : ℕ) → q.head < 16 → i < 16 → age q.head (slot_at q i) ≡ i
age_of_slot q i h hi = omega arith

pub pushed_old : (q : Buffer) (e : Entry) (i : ℕ) → i < q.count → q.count < 16 → entry_at (pushed e q) i ≡ entry_at q i
pushed_old q e i hi hc =
    get_or-set_other q.entries (next_slot q) (slot_at q i) e blank
    (λ same. let is = slot_apart q i q.count (omega arith) hc same in omega arith)

pub pushed_new : (q : Buffer) (e : Entry) → length q.entries ≡ 16 → entry_at (pushed e q) q.count ≡ e
pushed_new q e h = get_or-set_same q.entries (next_slot q) e blank (omega arith)

pub popped_at : (q : Buffer) (i : ℕ) → entry_at (popped q) i ≡ entry_at q (suc i)
popped_at q i = ap (entry_in q) (slot_popped q i)

pub replaced_at : (q : Buffer) (e : Entry) (i : ℕ) → length q.entries ≡ 16 → entry_at (replaced (slot_at q i) e q) i ≡ e
replaced_at q e i h = get_or-set_same q.entries (slot_at q i) e blank (omega arith)

pub replaced_other : (q : Buffer) (e : Entry) (i j : ℕ) → i < 16 → j < 16 → (j ≡ i → ⊥)
    → entry_at (replaced (slot_at q i) e q) j ≡ entry_at q j
replaced_other q e i j hi hj ne =
    get_or-set_other q.entries (slot_at q i) (slot_at q j) e blank (λ same. ne (slot_apart q j i hj hi same))

pub pushed-length : (q : Buffer) (e : Entry) → length q.entries ≡ 16 → length (pushed e q).entries ≡ 16
pushed-length q e h = length-set q.entries (next_slot q) e ∙ h

pub replaced-length : (q : Buffer) (t : ℕ) (e : Entry) → length q.entries ≡ 16 → length (replaced t e q).entries ≡ 16
replaced-length q t e h = length-set q.entries t e ∙ h
