-- The tag of each register through each change of the tags.
-- Assumes nothing.
use Rattle.std.proofs.Common.{◌≡◌, ℕ, zero, suc, ◌<◌, cond, not, ◌&&◌, eqb, length, get_or, replicate, Some, None, refl, arith}
use Rattle.std.proofs.lemmas.List.{length-set, get_or-set_same, get_or-set_other, get_or_past}
use Rattle.std.proofs.lemmas.Bool.Decides.{nat_tests}
use Rattle.tables.specs.declared.tags.Tags.{Tags}
use Rattle.tables.specs.Tagging.{no_tags, tag_of, tagged, names, untagged}

-- in a list of equal elements, whatever is read with that element as the default is that element
get_or-of_same : {X : Type 0} (n i : ℕ) (d : X) → get_or (replicate n d) i d ≡ d
get_or-of_same zero i d = refl
get_or-of_same (suc n) zero d = refl
get_or-of_same (suc n) (suc i) d = get_or-of_same n i d

pub no_tag : (r : ℕ) → tag_of no_tags r ≡ None
no_tag r = get_or-of_same 32 r None

-- there are tags of 32 registers
pub past_tags : (x : Tags) (r : ℕ) → length x.tags ≡ 32 → (r < 32 → ⊥) → tag_of x r ≡ None
past_tags x r h past = get_or_past x.tags r None (omega arith)

pub tag_after : (d t : ℕ) (x : Tags) (r : ℕ) → length x.tags ≡ 32 → r < 32
    → tag_of (tagged d t x) r ≡ cond (not (eqb r 0) && eqb d r) (Some t) (tag_of x r)
tag_after d t x r h lt = grind (arith, nat_tests, get_or-set_same, get_or-set_other)

-- only the destination may lose its tag, and only if it is t
pub tag_left : (d t : ℕ) (x : Tags) (r : ℕ) → length x.tags ≡ 32 → r < 32
    → tag_of (untagged d t x) r ≡ cond (eqb d r && names (tag_of x r) t) None (tag_of x r)
tag_left d t x r h lt = grind (arith, nat_tests, get_or-set_same, get_or-set_other)

pub tagged-length : (d t : ℕ) (x : Tags) → length x.tags ≡ 32 → length (tagged d t x).tags ≡ 32
tagged-length d t x h = grind (arith, length-set)

pub untagged-length : (d t : ℕ) (x : Tags) → length x.tags ≡ 32 → length (untagged d t x).tags ≡ 32
untagged-length d t x h = grind (arith, length-set)
