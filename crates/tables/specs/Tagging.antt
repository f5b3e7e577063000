-- Register tags: the youngest entry in flight that will write a register.
-- Assumes nothing.
use Rattle.std.specs.Prelude.{ℕ, Bool, false, cond, replicate, Some, None, Option, ◌==◌, slice_index_or, slice_set}
use Rattle.tables.specs.declared.tags.Tags.{Tags}

abbrev pub no_tags : Tags
no_tags = record { tags = replicate 32 None }

abbrev pub tag_of : Tags → ℕ → Option ℕ
tag_of x r = slice_index_or x.tags r None

-- register 0 is never tagged
abbrev pub tagged : ℕ → ℕ → Tags → Tags
tagged r t x = cond (r == 0) x (record { tags = slice_set x.tags r (Some t) })

abbrev pub names : Option ℕ → ℕ → Bool
names None t = false
names (Some s) t = s == t

-- a register loses its tag only if the tag is t: a younger writer keeps it
abbrev pub untagged : ℕ → ℕ → Tags → Tags
untagged r t x = cond (names (tag_of x r) t) (record { tags = slice_set x.tags r None }) x
