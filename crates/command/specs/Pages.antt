-- Text that was handed to a page is on it, unless the page has just been written out.
-- Assumes nothing.
use Rattle.std.specs.Prelude.{◌≡◌, ℕ, ◌⊎◌, List, [], ◌++◌, Some, Option}

abbrev pub Written : (text : Option (List ℕ)) → (before after : List ℕ) → Type 0
Written text before after = (t : List ℕ) → text ≡ Some t → (after ≡ []) ⊎ (after ≡ before ++ t)
