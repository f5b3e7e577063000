-- How a program stops: what it says, and its exit status.
-- Of the library: `decimal` is a number's digits.
-- Assumes nothing.
use Rattle.std.specs.Prelude.{◌≡◌, ℕ, List, Some, Ok, Err, Option, Result, string_bytes}
use Rattle.report.specs.declared.stops.Stop.{Stop}
use Rattle.report.specs.declared.stops.Stop.TheVariants.{Said, NoMemory, Failed}

-- The text is the line, where memory sufficed for it.
abbrev pub Says : Option (List ℕ) → Stop → Type 0
Says text (Said line) = (t : List ℕ) → text ≡ Some t → string_bytes line ≡ t
Says text (NoMemory error) = Unit {0}
Says text (Failed error) = ⊥

-- the number that the process ends with
abbrev pub status_of : Result (Unit {0}) Stop → ℕ
status_of (Ok done) = 0
status_of (Err stop) = 1
