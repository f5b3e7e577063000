-- The line of a refused argument: its place, its text where there is one, and the fault.
-- Of the library: `decimal` is a number's digits.
-- Assumes nothing.
use Rattle.std.specs.Prelude.{ℕ, List, ◌++◌, Some, None, codes, decimal, Option}

abbrev pub quoted : Option (List ℕ) → List ℕ
quoted (Some text) = codes ", `" ++ (text ++ codes "`")
quoted None = codes ""

-- places count from 1
abbrev pub argument_line : ℕ → Option (List ℕ) → List ℕ → List ℕ
argument_line place text fault = codes "argument " ++ (decimal place ++ (quoted text ++ (codes ": " ++ fault)))
