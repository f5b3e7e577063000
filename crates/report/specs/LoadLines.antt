-- The line of a refused load: the option or the count at fault, and the refusal's line.
-- Of the library: `decimal` is a number's digits.
-- Assumes nothing.
use Rattle.std.specs.Prelude.{ℕ, ◌%◌, cond, List, ◌++◌, codes, decimal, ◌==◌}
use Rattle.refusal.specs.declared.LoadFault.{LoadFault}
use Rattle.refusal.specs.declared.LoadFault.TheVariants.{Overlong, Skew}
use Rattle.refusal.specs.Lines.{load_fault_line}
use Rattle.report.specs.declared.loads.RefusedLoad.{RefusedLoad}

-- pc is looked at before the vector
abbrev pub fault_line : LoadFault → ℕ → ℕ → ℕ → List ℕ
fault_line Overlong words pc vector = decimal words ++ (codes " words: " ++ load_fault_line Overlong)
fault_line Skew words pc vector =
    cond (pc % 4 == 0)
    (codes "--vector " ++ (decimal vector ++ (codes ": " ++ load_fault_line Skew)))
    (codes "--pc " ++ (decimal pc ++ (codes ": " ++ load_fault_line Skew)))

abbrev pub refused_load_line : RefusedLoad → List ℕ
refused_load_line l = fault_line l.fault l.words l.pc l.vector
