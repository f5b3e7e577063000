-- How the interrupt line stands: it starts down, and an event sets it after some number of retirements.
-- Assumes nothing.
use Rattle.std.specs.Prelude.{ℕ, Bool, false, cond, ◌&&◌, List, [], ◌∷◌, nat_le}
use Rattle.options.specs.declared.schedule.LineEvent.{LineEvent}

-- an event that has come after k retirements, and is no older than one of after n
abbrev pub overrides : ℕ → ℕ → LineEvent → Bool
overrides k n e = nat_le e.after k && nat_le n e.after

-- the newest event that has come decides, and among equally new ones the last in the list;
-- n is when the newest one so far came, and line is what it set
abbrev pub stands_after : ℕ → ℕ → Bool → List LineEvent → Bool
stands_after k n line [] = line
stands_after k n line (e ∷ es) = cond (overrides k n e) (stands_after k e.after e.up es) (stands_after k n line es)

-- after k retirements, before the next
abbrev pub line_stands : List LineEvent → ℕ → Bool
line_stands es k = stands_after k 0 false es
