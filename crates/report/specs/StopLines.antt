-- The line of what a program stops for: its own words, whole; of what failed under it nothing is said.
-- Assumes nothing.
use Rattle.std.specs.Prelude.{ℕ, List, Some, None, Option, string_bytes}
use Rattle.report.specs.declared.stops.Stop.{Stop}
use Rattle.report.specs.declared.stops.Stop.TheVariants.{Said, NoMemory, Failed}

abbrev pub stop_line : Stop → Option (List ℕ)
stop_line (Said line) = Some (string_bytes line)
stop_line (NoMemory error) = None
stop_line (Failed error) = None
