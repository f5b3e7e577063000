-- A record as a line: pc, word, outcome, destination, value and next, with single spaces between them.
-- Of the library: `decimal` is a number's digits.
-- Assumes nothing.
use Rattle.std.specs.Prelude.{ℕ, List, ◌++◌, codes, decimal}
use Rattle.machine.specs.declared.record.Record.{Record}
use Rattle.machine.specs.Records.{retirement_number}
use Rattle.report.specs.Hex.{hex8}

abbrev pub record_line : Record → List ℕ
record_line r =
    hex8 r.pc
    ++ (codes " " ++ (hex8 r.word
    ++ (codes " " ++ (decimal (retirement_number r.outcome)
    ++ (codes " " ++ (decimal r.destination
    ++ (codes " " ++ (hex8 r.value
    ++ (codes " " ++ hex8 r.next)))))))))
