-- The line that names each fault.
-- Of the library: `codes` is a text's bytes.
-- Assumes nothing.
use Rattle.std.specs.Prelude.{ℕ, List, codes}
use Rattle.console.specs.FaultLines.{number_fault_line, word_fault_line}
use Rattle.past.specs.declared.calls.CallFault.{CallFault}
use Rattle.past.specs.declared.calls.CallFault.TheVariants.{Unknown, NoNumber, BadNumber, Excess}
use Rattle.past.specs.declared.calls.LineFault.{LineFault}
use Rattle.past.specs.declared.calls.LineFault.TheVariants.{BadWord, BadCall}

abbrev pub call_fault_line : CallFault → List ℕ
call_fault_line Unknown = codes "no such call"
call_fault_line NoNumber = codes "a number is missing"
call_fault_line (BadNumber e) = number_fault_line e
call_fault_line Excess = codes "more than the call takes"

abbrev pub line_fault_line : LineFault → List ℕ
line_fault_line (BadWord e) = word_fault_line e
line_fault_line (BadCall e) = call_fault_line e
