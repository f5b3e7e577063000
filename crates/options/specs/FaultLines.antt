-- The line that names each fault of an argument list.
-- Of the library: `codes` is a text's bytes.
-- Assumes nothing.
use Rattle.std.specs.Prelude.{ℕ, List, codes}
use Rattle.console.specs.FaultLines.{number_fault_line}
use Rattle.options.specs.declared.arguments.OptionFault.{OptionFault}
use Rattle.options.specs.declared.arguments.OptionFault.TheVariants.{Unknown, NoValue, BadNumber, NoMemory}

abbrev pub option_fault_line : OptionFault → List ℕ
option_fault_line Unknown = codes "unknown argument"
option_fault_line NoValue = codes "a number is missing after it"
option_fault_line (BadNumber e) = number_fault_line e
option_fault_line NoMemory = codes "no memory for the options"
