-- The line that names each fault.
-- Of the library: `codes` is a text's bytes, `encode` a character's, and `decimal` a number's digits.
-- Assumes nothing.
use Rattle.std.specs.Prelude.{ℕ, cond, List, ◌++◌, codes, decimal}
use Rattle.std.proofs.Math.Utf8.{encode}
use Rattle.std.specs.Char.{is_ascii_graphic}
use Rattle.console.specs.declared.lines.WordFault.{WordFault}
use Rattle.console.specs.declared.lines.WordFault.TheVariants.{NotHex, TooWide, NoDigits}
use Rattle.console.specs.declared.numbers.NumberFault.{NumberFault}
use Rattle.console.specs.declared.numbers.NumberFault.TheVariants.{NotANumber, TooLarge}
use Rattle.console.specs.declared.program.ProgramFault.{ProgramFault}
use Rattle.console.specs.declared.program.ProgramFault.TheVariants.{BadLine, NoMemory}

-- a byte that std calls graphic is shown as its character
abbrev pub word_fault_line : WordFault → List ℕ
word_fault_line (NotHex b) =
    cond (is_ascii_graphic b)
    (codes "`" ++ (encode b ++ codes "` is no hex digit"))
    (codes "byte " ++ (decimal b ++ codes " is no hex digit"))
word_fault_line TooWide = codes "more than eight hex digits"
word_fault_line NoDigits = codes "no digits after 0x"

abbrev pub program_fault_line : ProgramFault → List ℕ
program_fault_line (BadLine n e) = codes "line " ++ (decimal n ++ (codes ": " ++ word_fault_line e))
program_fault_line NoMemory = codes "no memory for the program"

abbrev pub number_fault_line : NumberFault → List ℕ
number_fault_line NotANumber = codes "not a number"
number_fault_line TooLarge = codes "too large a number"
