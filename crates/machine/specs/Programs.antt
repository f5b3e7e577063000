-- The program: n words at the addresses 0 to 4 n - 4, in a table of 1,024 places that are 0 beyond the program.
-- Assumes nothing.
use Rattle.std.specs.Prelude.{ℕ, ◌-◌, ◌/◌, ◌%◌, cond, ◌&&◌, List, ◌++◌, length, replicate, Some, None, Option, ◌==◌, nat_lt, slice_index}
use Rattle.machine.specs.declared.program.Program.{Program}

abbrev pub no_program : Program
no_program = record { words = replicate 1024 0; len = 0 }

abbrev pub program_of : List ℕ → Program
program_of ws = record { words = ws ++ replicate (1024 - length ws) 0; len = length ws }

-- the word at an address, if the address is one of the program's
abbrev pub word_at : Program → ℕ → Option ℕ
word_at p a =
    cond (a % 4 == 0 && (nat_lt (a / 4) p.len && nat_lt (a / 4) 1024)) (Some (slice_index p.words (a / 4))) None
