-- Program text: one word a line, with blank lines and comments between them.
-- Assumes nothing.
use Rattle.std.specs.Prelude.{ℕ, ◌+◌, cond, List, [], ◌∷◌, ◌++◌, Some, None, Ok, Err, Option, Result, ◌==◌}
use Rattle.console.specs.declared.lines.WordFault.{WordFault}
use Rattle.console.specs.declared.program.ProgramFault.{ProgramFault}
use Rattle.console.specs.declared.program.ProgramFault.TheVariants.{BadLine}
use Rattle.console.specs.Lines.{line_word}

abbrev pub to_first_line : ℕ → List (List ℕ) → List (List ℕ)
to_first_line c [] = (c ∷ []) ∷ []
to_first_line c (l ∷ ls) = (c ∷ l) ∷ ls

-- the lines of a text: a newline ends each, but perhaps the last
abbrev pub lines_of : List ℕ → List (List ℕ)
lines_of [] = []
lines_of (c ∷ cs) = cond (c == 10) ([] ∷ lines_of cs) (to_first_line c (lines_of cs))

-- the words of line n: one, none, or a fault
abbrev pub words_of_line : ℕ → Result (Option ℕ) WordFault → Result (List ℕ) ProgramFault
words_of_line n (Ok (Some w)) = Ok (w ∷ [])
words_of_line n (Ok None) = Ok []
words_of_line n (Err e) = Err (BadLine n e)

-- words, and then more; the first fault is the fault of all
abbrev pub and_then : Result (List ℕ) ProgramFault → Result (List ℕ) ProgramFault → Result (List ℕ) ProgramFault
and_then (Ok ws) (Ok vs) = Ok (ws ++ vs)
and_then (Ok ws) (Err e) = Err e
and_then (Err e) r = Err e

abbrev pub words_from : ℕ → List (List ℕ) → Result (List ℕ) ProgramFault
words_from n [] = Ok []
words_from n (l ∷ ls) = and_then (words_of_line n (line_word l)) (words_from (n + 1) ls)

-- lines are counted from 1
abbrev pub program_words : List ℕ → Result (List ℕ) ProgramFault
program_words text = words_from 1 (lines_of text)
