-- A line of a past: a call by its name, with two numbers after `run`. Before the first call, a word.
-- Assumes nothing.
use Rattle.std.specs.Prelude.{ℕ, Bool, cond, ◌||◌, List, [], ◌∷◌, drop, Some, None, Ok, Err, codes, Option, Result, ◌==◌}
use Rattle.std.specs.List.{before_first, position_or_len}
use Rattle.std.specs.Option.{option_map}
use Rattle.std.specs.Str.{bytes_eq}
use Rattle.console.specs.declared.lines.WordFault.{WordFault}
use Rattle.console.specs.declared.numbers.NumberFault.{NumberFault}
use Rattle.console.specs.Lines.{line_text, line_word}
use Rattle.console.specs.Numbers.{number_of}
use Rattle.past.specs.declared.calls.Call.{Call}
use Rattle.past.specs.declared.calls.Call.TheVariants.{Issue, Dispatch, Complete, Retire, Cycle, Run, Raise, Drop}
use Rattle.past.specs.declared.calls.CallFault.{CallFault}
use Rattle.past.specs.declared.calls.CallFault.TheVariants.{Unknown, NoNumber, BadNumber, Excess}
use Rattle.past.specs.declared.calls.Line.{Line}
use Rattle.past.specs.declared.calls.Line.TheVariants.{Word, Call as ACall}
use Rattle.past.specs.declared.calls.LineFault.{LineFault}
use Rattle.past.specs.declared.calls.LineFault.TheVariants.{BadWord, BadCall}

-- space, tab
abbrev pub gap : ℕ → Bool
gap c = c == 32 || c == 9

-- what stands before the first gap
abbrev pub first_field : List ℕ → List ℕ
first_field bs = before_first gap bs

-- the first gap, and what follows it
abbrev pub from_gap : List ℕ → List ℕ
from_gap bs = drop (position_or_len gap bs) bs

abbrev pub after_field : List ℕ → List ℕ
after_field bs = line_text (from_gap bs)

-- a call that takes nothing more
abbrev pub alone : Call → List ℕ → Result Call CallFault
alone call [] = Ok call
alone call (c ∷ cs) = Err Excess

abbrev pub call_number : Result ℕ NumberFault → Result ℕ CallFault
call_number (Ok n) = Ok n
call_number (Err e) = Err (BadNumber e)

abbrev pub number_field : List ℕ → Result ℕ CallFault
number_field [] = Err NoNumber
number_field (c ∷ cs) = call_number (number_of (c ∷ cs))

abbrev pub run_of : Result ℕ CallFault → Result ℕ CallFault → List ℕ → Result Call CallFault
run_of (Err e) b rest = Err e
run_of (Ok n) (Err e) rest = Err e
run_of (Ok n) (Ok b) rest = alone (Run n b) rest

-- retirements wanted, and a budget of cycles
abbrev pub run_call : List ℕ → Result Call CallFault
run_call bs = run_of (number_field (first_field bs)) (number_field (first_field (after_field bs))) (after_field (after_field bs))

abbrev pub call_named : List ℕ → List ℕ → Result Call CallFault
call_named name rest =
    cond (bytes_eq name (codes "issue")) (alone Issue rest)
    (cond (bytes_eq name (codes "dispatch")) (alone Dispatch rest)
    (cond (bytes_eq name (codes "complete")) (alone Complete rest)
    (cond (bytes_eq name (codes "retire")) (alone Retire rest)
    (cond (bytes_eq name (codes "cycle")) (alone Cycle rest)
    (cond (bytes_eq name (codes "run")) (run_call rest)
    (cond (bytes_eq name (codes "raise")) (alone Raise rest)
    (cond (bytes_eq name (codes "drop")) (alone Drop rest)
    (Err Unknown))))))))

abbrev pub some_call : Result Call CallFault → Result (Option Call) CallFault
some_call (Ok call) = Ok (Some call)
some_call (Err e) = Err e

abbrev pub text_call : List ℕ → Result (Option Call) CallFault
text_call [] = Ok None
text_call (c ∷ cs) = some_call (call_named (first_field (c ∷ cs)) (after_field (c ∷ cs)))

-- a call, or nothing
abbrev pub line_call : List ℕ → Result (Option Call) CallFault
line_call bs = text_call (line_text bs)

abbrev pub word_line : Result (Option ℕ) WordFault → Result (Option Line) LineFault
word_line (Ok word) = Ok (option_map Word word)
word_line (Err e) = Err (BadWord e)

abbrev pub call_or_word : Result (Option Call) CallFault → Result (Option Line) LineFault → Result (Option Line) LineFault
call_or_word (Ok call) w = Ok (option_map ACall call)
call_or_word (Err Unknown) w = w
call_or_word (Err NoNumber) w = Err (BadCall NoNumber)
call_or_word (Err (BadNumber e)) w = Err (BadCall (BadNumber e))
call_or_word (Err Excess) w = Err (BadCall Excess)

-- a line that names no call has a word on it, until the first call; None for a line with nothing on it
abbrev pub first_line : List ℕ → Result (Option Line) LineFault
first_line bs = call_or_word (line_call bs) (word_line (line_word bs))
