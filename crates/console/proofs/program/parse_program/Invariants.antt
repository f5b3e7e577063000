use Rattle.std.proofs.Common.{◌≡◌, ◌+◌, length, drop, Ok, vec_items, ◌==◌}
use Rattle.std.specs.List.{slice_split}
use Rattle.console.specs.ProgramText.{and_then, words_from, program_words}
use Rattle.console.proofs.program.parse_program.Given as goal

abbrev pub invariant-loop-i : goal.invariant-loop-i
invariant-loop-i l =
    and_then (Ok (vec_items l.words)) (words_from (length l.yielded + 1) (drop (length l.yielded) (slice_split (λ b. b == 10) l.text)))
    ≡ program_words l.text
