-- What a call answered, as a line: the call's name, and what came of it.
-- Of the library: `codes` is a text's bytes, `decimal` a number's digits.
-- Assumes nothing.
use Rattle.std.specs.Prelude.{ℕ, List, ◌++◌, Some, None, Ok, Err, codes, decimal}
use Rattle.refusal.specs.Numbers.{issue_fault_number, none_goes_number, retire_fault_number}
use Rattle.report.specs.RecordLines.{record_line}
use Rattle.past.specs.declared.answers.Answer.{Answer}
use Rattle.past.specs.declared.answers.Answer.TheVariants.{Issue, Dispatch, Complete, Retire, Cycle, Run, Raise, Drop}

abbrev pub answer_line : Answer → List ℕ
answer_line (Issue (Ok t)) = codes "issue " ++ decimal t
answer_line (Issue (Err e)) = codes "issue refused " ++ decimal (issue_fault_number e)
answer_line (Dispatch (Ok t)) = codes "dispatch " ++ decimal t
answer_line (Dispatch (Err e)) = codes "dispatch refused " ++ decimal (none_goes_number e)
answer_line (Complete (Some t)) = codes "complete " ++ decimal t
answer_line (Complete None) = codes "complete nothing"
answer_line (Retire (Ok r)) = codes "retire " ++ record_line r
answer_line (Retire (Err e)) = codes "retire refused " ++ decimal (retire_fault_number e)
answer_line (Cycle (Some r)) = codes "cycle " ++ record_line r
answer_line (Cycle None) = codes "cycle nothing"
answer_line (Run c n) = codes "run " ++ (decimal c ++ (codes " " ++ decimal n))
answer_line Raise = codes "raise"
answer_line Drop = codes "drop"
