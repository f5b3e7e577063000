-- One step more of the same division.
use Rattle.std.proofs.Common.{◌+◌, ◌<◌, ap, ◌∙◌, arith}
use Rattle.divider.specs.declared.state.State.TheVariants.{Working}
use Rattle.divider.proofs.Known.{known, goes_on}
use Rattle.divider.proofs.working.Working.next.Goals as goal

pub returns-then-self-lt-STEPS : goal.returns-then-self-lt-STEPS
returns-then-self-lt-STEPS c =
    let w = c.args.self in
    let h : w.steps + 1 < 32 = omega arith in
    ap Working (known _ h) ∙ goes_on w h
