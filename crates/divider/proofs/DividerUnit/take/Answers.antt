-- What is admitted starts.
use Rattle.std.proofs.Common.{◌≡◌, Some, sym, ap, ◌∙◌}
use Rattle.divider.specs.declared.Divider.{Divider}
use Rattle.divider.specs.declared.working.Working.{Working as Work}
use Rattle.divider.specs.declared.state.State.TheVariants.{Working}
use Rattle.divider.specs.States.{admitted}
use Rattle.divider.specs.Meets.{take_state}
use Rattle.divider.proofs.DividerUnit.take.Goals as goal

pub returns-clause-state : goal.returns-clause-state
returns-clause-state c =
    let u = c.args.self.now in
    let d = c.in_ok-division.division in
    let admits : admitted u.state c.args.job.word ≡ Some d = sym c.admit.ensures ∙ c.in_ok-division.ensures.ok_part in
    ap {B = Divider} (λ (w : Work). record { state = Working w }) c.start.ensures ∙ take_state u c.args.job (Some d) admits
