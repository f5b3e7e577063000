-- A division goes on.
use Rattle.std.proofs.Common.{sym, ap, ◌∙◌, subst}
use Rattle.units.specs.Meaning.{Stepped}
use Rattle.divider.specs.declared.state.State.{State}
use Rattle.divider.specs.States.{stepped}
use Rattle.divider.specs.Model.{model, Sound}
use Rattle.divider.specs.Meets.{step_meets}
use Rattle.divider.proofs.DividerUnit.step.Goals as goal

pub returns-in-Working-default-clause-stepped : goal.returns-in-Working-default-clause-stepped
returns-in-Working-default-clause-stepped c =
    let u = c.args.self.now in
    let a = c.args.accepted in
    let next = c.next-self.ensures ∙ sym (ap (stepped a) c.in-Working-default.is-0) in λ sound.
    subst (λ (s : State). Stepped model u a (record { state = s }) × Sound (record { state = s })) (sym next) (step_meets a u sound)
