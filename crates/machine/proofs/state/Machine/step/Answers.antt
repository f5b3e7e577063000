use Rattle.std.proofs.Common.{◌≡◌, rules}
use Rattle.machine.specs.Classes.{serves}
use Rattle.machine.specs.Step.{step}
use Rattle.machine.proofs.Laws.{step_law}
use Rattle.machine.proofs.state.Machine.step.Goals as goal

pub returns-clause-law : goal.returns-clause-law
returns-clause-law c =
    let m = c.args.self.now in
    let s = serves c.args.served in
    let after : c.apply.new.self ≡ (step s c.args.line m).0 = search rules in
    let answer : c.apply.result ≡ (step s c.args.line m).1 = search rules in
    rw (after, answer) (step_law s c.args.line m)
