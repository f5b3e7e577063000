-- One restoring step, at what the struct says that it holds.
use Rattle.std.proofs.Common.{◌+◌, ◌-◌, ◌*◌, ◌/◌, ◌%◌, ◌^◌, ◌<◌, ◌≤◌, arith}
use Rattle.divider.specs.declared.working.Working.{Working as Work}
use Rattle.divider.specs.RestoringLemmas.{divisor_off, divisor_left, remainder-fits, quotient_fits}
use Rattle.divider.proofs.working.Working.restore.Goals as goal

module _ (w : Work) where
  remainder_small : 2 * w.remainder + w.dividend / 2 ^ (31 - w.steps) % 2 ≤ w.dividend
  remainder_small = omega (arith, remainder-fits w.dividend w.steps w.short w.divisor)

  quotient_small : w.dividend < 2 ^ 32 → 2 * w.quotient + 1 < 2 ^ 32
  quotient_small l = omega (arith, quotient_fits w.dividend w.steps w.short w.divisor l)

pub overflow_mul-remainder : goal.overflow_mul-remainder
overflow_mul-remainder c = let f = remainder_small c.args.self in omega arith

pub overflow_add-remainder : goal.overflow_add-remainder
overflow_add-remainder c = let f = remainder_small c.args.self in omega arith

pub overflow_mul-result : goal.overflow_mul-result
overflow_mul-result c = let f = quotient_small c.args.self (omega arith) in omega arith

pub overflow_add-result : goal.overflow_add-result
overflow_add-result c = let f = quotient_small c.args.self (omega arith) in omega arith

pub overflow_mul-result-else-self-remainder : goal.overflow_mul-result-else-self-remainder
overflow_mul-result-else-self-remainder c = let f = quotient_small c.args.self (omega arith) in omega arith

pub returns-then-self-remainder : goal.returns-then-self-remainder
returns-then-self-remainder c =
    let w = c.args.self in
    let next = divisor_off w.dividend w.steps w.short w.divisor (omega arith) in
    record { quotient = omega arith; remainder = omega arith }

pub returns-else-self-remainder : goal.returns-else-self-remainder
returns-else-self-remainder c =
    let w = c.args.self in
    let next = divisor_left w.dividend w.steps w.short w.divisor (omega arith) in
    record { quotient = omega arith; remainder = omega arith }
