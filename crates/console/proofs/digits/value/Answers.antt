use Rattle.std.proofs.Common.{◌≡◌, ◌+◌, ◌*◌, ◌^◌, ◌≤◌, get_or, sym, ap, ◌∙◌, arith}
use Rattle.std.specs.Char.{digit_value}
use Rattle.console.proofs.Texts.{value_over, value_step, value-held}
use Rattle.console.proofs.digits.value.Goals as goal

pub returns-in_err-shifted : goal.returns-in_err-shifted
returns-in_err-shifted c =
    let e : c.loop-byte.total * c.from.result ≡ c.loop-byte.total * c.args.radix = ap (λ n. c.loop-byte.total * n) c.from.ensures in
    let k : 2 ^ 64 ≤ c.loop-byte.total * c.args.radix + digit_value (get_or c.args.digits.now c.loop-byte.byte-index 0) = omega (arith, e, c.in_err-shifted.ensures) in
    c.from_residual.ensures ∙ sym (value_over c.args.radix c.loop-byte.total c.args.digits.now c.loop-byte.byte-index c.loop-byte-test.true c.loop-byte.invariant.1 k)

pub returns-in_err-total : goal.returns-in_err-total
returns-in_err-total c =
    let e : c.loop-byte.total * c.from.result ≡ c.loop-byte.total * c.args.radix = ap (λ n. c.loop-byte.total * n) c.from.ensures in
    let k : 2 ^ 64 ≤ c.loop-byte.total * c.args.radix + digit_value (get_or c.args.digits.now c.loop-byte.byte-index 0) = omega (arith, e, c.in_ok-shifted.ensures, c.digit_value.ensures, c.from-in-loop-byte.ensures, c.in_err-total.ensures) in
    c.from_residual-in_err-total.ensures ∙ sym (value_over c.args.radix c.loop-byte.total c.args.digits.now c.loop-byte.byte-index c.loop-byte-test.true c.loop-byte.invariant.1 k)

pub loop-byte-preserved : goal.loop-byte-preserved
loop-byte-preserved c =
    let s = value_step c.args.radix c.loop-byte.total c.args.digits.now c.loop-byte.byte-index c.loop-byte-test.true in
    let a = c.in_ok-shifted.ensures in
    let b = c.in_ok-total.ensures in
    let i = c.loop-byte.invariant.1 in
    (omega (arith, c.in_ok-total.ensures), cc)

pub returns : goal.returns
returns c =
    value-held c.args.radix c.loop-byte.total c.args.digits.now c.loop-byte.byte-index c.loop-byte-test.false c.loop-byte.invariant.1 c.loop-byte.invariant.0
