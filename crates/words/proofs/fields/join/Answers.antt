use Rattle.std.proofs.Common.{◌+◌, ◌*◌, ◌%◌, ◌^◌, sym, arith}
use Rattle.words.proofs.Or.{or_under}
use Rattle.words.proofs.fields.join.Goals as goal

pub returns : goal.returns
returns c =
    let p = c.fields.inside in
    let whole = c.fields.invariant in
    let a = p.funct7 * 2 ^ 25 % 2 ^ 32 in
    let b = p.rs2 * 2 ^ 20 % 2 ^ 32 in
    let d = p.rs1 * 2 ^ 15 % 2 ^ 32 in
    let e = p.funct3 * 2 ^ 12 % 2 ^ 32 in
    let f = p.rd * 2 ^ 7 % 2 ^ 32 in
    rw (
      sym c.fields.view_is,
      or_under 25 a b (omega arith) (omega arith),
      or_under 20 (a + b) d (omega arith) (omega arith),
      or_under 15 (a + b + d) e (omega arith) (omega arith),
      or_under 12 (a + b + d + e) f (omega arith) (omega arith),
      or_under 7 (a + b + d + e + f) p.opcode (omega arith) (omega arith),
    )
    (omega arith)
