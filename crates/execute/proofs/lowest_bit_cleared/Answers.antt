-- All ones but the lowest bit leave that bit out: the half is below 2 ^ 31, and so is kept whole.
use Rattle.std.proofs.Common.{◌≡◌, ◌/◌, ◌%◌, ◌^◌, ◌∙◌, arith}
use lib.Bits.{bit_and}
use Rattle.std.proofs.lemmas.Nat.{and_comm, and_mask, and_mod, and_shr}
use Rattle.execute.proofs.lowest_bit_cleared.Goals as goal

pub returns : goal.returns
returns c =
    let x = c.args.x in
    let half : bit_and x 0xffff_fffe / 2 ^ 1 ≡ x / 2 ^ 1 % 2 ^ 31 = and_shr x 0xffff_fffe 1 ∙ and_mask (x / 2 ^ 1) 31 in
    let lowest : bit_and x 0xffff_fffe % 2 ^ 1 ≡ 0 = and_mod x 0xffff_fffe 1 ∙ and_comm (x % 2 ^ 1) 0 in
    omega arith
