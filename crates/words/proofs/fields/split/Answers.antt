use Rattle.std.proofs.Common.{◌/◌, ◌^◌}
use Rattle.std.proofs.lemmas.Nat.{and_mask}
use Rattle.words.proofs.fields.split.Goals as goal

pub returns : goal.returns
returns c =
    let w = c.args.word in
    rw (and_mask w 7, and_mask (w / 2 ^ 7) 5, and_mask (w / 2 ^ 12) 3, and_mask (w / 2 ^ 15) 5, and_mask (w / 2 ^ 20) 5)
