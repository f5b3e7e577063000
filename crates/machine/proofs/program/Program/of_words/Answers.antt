use Rattle.std.proofs.Common.{ℕ, length, refl}
use Rattle.std.proofs.lemmas.List.{drop-replicate}
use Rattle.machine.proofs.program.Program.of_words.Goals as goal

pub returns : goal.returns
returns c = rw (c.copy_to_front.ensures, drop-replicate {X = ℕ} (length c.args.words.now) 1024 0) refl
