-- What is chosen for the fields of the word is what `read_word` chooses, and what reads is written back.
use Rattle.std.proofs.Common.{◌≡◌, ◌^◌, ◌<◌, Some, Ok, sym, ap, ◌∙◌, arith}
use Rattle.words.specs.Fields.{cut}
use Rattle.words.specs.Table.{chosen}
use Rattle.words.specs.Formats.{taken}
use Rattle.words.specs.Words.{read_as, read_word}
use Rattle.words.proofs.Trips.{read_back, one_word}
use Rattle.words.proofs.read.Goals as goal

pub returns : goal.returns
returns c =
    let w = c.args.word in
    let o = c.in_ok-operation.operation in
    let e : chosen (cut w) ≡ Some o = ap chosen (sym c.split-fields.ensures) ∙ sym c.choose.ensures ∙ c.in_ok-operation.ensures.ok_part in
    let i : c.take.result ≡ taken o (cut w) = c.take.ensures ∙ ap (taken o) c.split-fields.ensures in
    let value : Ok c.take.result ≡ read_word w = ap Ok i ∙ ap (λ x. read_as x w) (sym e) in
    let h : w < 2 ^ 32 = omega arith in
    record {
      value = value;
      back = read_back w c.take.result h (sym value);
      one = one_word w c.take.result h (sym value);
    }
