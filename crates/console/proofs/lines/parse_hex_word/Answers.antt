use Rattle.std.proofs.Common.{arith}
use Rattle.std.proofs.lemmas.Result.{err_from_is_err_and}
use Rattle.console.proofs.Texts.{word_refused, word_read}
use Rattle.console.proofs.lines.parse_hex_word.Goals as goal

pub returns-in_err-word : goal.returns-in_err-word
returns-in_err-word c =
    let p = err_from_is_err_and c.from_residual.result c.from_residual.ensures.1 in
    rw (p.1, p.2) (word_refused c.args.text.now c.in_err-word.field-0.0 c.in_err-word.ensures)

pub overflow_cast-result : goal.overflow_cast-result
overflow_cast-result c = omega (arith, (word_read c.args.text.now c.in_ok-word.word (omega arith) c.in_ok-word.ensures).0)

pub returns : goal.returns
returns c = (word_read c.args.text.now c.in_ok-word.word (omega arith) c.in_ok-word.ensures).1
