use Rattle.std.proofs.Common.{rules, tests, drop, ap, ◌∙◌, arith}
use Rattle.std.proofs.lemmas.Iterator.{YieldsList-from_slice}
use Rattle.std.proofs.lemmas.Iterator.Search.{YieldsList-from_take_while}
use Rattle.std.proofs.lemmas.Iterator.Consumers.{count_from_yields_List}
use Rattle.std.proofs.lemmas.List.Folds.{length-prefix_len}
use Rattle.std.proofs.lemmas.List.{take_all, length-drop}
use Rattle.console.specs.Lines.{blank}
use Rattle.console.proofs.Texts.{trimmed_front_is}
use Rattle.console.proofs.lines.trim_front.Goals as goal

pub returns : goal.returns
returns c =
    let text = c.args.text.now in
    let blanks = count_from_yields_List c.take_while.result _ c.count-blanks.ensures.ran (YieldsList-from_take_while _ blank (YieldsList-from_slice text (cc)) c.take_while.ensures.closure c.take_while.ensures.done (λ x b q k. search (rules, tests))) ∙ length-prefix_len blank text in
    take_all _ (drop c.count-blanks.result text) (omega (arith, length-drop c.count-blanks.result text)) ∙ ap (λ n. drop n text) blanks ∙ trimmed_front_is text
