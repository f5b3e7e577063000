use Rattle.std.proofs.Common.{◌≡◌, ℕ, Bor, ◌+◌, List, [], ◌∷◌, ◌++◌, length, vec_items, sym, ap, ◌∙◌, inl, inr, ⊎_elim, arith, rules, tests, eqb, length-append}
use Rattle.std.specs.List.{enumerate_from}
use Rattle.std.proofs.lemmas.Result.{err_from_is_err_and}
use Rattle.std.proofs.lemmas.Iterator.{YieldsList}
use Rattle.std.proofs.lemmas.Iterator.Consumers.{YieldsList-from_enumerate, YieldsList-turn, YieldsList-end, YieldsList-at}
use Rattle.std.proofs.lemmas.Iterator.Splits.{YieldsList-from_slice_split}
use Rattle.std.proofs.lemmas.List.FromFn.{length-enumerate_from}
use Rattle.console.specs.Lines.{line_word}
use Rattle.console.specs.ProgramText.{words_of_line}
use Rattle.console.proofs.TextLines.{parts, parts_begun, line_at, line_taken, line_refused, all_taken}
use Rattle.console.proofs.program.parse_program.Given as given
use Rattle.console.proofs.program.parse_program.Goals as goal

pub loop-i-init : goal.loop-i-init
loop-i-init c = rw c.new-words.ensures.items (parts_begun c.args.text.now)

pub loop-i-preserved : goal.loop-i-preserved
loop-i-preserved c =
    let road : YieldsList (given.iterator-loop-i).next_gives (λ (p : ℕ × Bor (List ℕ)). (p.0, p.1.now)) c.into_iter-i-iterator.result (enumerate_from 0 (parts c.args.text.now)) = YieldsList-at c.into_iter-i-iterator.ensures.into_iter_gives
    (YieldsList-from_enumerate
    (YieldsList-at c.enumerate-i-items.ensures.source
    (YieldsList-from_slice_split _ (λ b. eqb b 10) c.args.text.now c.split.ensures.rest c.split.ensures.done c.split.ensures.closure (λ x b q k. search (rules, tests))))
    c.enumerate-i-items.ensures.count) in
    let turn = YieldsList-turn road c.loop-i.yielded c.loop-i.i-iterator c.loop-i.yielded_by c.next.result c.next.new.self (c.in-Some.i, c.in-Some.line) c.in-Some.is c.next.ensures.steps in
    let at = line_at (parts c.args.text.now) (length c.loop-i.yielded) c.in-Some.i c.in-Some.line.now turn.0 turn.1 in
    let t = c.in_ok-take_line.ensures in
    let more : length (c.loop-i.yielded ++ (c.in-Some.i, c.in-Some.line) ∷ []) ≡ length c.loop-i.yielded + 1 = length-append c.loop-i.yielded ((c.in-Some.i, c.in-Some.line) ∷ []) in
    rw more
    (line_taken c.args.text.now (vec_items c.loop-i.words) (length c.loop-i.yielded) c.in-Some.line.now c.loop-i.invariant at.0 at.2 t.0 (vec_items c.take_line.new.words)
    (ap (λ n. words_of_line (n + 1) (line_word c.in-Some.line.now)) (sym at.1) ∙ t.1) t.2)

pub returns-in_err-take_line : goal.returns-in_err-take_line
returns-in_err-take_line c =
    let road : YieldsList (given.iterator-loop-i).next_gives (λ (p : ℕ × Bor (List ℕ)). (p.0, p.1.now)) c.into_iter-i-iterator.result (enumerate_from 0 (parts c.args.text.now)) = YieldsList-at c.into_iter-i-iterator.ensures.into_iter_gives
    (YieldsList-from_enumerate
    (YieldsList-at c.enumerate-i-items.ensures.source
    (YieldsList-from_slice_split _ (λ b. eqb b 10) c.args.text.now c.split.ensures.rest c.split.ensures.done c.split.ensures.closure (λ x b q k. search (rules, tests))))
    c.enumerate-i-items.ensures.count) in
    let turn = YieldsList-turn road c.loop-i.yielded c.loop-i.i-iterator c.loop-i.yielded_by c.next.result c.next.new.self (c.in-Some.i, c.in-Some.line) c.in-Some.is c.next.ensures.steps in
    let at = line_at (parts c.args.text.now) (length c.loop-i.yielded) c.in-Some.i c.in-Some.line.now turn.0 turn.1 in
    let p = err_from_is_err_and c.from_residual.result c.from_residual.ensures.1 in
    rw (p.1, p.2)
    (⊎_elim inl
    (λ e. inr (line_refused c.args.text.now (vec_items c.loop-i.words) (length c.loop-i.yielded) c.in-Some.line.now c.loop-i.invariant at.0 at.2 c.in_err-take_line.field-0.0 (ap (λ n. words_of_line (n + 1) (line_word c.in-Some.line.now)) (sym at.1) ∙ e)))
    c.in_err-take_line.ensures)

pub returns : goal.returns
returns c =
    let road : YieldsList (given.iterator-loop-i).next_gives (λ (p : ℕ × Bor (List ℕ)). (p.0, p.1.now)) c.into_iter-i-iterator.result (enumerate_from 0 (parts c.args.text.now)) = YieldsList-at c.into_iter-i-iterator.ensures.into_iter_gives
    (YieldsList-from_enumerate
    (YieldsList-at c.enumerate-i-items.ensures.source
    (YieldsList-from_slice_split _ (λ b. eqb b 10) c.args.text.now c.split.ensures.rest c.split.ensures.done c.split.ensures.closure (λ x b q k. search (rules, tests))))
    c.enumerate-i-items.ensures.count) in
    let end = YieldsList-end road c.loop-i.yielded c.loop-i.i-iterator c.loop-i.yielded_by c.next.result c.next.new.self c.in-None.is c.next.ensures.steps in
    all_taken c.args.text.now (vec_items c.loop-i.words) (length c.loop-i.yielded) [] c.loop-i.invariant (omega (arith, end.1, length-enumerate_from 0 (parts c.args.text.now)))
