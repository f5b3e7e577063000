use Rattle.std.proofs.Common.{◌≡◌, ◌+◌, ◌⊎◌, Err, rules, length, string_bytes, ap, ◌∙◌, inl, inr, ⊎_elim, arith}
use Rattle.options.specs.Settings.{settings_of, taken, ended}
use Rattle.std.proofs.lemmas.Result.{err_from_is_err_and, MatchResult-at_ok, MatchResult-at_err}
use Rattle.options.specs.declared.arguments.OptionFault.{OptionFault}
use Rattle.options.specs.declared.arguments.OptionFault.TheVariants.{NoMemory}
use Rattle.options.proofs.MapErr.{mapped_ok, mapped_err}
use Rattle.options.proofs.TextByText.{text_taken, text_refused, texts_ended}
use Rattle.options.proofs.arguments.parse_options.Goals as goal

pub returns-in_err-waiting : goal.returns-in_err-waiting
returns-in_err-waiting c =
    let p = err_from_is_err_and c.from_residual.result c.from_residual.ensures.1 in
    let m : (e : OptionFault) × (c.take.result ≡ Err e) × (c.in_err-waiting.field-0.0 ≡ record { place = c.loop-i.i + 1; fault = e }) = mapped_err _ c.map_err.result c.take.result c.in_err-waiting.field-0.0 c.map_err.ensures.cases c.in_err-waiting.was (λ e. record { place = c.loop-i.i + 1; fault = e }) (λ e b k. search rules) in
    rw (p.1, p.2, m.2)
    (⊎_elim inl
    (λ e. inr (text_refused string_bytes c.args.texts.now c.loop-i.i (settings_of c.loop-i.options) c.loop-i.waiting c.loop-i.invariant c.index-texts-i.result c.as_str.result.now c.loop-i-test.true c.index-texts-i.is c.as_str.ensures.value m.0 e))
    (MatchResult-at_err _ (λ d. (d ≡ NoMemory) ⊎ (taken c.loop-i.waiting c.as_str.result.now (settings_of c.loop-i.options) ≡ Err d)) m.0 m.1 c.take.ensures))

pub loop-i-preserved : goal.loop-i-preserved
loop-i-preserved c =
    let m = mapped_ok _ c.map_err.result c.take.result c.in_ok-waiting.waiting c.map_err.ensures.cases c.in_ok-waiting.was in
    text_taken string_bytes c.args.texts.now c.loop-i.i (settings_of c.loop-i.options) c.loop-i.waiting c.loop-i.invariant c.index-texts-i.result c.as_str.result.now c.loop-i-test.true c.index-texts-i.is c.as_str.ensures.value (settings_of c.take.new.self) c.in_ok-waiting.waiting
    (MatchResult-at_ok _ _ c.in_ok-waiting.waiting m c.take.ensures)

pub returns-in-None : goal.returns-in-None
returns-in-None c =
    texts_ended string_bytes c.args.texts.now c.loop-i.i (settings_of c.loop-i.options) c.loop-i.waiting c.loop-i.invariant c.loop-i-test.false
    ∙ ap (λ a. ended c.loop-i.i a (settings_of c.loop-i.options)) c.in-None.is

pub returns-in-Some : goal.returns-in-Some
returns-in-Some c =
    let all : length c.args.texts.now ≡ c.loop-i.i = omega (arith, c.loop-i-test.false, c.loop-i.auto.i-end) in
    inr
    (rw all
    (texts_ended string_bytes c.args.texts.now c.loop-i.i (settings_of c.loop-i.options) c.loop-i.waiting c.loop-i.invariant c.loop-i-test.false
    ∙ ap (λ a. ended c.loop-i.i a (settings_of c.loop-i.options)) c.in-Some.is))
