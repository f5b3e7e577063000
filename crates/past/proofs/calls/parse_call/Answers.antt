use Rattle.std.proofs.Common.{◌≡◌, Ok, Err, Option, Some, Result, MatchResult, sym, ap, ◌∙◌, rules}
use Rattle.past.specs.declared.calls.Call.{Call}
use Rattle.past.specs.declared.calls.CallFault.{CallFault}
use Rattle.past.specs.Calls.{some_call, text_call}
use Rattle.past.proofs.Fields.{said}
use Rattle.past.proofs.calls.parse_call.Goals as goal

mapped : (r : Result Call CallFault) (m : Result (Option Call) CallFault) → MatchResult r (λ x. m ≡ Ok (Some x)) (λ e. m ≡ Err e) → m ≡ some_call r
mapped (Ok x) m h = h
mapped (Err e) m h = h

pub returns : goal.returns
returns c =
    let a : c.map.result ≡ some_call c.call_named.result = mapped c.call_named.result c.map.result (search rules) in
    a
    ∙ said _ _ _ _ (sym c.is_empty.ensures ∙ c.if-is_empty.false) c.split_field.ensures.first c.split_field.ensures.rest c.call_named.ensures
    ∙ ap text_call c.line_text-text.ensures
