use Rattle.std.proofs.Common.{◌≡◌, not, is_some, sym, ap, ◌∙◌, rules, tests}
use Rattle.std.specs.List.{position}
use Rattle.std.proofs.lemmas.Iterator.{YieldsList-from_slice}
use Rattle.std.proofs.lemmas.Iterator.Search.{position_from_yields_List}
use Rattle.tables.proofs.Places.{placed_at, placed_nowhere}
use Rattle.tables.proofs.stations.Stations.place.Goals as goal

pub returns-in-Some : goal.returns-in-Some
returns-in-Some c =
    let xs = c.args.self.now.places in
    let e : c.position.result ≡ position (λ p. not (is_some p)) xs =
    position_from_yields_List (λ p. not (is_some p)) _ _ _ c.position.ensures.ran (YieldsList-from_slice xs cc) (λ x b q k. search (rules, tests)) in
    let d = placed_at c.args.station xs c.in-Some.free (sym e ∙ c.in-Some.is) in
    cc

pub returns-in_default : goal.returns-in_default
returns-in_default c =
    let xs = c.args.self.now.places in
    let e : c.position.result ≡ position (λ p. not (is_some p)) xs =
    position_from_yields_List (λ p. not (is_some p)) _ _ _ c.position.ensures.ran (YieldsList-from_slice xs cc) (λ x b q k. search (rules, tests)) in
    let d = placed_nowhere c.args.station xs (sym e ∙ c.in_default.is) in
    ap (λ ps. record { places = ps }) (sym d)
