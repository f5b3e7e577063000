use Rattle.std.proofs.Common.{not, is_some, ◌∙◌, rules, tests}
use Rattle.std.proofs.lemmas.Iterator.{YieldsList-from_slice}
use Rattle.std.proofs.lemmas.Iterator.Search.{any_from_yields_List}
use Rattle.tables.proofs.Places.{any_free_listed}
use Rattle.tables.proofs.stations.Stations.has_free.Goals as goal

pub returns : goal.returns
returns c =
    let xs = c.args.self.now.places in
    any_from_yields_List (λ p. not (is_some p)) _ _ _ c.any.ensures.ran (YieldsList-from_slice xs cc) (λ x b q k. search (rules, tests))
    ∙ any_free_listed xs
