-- How the interrupt line stands, by the newest of the events that have come.
-- Assumes nothing.
use Rattle.std.proofs.Common.{◌≡◌, ℕ, false, cond, leb, List, [], ◌∷◌, refl, arith}
use Rattle.std.specs.List.{fold, filter}
use Rattle.std.proofs.lemmas.Bool.Decides.{nat_tests}
use Rattle.options.specs.declared.schedule.LineEvent.{LineEvent}
use Rattle.options.specs.Schedule.{stands_after, line_stands}

abbrev newer : LineEvent → LineEvent → LineEvent
newer n e = cond (leb n.after e.after) e n

-- the newest of events that have all come
abbrev pub newest_of : List LineEvent → LineEvent
newest_of es = fold newer (record { after = 0; up = false }) es

abbrev pub came : ℕ → List LineEvent → List LineEvent
came k es = filter (λ e. leb e.after k) es

stands_by : (k : ℕ) (n : LineEvent) (es : List LineEvent) → (fold newer n (came k es)).up ≡ stands_after k n.after n.up es
stands_by k n [] = refl
stands_by k n (e ∷ es) =
    let on = stands_by k e es in
    let off = stands_by k n es in
    grind (arith, nat_tests)

pub stands_by_newest : (k : ℕ) (es : List LineEvent) → (newest_of (came k es)).up ≡ line_stands es k
stands_by_newest k es = stands_by k (record { after = 0; up = false }) es
