-- Each call extends every past of the core, and the law holds of what it extends to.
-- Assumes nothing.
use Rattle.std.proofs.Common.{Bool, true, false, List, [], ◌∷◌}
use Rattle.units.specs.Meaning.{UnitModel}
use Rattle.units.specs.Calls.{Keeps}
use Rattle.law.specs.declared.state.Running.{Running}
use Rattle.law.specs.declared.state.Stopped.{Stopped}
use Rattle.law.specs.Calls.{StartCall, LineCall}
use Rattle.law.specs.Pasts.{Event, raise, drop, line_set, EventCall, Sized, Past, started, called}
use Rattle.law.specs.Laws.{Law, Extends, Begins}
use Rattle.law.proofs.Law.{law_of_every_past_lem}

module _ {A : Type 0} (m : UnitModel A) (keeps : Keeps m) where
  with_law : (s : Stopped A) (es : List Event) (k : Running A) → Past m s es k → Past m s es k × Law m s es k
  with_law s es k past = (past, law_of_every_past_lem m keeps s es k past)

  pub start_begins : (s : Stopped A) (k : Running A) → Sized s.machine → StartCall m s k → Begins m s k
  start_begins s k sized call = with_law s [] k (started sized call)

  pub call-extends : (e : Event) (k k' : Running A) → EventCall m e k k' → Extends m k e k'
  call-extends e k k' call s es past = with_law s (e ∷ es) k' (called past call)

  pub line-extends : (up : Bool) (k k' : Running A) → LineCall m up k k' → Extends m k (line_set up) k'
  line-extends true k k' call = call-extends raise k k' call
  line-extends false k k' call = call-extends drop k k' call
