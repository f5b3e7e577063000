-- The piles of supplied units, as they are made: nothing is held, and the turn is at the left in each join.
-- Assumes nothing.
use Rattle.std.specs.Prelude.{◌≡◌, []}
use Rattle.pipelines.specs.Supplied.{Plain, Multiplier}
use Rattle.pipelines.specs.Queues.{jobs_of}
use Rattle.divider.specs.declared.Divider.{Divider}
use Rattle.divider.specs.States.{idle}
use Rattle.join.specs.declared.Join.{Join}
use Rattle.join.specs.Joined.{joined}

-- (plain, multiplier), divider
pub record AllUnits (pile : Join (Join Plain Multiplier) Divider) : Type 0 where
  pub plain : Plain
  pub multiplier : Multiplier
  pub no_jobs : jobs_of plain.queue ≡ []
  pub no_products : jobs_of multiplier.queue ≡ []
  pub joins : pile ≡ joined (joined plain multiplier) idle

-- (plain, plain), (multiplier, divider)
pub record DeepUnits (pile : Join (Join Plain Plain) (Join Multiplier Divider)) : Type 0 where
  pub first : Plain
  pub second : Plain
  pub multiplier : Multiplier
  pub no_jobs : jobs_of first.queue ≡ []
  pub no_more_jobs : jobs_of second.queue ≡ []
  pub no_products : jobs_of multiplier.queue ≡ []
  pub joins : pile ≡ joined (joined first second) (joined multiplier idle)
