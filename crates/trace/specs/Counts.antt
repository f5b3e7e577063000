-- How many instructions retired in each way. A count stays at the largest number of 64 bits.
-- Assumes nothing.
use Rattle.std.specs.Prelude.{ℕ, ◌+◌, ◌-◌, ◌^◌, min}
use Rattle.machine.specs.declared.record.Retirement.{Retirement}
use Rattle.machine.specs.declared.record.Retirement.TheVariants.{Plain, Trapped, Interrupted}
use Rattle.trace.specs.declared.counts.Counts.{Counts}

abbrev pub no_counts : Counts
no_counts = record { plain = 0; trapped = 0; interrupted = 0 }

abbrev pub one_more : ℕ → ℕ
one_more n = min (n + 1) (2 ^ 64 - 1)

abbrev pub counted : Retirement → Counts → Counts
counted Plain c = record { plain = one_more c.plain; trapped = c.trapped; interrupted = c.interrupted }
counted Trapped c = record { plain = c.plain; trapped = one_more c.trapped; interrupted = c.interrupted }
counted Interrupted c = record { plain = c.plain; trapped = c.trapped; interrupted = one_more c.interrupted }
