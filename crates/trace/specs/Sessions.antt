-- One advance of a session: the engine's, under the line as the events have set it by now, and what is counted of it.
-- Assumes nothing.
use Rattle.std.specs.Prelude.{◌≡◌, ℕ, Bool, List, Some, None, Option}
use Rattle.machine.specs.declared.record.Record.{Record}
use Rattle.options.specs.declared.schedule.LineEvent.{LineEvent}
use Rattle.options.specs.Schedule.{line_stands}
use Rattle.trace.specs.declared.counts.Counts.{Counts}
use Rattle.trace.specs.declared.session.Session.{Session}
use Rattle.trace.specs.Counts.{no_counts, one_more, counted}

abbrev pub session_of : {E : Type 0} → E → Session E
session_of e = record { engine = e; counts = no_counts; retired = 0; cycles = 0 }

abbrev pub with_record : Option Record → Counts → Counts
with_record (Some r) c = counted r.outcome c
with_record None c = c

abbrev pub retired_with : Option Record → ℕ → ℕ
retired_with (Some r) n = one_more n
retired_with None n = n

pub record SessionAdvances {E : Type 0} (advances : Bool → E → Option Record → E → Type 0) (events : List LineEvent) (s : Session E) (answer : Option Record) (s' : Session E) : Type 0 where
  pub engine : advances (line_stands events s.retired) s.engine answer s'.engine
  pub counts : s'.counts ≡ with_record answer s.counts
  pub retired : s'.retired ≡ retired_with answer s.retired
  pub cycles : s'.cycles ≡ one_more s.cycles
