-- The reservation stations: instructions that wait for operands or for room in a unit.
-- Assumes nothing.
use Rattle.std.specs.Prelude.{ℕ, ◌+◌, ◌-◌, ◌%◌, Bool, true, false, cond, not, ◌&&◌, ◌||◌, List, [], ◌∷◌, map, replicate, Some, None, Option, ◌==◌, nat_le}
use Rattle.isa.specs.declared.operation.Class.{Class}
use Rattle.units.specs.declared.job.Job.{Job}
use Rattle.tables.specs.declared.station.Operand.{Operand}
use Rattle.tables.specs.declared.station.Operand.TheVariants.{Value, Awaits}
use Rattle.tables.specs.declared.station.Station.{Station}
use Rattle.tables.specs.declared.stations.Stations.{Stations}

abbrev pub no_stations : Stations
no_stations = record { places = replicate 8 None }

-- a free place ---------------------------------------------------------------

abbrev pub any_free : List (Option Station) → Bool
any_free [] = false
any_free (None ∷ l) = true
any_free (Some s ∷ l) = any_free l

-- a station takes the first free place
abbrev pub placed : Station → List (Option Station) → List (Option Station)
placed s [] = []
placed s (None ∷ l) = Some s ∷ l
placed s (Some x ∷ l) = Some x ∷ placed s l

-- operands -------------------------------------------------------------------

-- an operand that awaits the tag gets the value
abbrev pub filled : ℕ → ℕ → Operand → Operand
filled t v (Value x) = Value x
filled t v (Awaits s) = cond (s == t) (Value v) (Awaits s)

abbrev pub woken : ℕ → ℕ → Station → Station
woken t v s =
    record { tag = s.tag; class = s.class; word = s.word; pc = s.pc; a = filled t v s.a; b = filled t v s.b }

abbrev pub woken_place : ℕ → ℕ → Option Station → Option Station
woken_place t v None = None
woken_place t v (Some s) = Some (woken t v s)

-- who goes to a unit ---------------------------------------------------------

abbrev pub job_with : Operand → Operand → Station → Option Job
job_with (Value a) (Value b) s = Some (record { tag = s.tag; word = s.word; pc = s.pc; a = a; b = b })
job_with (Value a) (Awaits t) s = None
job_with (Awaits t) b s = None

-- the job of a station that has both operands
abbrev pub job_of : Station → Option Job
job_of s = job_with s.a s.b s

-- the job that may go from a place: both operands are there, and the units have room for its class
abbrev pub candidate : (Class → Bool) → Option Station → Option Job
candidate room None = None
candidate room (Some s) = cond (room s.class) (job_of s) None

-- how many entries are older than the one in slot t, when the oldest is in slot h
abbrev pub age : ℕ → ℕ → ℕ
age h t = (t + 16 - h) % 16

abbrev pub older : ℕ → Option Job → Option Job → Option Job
older h None y = y
older h (Some x) None = Some x
older h (Some x) (Some y) = cond (nat_le (age h x.tag) (age h y.tag)) (Some x) (Some y)

abbrev pub oldest_ready : (Class → Bool) → ℕ → List (Option Station) → Option Job
oldest_ready room h [] = None
oldest_ready room h (p ∷ l) = older h (candidate room p) (oldest_ready room h l)

-- a station of the entry in slot h waits for room
abbrev pub blocked_in : (Class → Bool) → ℕ → Option Station → Bool
blocked_in room h None = false
blocked_in room h (Some s) = s.tag == h && not (room s.class)

abbrev pub blocked : (Class → Bool) → ℕ → List (Option Station) → Bool
blocked room h [] = false
blocked room h (p ∷ l) = blocked_in room h p || blocked room h l

-- the oldest job that may go; none while that of the oldest entry, in slot h, waits for room
abbrev pub goes : (Class → Bool) → ℕ → List (Option Station) → Option Job
goes room h l = cond (blocked room h l) None (oldest_ready room h l)

-- the station of the entry in slot t is free again
abbrev pub freed_place : ℕ → Option Station → Option Station
freed_place t None = None
freed_place t (Some s) = cond (s.tag == t) None (Some s)

-- of all eight ---------------------------------------------------------------

abbrev pub all_placed : Station → Stations → Stations
all_placed s x = record { places = placed s x.places }

abbrev pub all_woken : ℕ → ℕ → Stations → Stations
all_woken t v x = record { places = map (woken_place t v) x.places }

abbrev pub all_freed : ℕ → Stations → Stations
all_freed t x = record { places = map (freed_place t) x.places }
