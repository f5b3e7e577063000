-- What each call does to the core without its unit; of the unit it takes only what the unit says.
-- Assumes nothing.
use Rattle.std.specs.Prelude.{ℕ, Bool, true, false, cond, not, ◌&&◌, ◌||◌, Some, None, Ok, Err, Option, Result, ◌==◌}
use Rattle.isa.specs.declared.instruction.Instruction.{Instruction}
use Rattle.isa.specs.declared.operation.Class.{Class}
use Rattle.isa.specs.declared.operation.Class.TheVariants.{Plain, Multiply, Divide, Transfer}
use Rattle.isa.specs.declared.outcome.Outcome.{Outcome}
use Rattle.refusal.specs.declared.IssueFault.{IssueFault}
use Rattle.refusal.specs.declared.IssueFault.TheVariants.{BufferFull, NoStation}
use Rattle.execute.specs.Outcomes.{sum}
use Rattle.machine.specs.declared.classes.Classes.{Classes}
use Rattle.machine.specs.declared.decode.Decoded.{Decoded}
use Rattle.machine.specs.declared.decode.Decoded.TheVariants.{Trap as AsksTrap, Return as AsksReturn, Work}
use Rattle.machine.specs.declared.judgement.Judgement.{Judgement}
use Rattle.machine.specs.declared.judgement.Judgement.TheVariants.{Trap, Return, Write}
use Rattle.machine.specs.declared.record.Record.{Record}
use Rattle.machine.specs.declared.state.Machine.{Machine}
use Rattle.machine.specs.Classes.{serves}
use Rattle.machine.specs.Decode.{decoded}
use Rattle.machine.specs.Programs.{word_at}
use Rattle.machine.specs.States.{register_of}
use Rattle.machine.specs.Step.{word_or0, judged_outcome, applied}
use Rattle.units.specs.declared.job.Job.{Job}
use Rattle.units.specs.declared.job.Offer.{Offer}
use Rattle.tables.specs.declared.entry.Entry.{Entry}
use Rattle.tables.specs.declared.station.Operand.{Operand}
use Rattle.tables.specs.declared.station.Operand.TheVariants.{Value, Awaits}
use Rattle.tables.specs.declared.station.Station.{Station}
use Rattle.tables.specs.declared.stations.Stations.{Stations}
use Rattle.tables.specs.Buffers.{no_entries, entry_in, full, next_slot, pushed, popped, emptied, with_result, replaced}
use Rattle.tables.specs.Waiting.{no_stations, any_free, all_placed, all_woken, all_freed}
use Rattle.tables.specs.Tagging.{no_tags, tag_of, tagged, untagged}
use Rattle.law.specs.declared.state.Core.{Core}

-- start ----------------------------------------------------------------------

-- the set of classes that there is room for
abbrev pub roomy : (Class → Bool) → Classes
roomy room = record { plain = room Plain; multiply = room Multiply; divide = room Divide; transfer = room Transfer }

-- nothing is in flight, and fetch begins at pc
abbrev pub begun : Machine → Bool → (Class → Bool) → Core
begun m line room =
    record { machine = m; line = line; served = roomy room; fetch = m.pc; buffer = no_entries; stations = no_stations; tags = no_tags }

-- issue ----------------------------------------------------------------------

-- what the result of an entry brings to those that wait for it; a cause brings 0
abbrev pub brings : Judgement → ℕ
brings (Trap c) = 0
brings Return = 0
brings (Write rd v n) = v

abbrev pub result_operand : ℕ → Option Judgement → Operand
result_operand t (Some j) = Value (brings j)
result_operand t None = Awaits t

-- an operand comes from the register, or from the entry that its tag names if that is done, else it waits
abbrev pub operand_by : Core → ℕ → Option ℕ → Operand
operand_by k r None = Value (register_of k.machine r)
operand_by k r (Some t) = result_operand t (entry_in k.buffer t).result

abbrev pub operand_of : Core → ℕ → Operand
operand_of k r = operand_by k r (tag_of k.tags r)

abbrev pub fetched_word : Core → Option ℕ
fetched_word k = word_at k.machine.program k.fetch

abbrev pub asked : Core → Decoded
asked k = decoded (serves k.served) (fetched_word k)

-- a trap and MRET are done at once; other words wait for their outcome
abbrev pub entry_for : ℕ → ℕ → Decoded → Entry
entry_for pc w (AsksTrap c) = record { pc = pc; word = w; destination = 0; result = Some (Trap c) }
entry_for pc w AsksReturn = record { pc = pc; word = w; destination = 0; result = Some Return }
entry_for pc w (Work c i) = record { pc = pc; word = w; destination = i.rd; result = None }

abbrev pub new_entry : Core → Entry
new_entry k = entry_for k.fetch (word_or0 (fetched_word k)) (asked k)

abbrev pub new_station : Core → Class → Instruction → Station
new_station k c i =
    record {
      tag = next_slot k.buffer;
      class = c;
      word = word_or0 (fetched_word k);
      pc = k.fetch;
      a = operand_of k i.rs1;
      b = operand_of k i.rs2;
    }

abbrev pub needs_station : Decoded → Bool
needs_station (AsksTrap c) = false
needs_station AsksReturn = false
needs_station (Work c i) = true

-- the buffer is looked at before the stations
abbrev pub issue_answer : Core → Result ℕ IssueFault
issue_answer k =
    cond (full k.buffer) (Err BufferFull)
    (cond (needs_station (asked k) && not (any_free k.stations.places)) (Err NoStation) (Ok (next_slot k.buffer)))

abbrev pub stations_for : Decoded → Core → Stations
stations_for (AsksTrap c) k = k.stations
stations_for AsksReturn k = k.stations
stations_for (Work c i) k = all_placed (new_station k c i) k.stations

-- the operands are read before the destination is tagged
abbrev pub issued : Core → Core
issued k =
    record {
      machine = k.machine;
      line = k.line;
      served = k.served;
      fetch = sum k.fetch 4;
      buffer = pushed (new_entry k) k.buffer;
      stations = stations_for (asked k) k;
      tags = tagged (new_entry k).destination (next_slot k.buffer) k.tags;
    }

-- dispatch -------------------------------------------------------------------

-- the station of a job that went to the unit is free
abbrev pub sent : Job → Core → Core
sent j k =
    record {
      machine = k.machine;
      line = k.line;
      served = k.served;
      fetch = k.fetch;
      buffer = k.buffer;
      stations = all_freed j.tag k.stations;
      tags = k.tags;
    }

-- complete -------------------------------------------------------------------

-- what an outcome brings to those that wait for it, whatever its destination
abbrev pub outcome_brings : Outcome → ℕ
outcome_brings o = brings (judged_outcome 0 (Some o))

-- the entry whose tag arrived is done
abbrev pub finished_entry : Outcome → Entry → Entry
finished_entry o e = with_result (judged_outcome e.destination (Some o)) e

-- and each operand that waits for it is filled
abbrev pub completed_by : Option Offer → Core → Core
completed_by None k = k
completed_by (Some o) k =
    record {
      machine = k.machine;
      line = k.line;
      served = k.served;
      fetch = k.fetch;
      buffer = replaced o.tag (finished_entry o.outcome (entry_in k.buffer o.tag)) k.buffer;
      stations = all_woken o.tag (outcome_brings o.outcome) k.stations;
      tags = k.tags;
    }

abbrev pub complete_answer : Option Offer → Option ℕ
complete_answer None = None
complete_answer (Some o) = Some o.tag

-- retire ---------------------------------------------------------------------

-- on a trap, MRET, an interrupt, or a next address other than pc + 4 nothing younger may go on
abbrev pub diverts : Bool → Judgement → Machine → Bool
diverts line (Trap c) m = true
diverts line Return m = true
diverts line (Write rd v n) m = not (n == sum m.pc 4) || (line && m.trap.mie)

-- one step of the machine with the result of the oldest entry
abbrev pub stepped : Core → Entry → Judgement → Machine × Record
stepped k e j = applied k.line e.word j k.machine

-- the oldest entry leaves, and its destination loses the tag only if the tag is the entry's
abbrev pub retired_on : Core → Entry → Judgement → Core
retired_on k e j =
    record {
      machine = (stepped k e j).0;
      line = k.line;
      served = k.served;
      fetch = k.fetch;
      buffer = popped k.buffer;
      stations = k.stations;
      tags = untagged e.destination k.buffer.head k.tags;
    }

-- everything in flight is dropped, and fetch begins at the new pc
abbrev pub flushed : Core → Entry → Judgement → Core
flushed k e j =
    record {
      machine = (stepped k e j).0;
      line = k.line;
      served = k.served;
      fetch = (stepped k e j).0.pc;
      buffer = emptied k.buffer;
      stations = no_stations;
      tags = no_tags;
    }

-- the line -------------------------------------------------------------------

abbrev pub lined : Bool → Core → Core
lined up k =
    record {
      machine = k.machine;
      line = up;
      served = k.served;
      fetch = k.fetch;
      buffer = k.buffer;
      stations = k.stations;
      tags = k.tags;
    }
