-- The reorder buffer: up to 16 entries, oldest first, in slots that go round.
-- Assumes nothing.
use Rattle.std.specs.Prelude.{ℕ, ◌+◌, ◌-◌, ◌%◌, Bool, cond, replicate, Some, None, Ok, Err, Option, Result, ◌==◌, nat_le, slice_index_or, slice_set}
use Rattle.refusal.specs.declared.IssueFault.{IssueFault}
use Rattle.refusal.specs.declared.IssueFault.TheVariants.{BufferFull}
use Rattle.machine.specs.declared.judgement.Judgement.{Judgement}
use Rattle.tables.specs.declared.buffer.Buffer.{Buffer}
use Rattle.tables.specs.declared.entry.Entry.{Entry}

-- what a slot holds before it is used
abbrev pub blank : Entry
blank = record { pc = 0; word = 0; destination = 0; result = None }

abbrev pub no_entries : Buffer
no_entries = record { entries = replicate 16 blank; head = 0; count = 0 }

-- the entry in a slot
abbrev pub entry_in : Buffer → ℕ → Entry
entry_in b t = slice_index_or b.entries t blank

-- the slot of the entry with i older ones before it
abbrev pub slot_at : Buffer → ℕ → ℕ
slot_at b i = (b.head + i) % 16

abbrev pub entry_at : Buffer → ℕ → Entry
entry_at b i = entry_in b (slot_at b i)

abbrev pub full : Buffer → Bool
full b = nat_le 16 b.count

abbrev pub oldest_entry : Buffer → Option Entry
oldest_entry b = cond (b.count == 0) None (Some (entry_at b 0))

-- the slot that the next entry takes
abbrev pub next_slot : Buffer → ℕ
next_slot b = slot_at b b.count

abbrev pub pushed : Entry → Buffer → Buffer
pushed e b = record { entries = slice_set b.entries (next_slot b) e; head = b.head; count = b.count + 1 }

-- a push into a full buffer is refused, and changes nothing
abbrev pub push_answer : Buffer → Result ℕ IssueFault
push_answer b = cond (full b) (Err BufferFull) (Ok (next_slot b))

abbrev pub push_state : Entry → Buffer → Buffer
push_state e b = cond (full b) b (pushed e b)

-- the oldest leaves
abbrev pub popped : Buffer → Buffer
popped b = record { entries = b.entries; head = (b.head + 1) % 16; count = b.count - 1 }

-- every entry leaves, and slots begin at 0 again
abbrev pub emptied : Buffer → Buffer
emptied b = record { entries = b.entries; head = 0; count = 0 }

-- an entry is done
abbrev pub with_result : Judgement → Entry → Entry
with_result j e = record { pc = e.pc; word = e.word; destination = e.destination; result = Some j }

-- the entry in a slot becomes another
abbrev pub replaced : ℕ → Entry → Buffer → Buffer
replaced t e b = record { entries = slice_set b.entries t e; head = b.head; count = b.count }
