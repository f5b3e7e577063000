-- The tie between a running core and the plan: one clause an idea. Start makes it, and each call keeps it.
-- Assumes nothing.
use Rattle.std.proofs.Common.{◌≡◌, ℕ, ◌<◌, ◌≤◌, Bool, ◌⊎◌, List, [], ◌∷◌, length, Some, None, Option}
use Rattle.isa.specs.declared.instruction.Instruction.{Instruction}
use Rattle.isa.specs.declared.operation.Class.{Class}
use Rattle.machine.specs.declared.decode.Decoded.TheVariants.{Work}
use Rattle.machine.specs.declared.judgement.Judgement.{Judgement}
use Rattle.machine.specs.declared.state.Machine.{Machine}
use Rattle.machine.specs.Classes.{serves}
use Rattle.machine.specs.States.{register_of}
use Rattle.machine.specs.Step.{fetched, word_or0, judgement_of}
use Rattle.units.specs.declared.job.Job.{Job}
use Rattle.units.specs.Meaning.{UnitModel, Held}
use Rattle.tables.specs.declared.buffer.Buffer.{Buffer}
use Rattle.tables.specs.declared.entry.Entry.{Entry}
use Rattle.tables.specs.declared.station.Operand.{Operand}
use Rattle.tables.specs.declared.station.Operand.TheVariants.{Value, Awaits}
use Rattle.tables.specs.declared.station.Station.{Station}
use Rattle.tables.specs.Buffers.{slot_at, entry_at}
use Rattle.tables.specs.Tagging.{tag_of}
use Rattle.law.specs.declared.state.Core.{Core}
use Rattle.law.specs.Pasts.{Sized}
use Rattle.law.proofs.Plan.{destination_of, asks, result, ahead, writer}

-- every station that is taken
abbrev pub AllStations : (Station → Type 0) → List (Option Station) → Type 0
AllStations P [] = Unit {0}
AllStations P (None ∷ l) = AllStations P l
AllStations P (Some s ∷ l) = P s × AllStations P l

-- the entry in slot t has a station
abbrev pub InStation : ℕ → List (Option Station) → Type 0
InStation t [] = ⊥
InStation t (None ∷ l) = InStation t l
InStation t (Some s ∷ l) = (s.tag ≡ t) ⊎ InStation t l

-- the tag of the entry with that many older ones
abbrev pub slot_of : Buffer → Option ℕ → Option ℕ
slot_of b None = None
slot_of b (Some n) = Some (slot_at b n)

module _ (served : Class → Bool) where
  -- an entry has pc, word and destination of the plan, and if it is done the plan's result; x is the machine before it
  pub record EntryTied (x : Machine) (e : Entry) : Type 0 where
    pub pc : e.pc ≡ x.pc
    pub word : e.word ≡ word_or0 (fetched x)
    pub destination : e.destination ≡ destination_of (asks served x)
    pub result : (j : Judgement) → e.result ≡ Some j → j ≡ judgement_of served x

  module _ (q : Buffer) (x : Machine) where
    -- an older entry that is not done will bring the plan's value of register r before entry i
    pub record Brought (i r t : ℕ) : Type 0 where
      pub from : ℕ
      pub older : from < i
      pub tag : t ≡ slot_at q from
      pub waits : (entry_at q from).result ≡ None
      pub value : register_of (ahead served x i) r ≡ result served (ahead served x from)

    -- an operand is the plan's value of its register, or the tag that will bring it
    abbrev pub OperandTied : ℕ → ℕ → Operand → Type 0
    OperandTied i r (Value v) = v ≡ register_of (ahead served x i) r
    OperandTied i r (Awaits t) = Brought i r t

    -- a tag, a word and an address are those of an entry that is not done and that asks for a unit of class c
    pub record Asked (i t w p : ℕ) (c : Class) (f : Instruction) : Type 0 where
      pub below : i < q.count
      pub tag : t ≡ slot_at q i
      pub waits : (entry_at q i).result ≡ None
      pub work : asks served (ahead served x i) ≡ Work c f
      pub word : w ≡ word_or0 (fetched (ahead served x i))
      pub pc : p ≡ (ahead served x i).pc

    -- a station stands for an entry that is not done
    pub record StationTied (s : Station) : Type 0 where
      pub index : ℕ
      pub instruction : Instruction
      pub asked : Asked index s.tag s.word s.pc s.class instruction
      pub a : OperandTied index instruction.rs1 s.a
      pub b : OperandTied index instruction.rs2 s.b

    -- a job is that of an entry that is not done, with the plan's operands
    pub record JobTied (t : ℕ) (j : Job) : Type 0 where
      pub index : ℕ
      pub class : Class
      pub instruction : Instruction
      pub asked : Asked index t j.word j.pc class instruction
      pub tag : j.tag ≡ t
      pub a : j.a ≡ register_of (ahead served x index) instruction.rs1
      pub b : j.b ≡ register_of (ahead served x index) instruction.rs2

module _ {A : Type 0} (m : UnitModel A) (served : Class → Bool) (stay : ℕ) where
  -- a unit holds a job under a tag
  abbrev pub HeldUnder : A → ℕ → Type 0
  HeldUnder u t = (h : Held) × (m.held u t ≡ Some h)

  -- what never changes: the sizes of the tables, and what the unit serves
  pub record Shaped (c : Core) (u : A) : Type 0 where
    pub registers : Sized c.machine
    pub entries : length c.buffer.entries ≡ 16
    pub places : length c.stations.places ≡ 8
    pub tags : length c.tags.tags ≡ 32
    pub head : c.buffer.head < 16
    pub count : c.buffer.count ≤ 16
    pub knows : (a : Class) → serves c.served a ≡ served a
    pub serves : (a : Class) → m.serves u a ≡ served a
    pub stays : m.stay u ≡ stay
    pub sounds : m.sound u

  -- the entries are those of the plan, and so is the address of the next
  pub record EntriesTied (x : Machine) (b : Buffer) (at : ℕ) : Type 0 where
    pub fetch : at ≡ (ahead served x b.count).pc
    pub entries : (i : ℕ) → i < b.count → EntryTied served (ahead served x i) (entry_at b i)

  -- a register has the tag of the youngest entry that writes it
  abbrev pub TagsTied : Core → Type 0
  TagsTied c = (r : ℕ) → r < 32 → tag_of c.tags r ≡ slot_of c.buffer (writer served c.machine r c.buffer.count)

  -- what waits in a station or is held is an entry that is not done, and is in one of the two places
  pub record WorkTied (c : Core) (u : A) : Type 0 where
    pub stations : AllStations (StationTied served c.buffer c.machine) c.stations.places
    pub jobs : (t : ℕ) (h : Held) → m.held u t ≡ Some h → JobTied served c.buffer c.machine t h.job
    pub apart : AllStations (λ s. m.held u s.tag ≡ None) c.stations.places
    -- an entry that is not done is in one of them
    pub somewhere : (i : ℕ) → i < c.buffer.count → (entry_at c.buffer i).result ≡ None
        → InStation (slot_at c.buffer i) c.stations.places ⊎ HeldUnder u (slot_at c.buffer i)

  -- of the core without its unit, and the unit
  pub record Tied (c : Core) (u : A) : Type 0 where
    pub shaped : Shaped c u
    pub entries : EntriesTied c.machine c.buffer c.fetch
    pub tags : TagsTied c
    pub work : WorkTied c u
