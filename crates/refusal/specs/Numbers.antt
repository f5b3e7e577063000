-- The number of each refusal.
-- Assumes nothing.
use Rattle.std.specs.Prelude.{ℕ}
use Rattle.refusal.specs.declared.LoadFault.{LoadFault}
use Rattle.refusal.specs.declared.LoadFault.TheVariants.{Overlong, Skew}
use Rattle.refusal.specs.declared.SkewedAddress.{SkewedAddress}
use Rattle.refusal.specs.declared.NoRegister.{NoRegister}
use Rattle.refusal.specs.declared.IssueFault.{IssueFault}
use Rattle.refusal.specs.declared.IssueFault.TheVariants.{BufferFull, NoStation}
use Rattle.refusal.specs.declared.NoneGoes.{NoneGoes}
use Rattle.refusal.specs.declared.RetireFault.{RetireFault}
use Rattle.refusal.specs.declared.RetireFault.TheVariants.{Empty, HeadWaits}
use Rattle.refusal.specs.declared.NoRoom.{NoRoom}
use Rattle.refusal.specs.declared.WriteFault.{WriteFault}
use Rattle.refusal.specs.declared.WriteFault.TheVariants.{BadRegister, BadImmediate}
use Rattle.refusal.specs.declared.IllegalWord.{IllegalWord}

-- load: more words than the program table holds; then pc or vector no multiple of 4
abbrev pub load_fault_number : LoadFault → ℕ
load_fault_number Overlong = 1
load_fault_number Skew = 2

-- a write of pc with no multiple of 4
abbrev pub skew_number : SkewedAddress → ℕ
skew_number e = 2

-- a register number above 31
abbrev pub no_register_number : NoRegister → ℕ
no_register_number e = 3

-- issue: 16 entries are in flight; then no reservation station is free
abbrev pub issue_fault_number : IssueFault → ℕ
issue_fault_number BufferFull = 10
issue_fault_number NoStation = 11

-- dispatch: nothing may go to a unit
abbrev pub none_goes_number : NoneGoes → ℕ
none_goes_number e = 12

-- retire: nothing is in flight; then the oldest is not done
abbrev pub retire_fault_number : RetireFault → ℕ
retire_fault_number Empty = 13
retire_fault_number HeadWaits = 14

-- a unit's take: it has no room for the job
abbrev pub no_room_number : NoRoom → ℕ
no_room_number e = 15

-- writing a word: a register that the operation lacks or that does not exist; then an immediate that it cannot hold
abbrev pub write_fault_number : WriteFault → ℕ
write_fault_number BadRegister = 20
write_fault_number BadImmediate = 21

-- reading a word
abbrev pub illegal_word_number : IllegalWord → ℕ
illegal_word_number e = 22
