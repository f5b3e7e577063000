-- The line that names each refusal: its number, and what was wrong.
-- Assumes nothing.
use Rattle.std.specs.Prelude.{ℕ, List, codes}
use Rattle.refusal.specs.declared.LoadFault.{LoadFault}
use Rattle.refusal.specs.declared.LoadFault.TheVariants.{Overlong, Skew}
use Rattle.refusal.specs.declared.SkewedAddress.{SkewedAddress}
use Rattle.refusal.specs.declared.NoRegister.{NoRegister}
use Rattle.refusal.specs.declared.IssueFault.{IssueFault}
use Rattle.refusal.specs.declared.IssueFault.TheVariants.{BufferFull, NoStation}
use Rattle.refusal.specs.declared.NoneGoes.{NoneGoes}
use Rattle.refusal.specs.declared.RetireFault.{RetireFault}
use Rattle.refusal.specs.declared.RetireFault.TheVariants.{Empty, HeadWaits}
use Rattle.refusal.specs.declared.NoRoom.{NoRoom}
use Rattle.refusal.specs.declared.WriteFault.{WriteFault}
use Rattle.refusal.specs.declared.WriteFault.TheVariants.{BadRegister, BadImmediate}
use Rattle.refusal.specs.declared.IllegalWord.{IllegalWord}

abbrev pub load_fault_line : LoadFault → List ℕ
load_fault_line Overlong = codes "1 overlong"
load_fault_line Skew = codes "2 skew"

abbrev pub skew_line : SkewedAddress → List ℕ
skew_line e = codes "2 skew"

abbrev pub no_register_line : NoRegister → List ℕ
no_register_line e = codes "3 no register"

abbrev pub issue_fault_line : IssueFault → List ℕ
issue_fault_line BufferFull = codes "10 buffer full"
issue_fault_line NoStation = codes "11 no station"

abbrev pub none_goes_line : NoneGoes → List ℕ
none_goes_line e = codes "12 none goes"

abbrev pub retire_fault_line : RetireFault → List ℕ
retire_fault_line Empty = codes "13 empty"
retire_fault_line HeadWaits = codes "14 head waits"

abbrev pub no_room_line : NoRoom → List ℕ
no_room_line e = codes "15 no room"

abbrev pub write_fault_line : WriteFault → List ℕ
write_fault_line BadRegister = codes "20 bad register"
write_fault_line BadImmediate = codes "21 bad immediate"

abbrev pub illegal_word_line : IllegalWord → List ℕ
illegal_word_line e = codes "22 illegal word"
