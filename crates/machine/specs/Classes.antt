-- The set of served classes.
-- Assumes nothing.
use Rattle.std.specs.Prelude.{Bool, true}
use Rattle.isa.specs.declared.operation.Class.{Class}
use Rattle.isa.specs.declared.operation.Class.TheVariants.{Plain, Multiply, Divide, Transfer}
use Rattle.machine.specs.declared.classes.Classes.{Classes}

abbrev pub serves : Classes → Class → Bool
serves s Plain = s.plain
serves s Multiply = s.multiply
serves s Divide = s.divide
serves s Transfer = s.transfer

abbrev pub every_class : Classes
every_class = record { plain = true; multiply = true; divide = true; transfer = true }
