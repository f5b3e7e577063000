-- The classes that the supplied pipelines serve.
-- Assumes nothing.
use Rattle.std.specs.Prelude.{Bool, true, false}
use Rattle.isa.specs.declared.operation.Class.{Class}
use Rattle.isa.specs.declared.operation.Class.TheVariants.{Plain, Multiply, Divide, Transfer}

abbrev pub serves_plain : Class → Bool
serves_plain Plain = true
serves_plain Multiply = false
serves_plain Divide = false
serves_plain Transfer = true

abbrev pub serves_multiply : Class → Bool
serves_multiply Plain = false
serves_multiply Multiply = true
serves_multiply Divide = false
serves_multiply Transfer = false
