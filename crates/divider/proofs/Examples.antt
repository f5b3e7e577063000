-- Results at the edges: by 0, and the one quotient that 31 bits do not hold.
-- Assumes nothing.
use Rattle.std.proofs.Common.{◌≡◌, true, false, refl}
use Rattle.divider.specs.declared.division.Division.{Division}
use Rattle.divider.specs.Signs.{result_of}

abbrev div : Division
div = record { signed = true; remainder = false }

abbrev rem : Division
rem = record { signed = true; remainder = true }

-- -7 by 0 is -1, with remainder -7
minus_7_by_0 : result_of div 0xffff_fff9 0 ≡ 0xffff_ffff
minus_7_by_0 = refl

minus_7_modulo_0 : result_of rem 0xffff_fff9 0 ≡ 0xffff_fff9
minus_7_modulo_0 = refl

-- -2^31 by -1 is 2^31, whose bits are 0x80000000, with remainder 0
least_by_minus_1 : result_of div 0x8000_0000 0xffff_ffff ≡ 0x8000_0000
least_by_minus_1 = refl

least_modulo_minus_1 : result_of rem 0x8000_0000 0xffff_ffff ≡ 0
least_modulo_minus_1 = refl
