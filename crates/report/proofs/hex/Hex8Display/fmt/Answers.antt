use Rattle.std.proofs.Common.{◌≡◌, Some, subst, ap, arith}
use Rattle.std.specs.Fmt.{styled_digits_output, DisplaysOnOk}
use Rattle.report.specs.Hex.{hex8}
use Rattle.report.proofs.HexDigits.{padded8}
use Rattle.report.proofs.hex.Hex8Display.fmt.Goals as goal

pub returns-clause-writes : goal.returns-clause-writes
returns-clause-writes g c plain ok =
    let shown : styled_digits_output c.in_radix.result c.laid_out.result ≡ Some (hex8 c.args.self.now.0) = rw (c.laid_out.ensures, c.in_radix.ensures) (ap Some (padded8 c.args.self.now.0 (omega arith))) in
    subst (λ o. DisplaysOnOk g.W.Write.write_str_gives c.args.f.now c.write.result o c.write.new.self) shown c.write.ensures.writes plain ok
