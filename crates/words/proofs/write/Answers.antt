-- What the tests find is what `write_word` asks, and what is written reads back.
use Rattle.std.proofs.Common.{◌≡◌, true, Ok, sym, ap, ◌∙◌, w32, SFits, rules}
use Rattle.std.proofs.lemmas.Int.{to_z-of_z}
use Rattle.words.specs.declared.table.Row.{Row}
use Rattle.words.specs.Fields.{joined}
use Rattle.words.specs.Table.{row_of}
use Rattle.words.specs.Formats.{registers_fit, immediate_fits, lay_of}
use Rattle.words.specs.Words.{write_word}
use Rattle.words.proofs.Trips.{write_back, one_instruction}
use Rattle.words.proofs.write.Goals as goal

pub returns : goal.returns
returns c =
    let i = c.args.instruction in
    let k = row_of i.operation in
    let h = c.row_of-row.ensures in
    let t : SFits w32 i.immediate = search rules in
    let r : registers_fit k.format i ≡ true =
    ap (λ (x : Row). registers_fit x.format i) (sym h) ∙ sym c.registers_fit.ensures ∙ c.if-not-registers_fit.false in
    let m-fits = simp to_z-of_z at c.immediate_fits.ensures in
    let m : immediate_fits k.format i.immediate ≡ true =
    ap (λ (x : Row). immediate_fits x.format i.immediate) (sym h) ∙ sym m-fits ∙ c.if-not-immediate_fits.false in
    let e : c.join.result ≡ joined (lay_of k i) = c.join.ensures ∙ ap joined (c.lay.ensures ∙ ap (λ (x : Row). lay_of x i) h) in
    let value : Ok c.join.result ≡ write_word i = simp (r, m, e) in
    record {
      value = value;
      back = write_back i c.join.result t (sym value);
      one = one_instruction i c.join.result t (sym value);
    }
