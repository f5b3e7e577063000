-- The laws, at the job that the unit has.
use Rattle.std.proofs.Common.{refl}
use Rattle.units.specs.Jobs.{word_class}
use Rattle.single.specs.Laws.{takes}
use Rattle.single.proofs.SingleUnit.TheImpl.Goals as goal

pub take-tells : goal.take-tells
take-tells c =
    let u = c.args.self.now in
    let v = c.new.self.now in
    let j = c.args.job in
    record {
      answer = c.ensures.answer;
      same = record { serves = λ k. refl; stay = refl };
      taken = takes u.job v.job j (word_class j.word) c.ensures.exact refl;
    }
