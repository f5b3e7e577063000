-- What a call does to the queue is what it promises of the unit.
-- Assumes nothing.
use Rattle.pipelines.specs.PipelineUnitLemmas.{jobs}
use Rattle.pipelines.specs.Laws.{same, takes, steps}
use Rattle.pipelines.proofs.pipeline.PipelineUnit.TheImpl.Goals as goal

pub take-tells : goal.take-tells
take-tells g c =
    let s = g.S.Service in
    let u = c.args.self.now in
    let v = c.new.self.now in
    record {
      answer = c.ensures.answer;
      same = same s.LATENCY s.CAPACITY s.serves jobs u v;
      taken = takes s.LATENCY s.CAPACITY s.serves jobs u v c.args.job c.ensures.refused c.ensures.exact;
    }

pub step-tells : goal.step-tells
step-tells g c =
    let s = g.S.Service in
    let u = c.args.self.now in
    let v = c.new.self.now in
    record {
      same = same s.LATENCY s.CAPACITY s.serves jobs u v;
      stepped = steps s.LATENCY s.CAPACITY s.serves jobs u v c.args.accepted c.ensures;
    }
