use Rattle.std.specs.Prelude.{List}
use Rattle.pipelines.specs.declared.pipeline.Pipeline.{Pipeline}
use Rattle.pipelines.specs.declared.queue.Timed.{Timed}
use Rattle.pipelines.specs.Queues.{jobs_of}

abbrev pub jobs : {S : Type 0} → Pipeline S → List Timed
jobs u = jobs_of u.queue
