-- The two pipelines that are supplied.
-- Assumes nothing.
use Rattle.units.specs.Meaning.{UnitModel}
use Rattle.pipelines.specs.declared.pipeline.Pipeline.{Pipeline}
use Rattle.pipelines.specs.declared.plain.PlainService.{PlainService}
use Rattle.pipelines.specs.declared.multiplier.MultiplyService.{MultiplyService}
use Rattle.pipelines.specs.PipelineUnitLemmas.{jobs}
use Rattle.pipelines.specs.Pipelines.{pipeline}
use Rattle.pipelines.specs.Services.{serves_plain, serves_multiply}

abbrev pub Plain : Type 0
Plain = Pipeline PlainService

-- no latency, two jobs
abbrev pub plain : UnitModel Plain
plain = pipeline 0 2 serves_plain jobs

abbrev pub Multiplier : Type 0
Multiplier = Pipeline MultiplyService

-- a latency of three steps, four jobs
abbrev pub multiplier : UnitModel Multiplier
multiplier = pipeline 3 4 serves_multiply jobs
